-- What the calls of stores and wires leave as it was, and what an object tells that tells nothing.
use Rattle.std.specs.Prelude.{◌≡◌, ◌≢◌, ◌⊎◌, ℕ, ◌+◌, ◌≤◌, Bool, false, IsTrue, List, [], ◌∷◌, ◌++◌, Result, Ok, Err}
use Rattle.cube_io.specs.declared.faults.Failed.{Failed}
use Rattle.cube_io.specs.Seen.{StoreState, WireState}
use Rattle.cube_io.specs.States.{settled}
use Rattle.cube_io.specs.Wires.{no_plan}

-- ---- stores

-- Work on an attached store by at most so many calls: it tells what it told before and stays attached, and where it tells it was asked
-- for no name.
pub record Works (old new : StoreState) (most : ℕ) : Type 0 where
  pub told : new.told ≡ old.told
  pub attached : IsTrue new.attached
  pub names : IsTrue old.told → new.names ≡ old.names
  pub calls : IsTrue old.told → new.calls ≤ old.calls + most

-- no log changed
abbrev pub SameLogs : StoreState → StoreState → Type 0
SameLogs old new = IsTrue old.told → (k : ℕ) → new.logs k ≡ old.logs k

-- no log but this one changed
abbrev pub OthersStay : ℕ → StoreState → StoreState → Type 0
OthersStay log old new = IsTrue old.told → (k : ℕ) → k ≢ log → new.logs k ≡ old.logs k

-- a store that tells nothing
abbrev pub silent_store : ℕ → Bool → StoreState
silent_store faults attached = record { faults = faults; attached = attached; told = false; logs = λ k. record { state = settled []; trail = [] }; names = []; calls = 0 }

-- ---- wires

-- A call on a wire: it tells what it told before, what it is to play stays, and where it tells it was asked for no address.
pub record PlaysOn (old new : WireState) : Type 0 where
  pub told : new.told ≡ old.told
  pub plan : new.plan ≡ old.plan
  pub heard : IsTrue old.told → new.heard ≡ old.heard

-- a wire that tells nothing
abbrev pub silent_wire : ℕ → ℕ → WireState
silent_wire faults send_faults = record { faults = faults; send_faults = send_faults; told = false; log = []; heard = []; plan = no_plan }

-- ---- names and addresses

-- a name was asked for; after a failed call it may lack
abbrev pub AsksFor : Result (Unit {0}) Failed → List (List ℕ) → List (List ℕ) → List ℕ → Type 0
AsksFor (Ok u) old new name = new ≡ old ++ name ∷ []
AsksFor (Err e) old new name = (new ≡ old) ⊎ (new ≡ old ++ name ∷ [])

-- an address was asked for, where a connection may be still for so many seconds; after a failed call it may lack
abbrev pub ListensOn : Result (Unit {0}) Failed → List (List ℕ × ℕ) → List (List ℕ × ℕ) → List ℕ → ℕ → Type 0
ListensOn (Ok u) old new address idle = new ≡ old ++ (address, idle) ∷ []
ListensOn (Err e) old new address idle = (new ≡ old) ⊎ (new ≡ old ++ (address, idle) ∷ [])
