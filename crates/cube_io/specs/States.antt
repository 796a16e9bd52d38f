-- The states of a log, what a crash may leave of it, and what the calls of a store do to it.
use Rattle.std.specs.Prelude.{◌≡◌, ◌⊎◌, ℕ, List, [], ◌∷◌, ◌++◌, length, take, drop, map, Bool, true, false, nat_lt}
use Rattle.cube_model.specs.Cubes.{IsIn, Each}

-- the parts, one behind the other
abbrev pub joined : List (List ℕ) → List ℕ
joined [] = []
joined (p ∷ ps) = p ++ joined ps

-- What a read gives, what every crash leaves, and what may stand behind that.
pub record State : Type 0 where
  pub now : List ℕ
  pub safe : List ℕ
  pub tails : List (List ℕ)

-- A log: how it stands, and the states that it has passed, the middle of calls among them.
pub record Log : Type 0 where
  pub state : State
  pub trail : List State

-- A crash may leave these bytes: what is safe, and a prefix of one of the tails.
pub record IsImage (s : State) (bytes : List ℕ) : Type 0 where
  pub kept : List ℕ
  pub lost : List ℕ
  pub is_tail : IsIn (kept ++ lost) s.tails
  pub whole : bytes ≡ s.safe ++ kept

-- what is safe, followed by some tail, is what a read gives
abbrev pub IsWhole : State → Type 0
IsWhole s = (tail : List ℕ) × IsIn tail s.tails × (s.safe ++ tail ≡ s.now)

-- all of these bytes, and no others, on the disk
abbrev pub settled : List ℕ → State
settled bytes = record { now = bytes; safe = bytes; tails = [] ∷ [] }

-- with bytes at the end, and what then stands behind the safe part among the tails
abbrev pub appended : State → List ℕ → State
appended s bytes = record { now = s.now ++ bytes; safe = s.safe; tails = s.tails ++ drop (length s.safe) (s.now ++ bytes) ∷ [] }

-- cut to a length: a cut below the safe part shortens that, and what it cuts off may come back
abbrev pub shortened_if : Bool → State → ℕ → State
shortened_if true s len = record { now = take len s.now; safe = take len s.safe; tails = map (λ tail. drop len s.safe ++ tail) s.tails ++ [] ∷ [] }
shortened_if false s len = record { now = take len s.now; safe = s.safe; tails = s.tails ++ drop (length s.safe) (take len s.now) ∷ [] }

abbrev pub shortened : State → ℕ → State
shortened s len = shortened_if (nat_lt len (length s.safe)) s len

-- a cut of which a read sees nothing yet
abbrev pub half_cut : State → ℕ → State
half_cut s len = record { now = s.now; safe = (shortened s len).safe; tails = (shortened s len).tails }

-- the states that the parts of a piece leave, one after another
abbrev pub grown : State → List (List ℕ) → List State
grown s [] = []
grown s (p ∷ ps) = appended s p ∷ grown (appended s p) ps

-- the last state, or the first where there is none behind it
abbrev pub last_of : State → List State → State
last_of s [] = s
last_of s (t ∷ ts) = last_of t ts

-- the log passed these states and stands at the last
pub record Passed (old new : Log) (states : List State) : Type 0 where
  pub trail : new.trail ≡ old.trail ++ states
  pub state : new.state ≡ last_of old.state states

-- an append: the piece but for what is unsaid went to the end, part by part
pub record Appended (piece unsaid : List ℕ) (old new : Log) : Type 0 where
  pub parts : List (List ℕ)
  pub split : piece ≡ joined parts ++ unsaid
  pub passed : Passed old new (grown old.state parts)

-- a state in a cut: nothing done, all done, or all but what a read gives
abbrev pub IsInCut : State → ℕ → State → Type 0
IsInCut s len t = (t ≡ s) ⊎ ((t ≡ half_cut s len) ⊎ (t ≡ shortened s len))

-- a cut passes such states, and stands at one of them
pub record Cut (len : ℕ) (old new : Log) : Type 0 where
  pub states : List State
  pub each : Each (IsInCut old.state len) states
  pub passed : Passed old new states

-- a state in a sync: nothing done, or all done
abbrev pub IsInSync : State → State → Type 0
IsInSync s t = (t ≡ s) ⊎ (t ≡ settled s.now)

-- a sync passes such states
pub record Synced (old new : Log) : Type 0 where
  pub states : List State
  pub each : Each (IsInSync old.state) states
  pub passed : Passed old new states

-- the states that the log has gained have the property
pub record Gained (P : State → Type 0) (old new : Log) : Type 0 where
  pub states : List State
  pub trail : new.trail ≡ old.trail ++ states
  pub each : Each P states
