-- A desk and a wire as a call of the server sees them.
use Rattle.std.specs.Prelude.{◌≡◌, ℕ, ◌≤◌, List}
use Rattle.cube_model.specs.declared.outcome.Outcome.{Outcome}
use Rattle.cube_model.specs.Rooms.{Room}
use Rattle.cube_io.specs.Desks.{Manner}
use Rattle.cube_io.specs.Seen.{StoreState, WireState}
use Rattle.cube_io.specs.States.{State}
use Rattle.cube_io.specs.Told.{PlaysOn}

-- A desk as it stands: what it does with an ask, the rooms that it answers for, how many more asks it has space for, and what became of
-- those so far.
pub record DeskState : Type 0 where
  pub manner : Manner
  pub rooms : List Room
  pub capacity : ℕ
  pub outcomes : List Outcome

-- One moment of a run: the desk, of which states of logs every crash leaves just the history of a room, or that with one more request,
-- and the store.
pub record Moment : Type 1 where
  pub desk : DeskState
  pub exact : List Room → ℕ → State → Type 0
  pub within : List Room → ℕ → State → Type 0
  pub store : StoreState

-- as a call sees it, of what a desk tells
abbrev pub moment : {X : Type 0} → (X → Manner) → (X → List Room) → (X → ℕ) → (X → List Outcome) → (X → List Room → ℕ → State → Type 0) → (X → List Room → ℕ → State → Type 0) → X → StoreState → Moment
moment manner rooms capacity outcomes exact within desk store = record {
  desk = record { manner = manner desk; rooms = rooms desk; capacity = capacity desk; outcomes = outcomes desk };
  exact = exact desk;
  within = within desk;
  store = store;
}

-- Sends and closes on a wire: it plays on, no failure of another call was counted, and the count of sends that failed did not fall.
pub record OnlySends (old new : WireState) : Type 0 where
  pub plays : PlaysOn old new
  pub faults : new.faults ≡ old.faults
  pub sends : old.send_faults ≤ new.send_faults
