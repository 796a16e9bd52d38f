-- What a desk and its store tell at one moment.
use Rattle.std.specs.Prelude.{ℕ, List}
use Rattle.cube_model.specs.declared.outcome.Outcome.{Outcome}
use Rattle.cube_model.specs.Rooms.{Room}
use Rattle.cube_io.specs.Desks.{Manner}
use Rattle.cube_io.specs.Seen.{StoreState}
use Rattle.cube_io.specs.States.{State}

-- Of a desk: what it does with an ask, its rooms, what became of the asks so far, how many asks it has space for, and of which states of
-- logs every crash leaves just the history of a room, or that with one more request. And the store that it belongs to.
pub record Moment : Type 1 where
  pub manner : Manner
  pub rooms : List Room
  pub outcomes : List Outcome
  pub capacity : ℕ
  pub exact : List Room → ℕ → State → Type 0
  pub within : List Room → ℕ → State → Type 0
  pub store : StoreState

-- ---- as a call sees it, of what a desk tells

abbrev pub moment : {D : Type 0} → (D → Manner) → (D → List Room) → (D → List Outcome) → (D → ℕ) → (D → List Room → ℕ → State → Type 0) → (D → List Room → ℕ → State → Type 0) → D → StoreState → Moment
moment manner rooms outcomes capacity exact within desk store =
    record { manner = manner desk; rooms = rooms desk; outcomes = outcomes desk; capacity = capacity desk; exact = exact desk; within = within desk; store = store }
