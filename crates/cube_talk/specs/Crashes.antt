-- What a crash may leave of a log while a desk answers the lines of `ask`.
use Rattle.std.specs.Prelude.{◌≡◌, ◌≢◌, ◌⊎◌, ◌↔◌, ◌≤◌, ◌+◌, ◌*◌, ℕ, false, IsTrue, List, ◌∷◌, ◌++◌, length}
use Rattle.cube_io.specs.Causes.{RoseBy}
use Rattle.cube_io.specs.Desks.{Manner, ForeignStay, GivesRooms, LeavesAll, faults_in}
use Rattle.cube_io.specs.Seen.{SourceState, SinkState, Seen}
use Rattle.cube_io.specs.States.{State, Gained}
use Rattle.cube_model.specs.declared.outcome.Outcome.{Outcome}
use Rattle.cube_model.specs.declared.outcome.Outcome.TheVariants.{Given, NoMemory}
use Rattle.cube_model.specs.Rooms.{Room}
use Rattle.cube_talk.specs.Asks.{is_too_long, ask_of, asks_in, rooms_behind, FailedFresh, AnswersAsks, Talked}
use Rattle.cube_talk.specs.Moments.{Moment}
use Rattle.cube_talk.specs.declared.talk.TalkEnd.{TalkEnd}

-- rooms on the way: those behind the first of the lines
pub record IsOnTheWay (m : Manner) (rooms : List Room) (ls : List (List ℕ)) (os : List Outcome) (here : List Room) : Type 0 where
  pub first : List (List ℕ)
  pub more : List (List ℕ)
  pub split : ls ≡ first ++ more
  pub are : here ≡ rooms_behind m rooms first os

-- rooms on the way, with the request of the line that comes next: that of the ask in hand, which found memory
pub record IsWithNext (m : Manner) (rooms : List Room) (ls : List (List ℕ)) (os : List Outcome) (here : List Room) : Type 0 where
  pub first : List (List ℕ)
  pub line : List ℕ
  pub more : List (List ℕ)
  pub split : ls ≡ first ++ line ∷ more
  pub short : is_too_long line ≡ false
  pub earlier : List Outcome
  pub outcome : Outcome
  pub later : List Outcome
  pub outcomes_split : os ≡ earlier ++ outcome ∷ later
  pub in_turn : length earlier ≡ asks_in first
  pub found : outcome ≢ NoMemory
  pub are : here ≡ m.next (rooms_behind m rooms first os) (ask_of line) Given

abbrev pub IsLineInHand : Manner → List Room → List (List ℕ) → List Outcome → List Room → Type 0
IsLineInHand m rooms ls os here = IsOnTheWay m rooms ls os here ⊎ IsWithNext m rooms ls os here

-- the two say the same of the states of logs
abbrev pub IsSame : (List Room → ℕ → State → Type 0) → (List Room → ℕ → State → Type 0) → Type 0
IsSame p q = (rooms : List Room) (log : ℕ) (s : State) → p rooms log s ↔ q rooms log s

-- a state whose images recover the histories of rooms on the way, one alone or with one more request
abbrev pub IsPassed : Manner → List Room → List (List ℕ) → List Outcome → (List Room → ℕ → State → Type 0) → ℕ → State → Type 0
IsPassed m rooms ls os within log s = (here : List Room) × IsOnTheWay m rooms ls os here × within here log s

-- While these lines were answered, every crash left the histories of some rooms on the way, one alone or with one more request; behind
-- them those of the last, and just those where the journal never failed. Beyond what it could leave before, that request is one in hand.
-- Logs that keep no room's history stayed. The store was called four times at most for each ask.
pub record Survives (before after : Moment) (ls : List (List ℕ)) (os : List Outcome) : Type 0 where
  pub told_stays : after.store.told ≡ before.store.told
  pub names_stay : IsTrue before.store.told → after.store.names ≡ before.store.names
  pub exact_stays : IsSame after.exact before.exact
  pub within_stays : IsSame after.within before.within
  pub passed : IsTrue before.store.told → (log : ℕ) → before.within before.rooms log (before.store.logs log).state
      → Gained (IsPassed before.manner before.rooms ls os before.within log) (before.store.logs log) (after.store.logs log)
  pub ends_within : IsTrue before.store.told → (log : ℕ) → before.within before.rooms log (before.store.logs log).state → after.within after.rooms log (after.store.logs log).state
  pub ends_exact : IsTrue before.store.told → faults_in os ≡ 0 → (log : ℕ) → before.exact before.rooms log (before.store.logs log).state → after.exact after.rooms log (after.store.logs log).state
  pub in_hand : IsTrue before.store.told → (log : ℕ) → before.within before.rooms log (before.store.logs log).state
      → LeavesAll (GivesRooms before.exact log) (IsLineInHand before.manner before.rooms ls os) (before.store.logs log) (after.store.logs log)
  pub others : ForeignStay before.within before.store after.store
  pub calls : IsTrue before.store.told → after.store.calls ≤ before.store.calls + 4 * length os

-- some lines were answered, and a crash in between left what it may
abbrev pub AnswersDurably : Moment → Moment → List (List ℕ) → List ℕ → Type 0
AnswersDurably before after ls text = (a : AnswersAsks before after ls text) × Survives before after ls a.added

-- The lines of an input were answered: the talk of the desk was written, its rooms are those behind the lines that were answered, and a
-- crash in between left what it may. The count of the store's faults rose by one or more for each ask in which the journal failed, and
-- stayed where it failed in none; it failed only for asks that would have added to a history.
pub record TalkedOver {I O : Type 0} (before after : Moment) (end : TalkEnd) (input : Seen SourceState I) (out : Seen SinkState O) : Type 0 where
  pub talked : Talked before.manner before.rooms (record { stated = before.capacity; ending = end.ending; outcomes = after.outcomes; bytes = end.bytes }) input out
  pub rooms_are : after.rooms ≡ rooms_behind before.manner before.rooms talked.took.first after.outcomes
  pub survives : Survives before after talked.took.first after.outcomes
  pub steady : faults_in after.outcomes ≡ 0 → after.store.faults ≡ before.store.faults
  pub risen : RoseBy (faults_in after.outcomes) before.store.faults after.store.faults
  pub fresh : FailedFresh before.manner before.rooms talked.took.first after.outcomes
