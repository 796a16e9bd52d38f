-- Desks: what a server answers for, and what it does with an ask.
use Rattle.std.specs.Prelude.{◌≡◌, ◌≢◌, ◌⊎◌, ℕ, ◌+◌, ◌≤◌, Bool, true, false, IsTrue, List, [], ◌∷◌, ◌++◌, length, count_by, if◌then◌else◌}
use Rattle.std.specs.List.{list_any}
use Rattle.cube_model.specs.declared.ask.Ask.{Ask}
use Rattle.cube_model.specs.declared.outcome.Outcome.{Outcome}
use Rattle.cube_model.specs.declared.outcome.Outcome.TheVariants.{Given, JournalFault, NoMemory}
use Rattle.cube_model.specs.declared.reply.Fixed.TheVariants as constant
use Rattle.cube_model.specs.declared.reply.Reply.{Reply}
use Rattle.cube_model.specs.declared.reply.Reply.TheVariants.{Fixed}
use Rattle.cube_model.specs.Rooms.{Room}
use Rattle.cube_io.specs.Causes.{Rose}
use Rattle.cube_io.specs.Seen.{StoreState}
use Rattle.cube_io.specs.States.{State, Log, IsImage, Gained, settled}

-- what is replied to an ask over some rooms, and the rooms behind it, by what became of it
pub record Manner : Type 0 where
  pub reply : List Room → Ask → Outcome → Reply
  pub next : List Room → Ask → Outcome → List Room

-- how many requests the histories of some rooms hold
abbrev pub entries : List Room → ℕ
entries [] = 0
entries (r ∷ rooms) = length r.history + entries rooms

-- what failed gets its constant reply and leaves the rooms
pub record IsConstant (m : Manner) : Type 0 where
  pub fault : (rooms : List Room) (ask : Ask) → (m.reply rooms ask JournalFault ≡ Fixed constant.JournalFault) × (m.next rooms ask JournalFault ≡ rooms)
  pub memory : (rooms : List Room) (ask : Ask) → (m.reply rooms ask NoMemory ≡ Fixed constant.NoMemory) × (m.next rooms ask NoMemory ≡ rooms)

-- the journal failed for the ask
abbrev pub is_fault : Outcome → Bool
is_fault Given = false
is_fault JournalFault = true
is_fault NoMemory = false

-- how often it did
abbrev pub faults_in : List Outcome → ℕ
faults_in outcomes = count_by is_fault outcomes

-- it did for some ask
abbrev pub has_fault : List Outcome → Bool
has_fault outcomes = list_any is_fault outcomes

-- the most calls of the store for an ask behind these outcomes: two, and two more where the journal failed for an earlier one
abbrev pub most_calls : List Outcome → ℕ
most_calls outcomes = if has_fault outcomes then 4 else 2

-- An ask got one outcome, and the reply and the rooms of it. The journal failed only where the ask was to be kept, and where the
-- store's count of faults rose.
pub record Answered (m : Manner) (ask : Ask) (rooms rooms' : List Room) (outcomes outcomes' : List Outcome) (faults faults' : ℕ) (reply : Reply) : Type 0 where
  pub outcome : Outcome
  pub added : outcomes' ≡ outcomes ++ outcome ∷ []
  pub replied : reply ≡ m.reply rooms ask outcome
  pub moved : rooms' ≡ m.next rooms ask outcome
  pub later : faults ≤ faults'
  pub steady : outcome ≢ JournalFault → faults' ≡ faults
  pub failed : outcome ≡ JournalFault → Rose faults faults' × (m.next rooms ask Given ≢ rooms)

-- A log that keeps no room's history: of no rooms does it hold at any state of this log.
abbrev pub IsForeign : (List Room → ℕ → State → Type 0) → ℕ → Type 0
IsForeign holds log = (rooms : List Room) (state : State) → ¬ holds rooms log state

-- no log changed that keeps no room's history
abbrev pub ForeignStay : (List Room → ℕ → State → Type 0) → StoreState → StoreState → Type 0
ForeignStay holds old new = IsTrue old.told → (log : ℕ) → IsForeign holds log → new.logs log ≡ old.logs log

-- ---- what a crash leaves beyond what it could leave before

-- a log with just these bytes gives just the history of its room back
abbrev pub GivesRooms : (List Room → ℕ → State → Type 0) → ℕ → List Room → List ℕ → Type 0
GivesRooms exact log rooms bytes = exact rooms log (settled bytes)

-- Whatever a crash leaves of a log at this state, it could leave at an earlier one, or it gives one of these back.
abbrev pub LeavesOf : {X : Type 0} → (X → List ℕ → Type 0) → (X → Type 0) → State → State → Type 0
LeavesOf {X} gives these old s = (bytes : List ℕ) → IsImage s bytes → IsImage old bytes ⊎ ((x : X) × these x × gives x bytes)

-- So it is at each state that a log gains, and at the last.
pub record LeavesAll {X : Type 0} (gives : X → List ℕ → Type 0) (these : X → Type 0) (old new : Log) : Type 0 where
  pub passed : Gained (LeavesOf gives these old.state) old new
  pub last : LeavesOf gives these old.state new.state

-- it is one of two
abbrev pub IsOneOf : {X : Type 0} → X → X → X → Type 0
IsOneOf first second x = (x ≡ first) ⊎ (x ≡ second)
