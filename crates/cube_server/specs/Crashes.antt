-- What a crash may leave of the logs of a store, while a desk is asked.
use Rattle.std.specs.Prelude.{◌≡◌, ◌≢◌, ◌⊎◌, ◌↔◌, ⊤, ℕ, ◌+◌, ◌-◌, ◌*◌, ◌≤◌, Bool, true, false, IsTrue, List, [], ◌∷◌, ◌++◌, length, map, filter}
use Rattle.cube_model.specs.declared.outcome.Outcome.{Outcome}
use Rattle.cube_model.specs.declared.outcome.Outcome.TheVariants.{Given, JournalFault, NoMemory}
use Rattle.cube_model.specs.Rooms.{Room}
use Rattle.cube_io.specs.Causes.{RoseBy}
use Rattle.cube_io.specs.Desks.{Manner, ForeignStay, GivesRooms, LeavesAll, faults_in, most_calls}
use Rattle.cube_io.specs.Seen.{WireState}
use Rattle.cube_io.specs.States.{State, Gained}
use Rattle.cube_io.specs.Wires.{LogEntry}
use Rattle.cube_server.specs.Logs.{Call}
use Rattle.cube_server.specs.Seen.{DeskState, Moment}

-- the rooms that some asks leave
abbrev pub after : Manner → List Room → List Call → List Room
after m rooms [] = rooms
after m rooms (c ∷ calls) = after m (m.next rooms c.ask c.outcome) calls

-- some asks lead from one to the other
abbrev pub Reaches : Manner → List Room → List Room → Type 0
Reaches m rooms rooms' = (calls : List Call) × (rooms' ≡ after m rooms calls)

-- On the way from one to the other, behind some of the asks, from the first on and none skipped, it holds of the rooms.
pub record OnTheWay (m : Manner) (holds : List Room → ℕ → State → Type 0) (rooms rooms' : List Room) (log : ℕ) (state : State) : Type 0 where
  pub here : List Room
  pub from : Reaches m rooms here
  pub to : Reaches m here rooms'
  pub there : holds here log state

-- each ask for which the journal failed would have added to a history of the rooms that it met
abbrev pub FailedFresh : Manner → List Room → List Call → Type 0
FailedFresh m rooms [] = ⊤
FailedFresh m rooms (c ∷ calls) = (c.outcome ≡ JournalFault → m.next rooms c.ask Given ≢ rooms) × FailedFresh m (m.next rooms c.ask c.outcome) calls

-- The rooms are those behind some of the asks, from the first on, or these with the request of the ask in hand, which comes next and
-- found memory.
abbrev pub IsInHand : Manner → List Room → List Call → List Room → Type 0
IsInHand m rooms [] here = here ≡ rooms
IsInHand m rooms (c ∷ calls) here = (here ≡ rooms) ⊎ (((c.outcome ≢ NoMemory) × (here ≡ m.next rooms c.ask Given)) ⊎ IsInHand m (m.next rooms c.ask c.outcome) calls here)

-- an ask found memory
abbrev pub found_memory : Outcome → Bool
found_memory Given = true
found_memory JournalFault = true
found_memory NoMemory = false

-- These asks reached the desk and lead from its rooms to its rooms. The new outcomes are theirs in turn, but for asks that found no
-- memory, which may not have reached it. The journal failed only for asks that would have added to a history.
pub record Called (old new : DeskState) (calls : List Call) : Type 0 where
  pub rooms_are : new.rooms ≡ after old.manner old.rooms calls
  pub added : List Outcome
  pub outcomes_are : new.outcomes ≡ old.outcomes ++ added
  pub matched : filter found_memory added ≡ filter found_memory (map (λ c. c.outcome) calls)
  pub fresh : FailedFresh old.manner old.rooms calls

-- What these asks do to a desk and to a store, from the moment before them to the one behind. The desk's manner stays, and each ask takes
-- space for one and leaves one outcome. The store tells what it told and was asked for no name. Where `within` held of the rooms before,
-- it holds at each state that a log gains of the rooms that some of the asks leave, and behind them of the last rooms. Beyond what a
-- crash could leave before, it leaves the history of such rooms, or that with the request of the ask in hand. Where `exact` held and the
-- journal failed in no ask, it holds behind them. The count of the store's faults rose by one or more for each ask in which the journal
-- failed, and stayed where it failed in none. The store was called twice at most for each ask, or four times where the journal failed
-- for one. Asks that found no memory leave it as it was. Logs that keep no room's history stayed.
pub record Endures (before after : Moment) (calls : List Call) : Type 0 where
  pub manner : after.desk.manner ≡ before.desk.manner
  pub counted : after.desk.capacity + length after.desk.outcomes ≡ before.desk.capacity + length before.desk.outcomes
  pub fewer : after.desk.capacity ≤ before.desk.capacity
  pub told : after.store.told ≡ before.store.told
  pub names : IsTrue before.store.told → after.store.names ≡ before.store.names
  pub asked : Called before.desk after.desk calls
  pub within_stays : (r : List Room) (log : ℕ) (state : State) → after.within r log state ↔ before.within r log state
  pub exact_stays : (r : List Room) (log : ℕ) (state : State) → after.exact r log state ↔ before.exact r log state
  pub passed : IsTrue before.store.told → (log : ℕ) → before.within before.desk.rooms log (before.store.logs log).state
      → Gained (OnTheWay before.desk.manner before.within before.desk.rooms after.desk.rooms log) (before.store.logs log) (after.store.logs log)
  pub stays_within : IsTrue before.store.told → (log : ℕ) → before.within before.desk.rooms log (before.store.logs log).state → after.within after.desk.rooms log (after.store.logs log).state
  pub stays_exact : faults_in after.desk.outcomes ≡ faults_in before.desk.outcomes → IsTrue before.store.told → (log : ℕ) → before.exact before.desk.rooms log (before.store.logs log).state
      → after.exact after.desk.rooms log (after.store.logs log).state
  pub in_hand : IsTrue before.store.told → (log : ℕ) → before.within before.desk.rooms log (before.store.logs log).state
      → LeavesAll (GivesRooms before.exact log) (IsInHand before.desk.manner before.desk.rooms calls) (before.store.logs log) (after.store.logs log)
  pub others : ForeignStay before.within before.store after.store
  pub more : faults_in before.desk.outcomes ≤ faults_in after.desk.outcomes
  pub later : before.store.faults ≤ after.store.faults
  pub steady : faults_in after.desk.outcomes ≡ faults_in before.desk.outcomes → after.store.faults ≡ before.store.faults
  pub risen : RoseBy (faults_in after.desk.outcomes - faults_in before.desk.outcomes) before.store.faults after.store.faults
  pub few : IsTrue before.store.told → after.store.calls ≤ before.store.calls + most_calls after.desk.outcomes * (before.desk.capacity - after.desk.capacity)
  pub spared : filter found_memory (map (λ c. c.outcome) calls) ≡ [] → after.store ≡ before.store

-- ---- what leads from one moment to another

-- some asks lead from one moment to the other, and this is true of them
abbrev pub Leads : Moment → Moment → (DeskState → DeskState → List Call → Type 0) → Type 0
Leads before after does = (calls : List Call) × Endures before after calls × does before.desk after.desk calls

-- so do asks over a wire, and where that tells its log, this is true of them and of what was said meanwhile
abbrev pub LeadsOver : WireState → WireState → Moment → Moment → (DeskState → DeskState → List LogEntry → List LogEntry → List Call → Type 0) → Type 0
LeadsOver old new before after does = Leads before after (λ d e calls. IsTrue old.told → does d e old.log new.log calls)
