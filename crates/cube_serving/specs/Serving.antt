-- What is told to the connections of a wire on which the groups of a cube are served. Who is under one policy is a group without a name.
use Rattle.std.specs.Prelude.{◌≡◌, ◌≢◌, ◌⊎◌, ◌<◌, ◌≤◌, ◌+◌, ◌*◌, ⊤, ℕ, zero, suc, Bool, true, false, IsTrue, List, [], ◌∷◌, ◌++◌, length, map, codes, decimal}
use Rattle.std.specs.declared.result.Result.{Result}
use Rattle.std.specs.declared.result.Result.TheVariants.{Ok, Err}
use Rattle.cube_model.specs.declared.ask.Question.{Question}
use Rattle.cube_model.specs.declared.entry.Entry.{Entry}
use Rattle.cube_model.specs.declared.outcome.Outcome.{Outcome}
use Rattle.cube_model.specs.Cores.{Core}
use Rattle.cube_model.specs.Cubes.{Each}
use Rattle.cube_model.specs.Rooms.{Room, Call, IsByItself, with_world}
use Rattle.cube_io.specs.Causes.{Rose, RoseBy}
use Rattle.cube_io.specs.Desks.{faults_in}
use Rattle.cube_io.specs.Seen.{FolderState, StoreState, WireState, Seen, Unused, seen}
use Rattle.cube_io.specs.Wires.{Arrival, LogEntry, events_in}
use Rattle.cube_io.specs.Wires.Arrival.{End}
use Rattle.cube_engine.specs.Headline.{Hides}
use Rattle.cube_engine.specs.Kept.{IsExact}
use Rattle.cube_engine.specs.Steps.{by_words, call, manner}
use Rattle.cube_opening.specs.Reports.{IsReport, IsDone}
use Rattle.cube_opening.specs.Ruling.{HasGroups}
use Rattle.cube_opening.specs.declared.cube_files.RuledFiles.{RuledFiles}
use Rattle.cube_opening.specs.declared.report.Report.{Report}
use Rattle.cube_opening.specs.Outside.{Outside}
use Rattle.cube_server.specs.Crashes.{Called, IsInHand}
use Rattle.cube_server.specs.Logs.{Luck, Call as Reached, calls_of, log_of}
use Rattle.cube_server.specs.Seen.{DeskState}
use Rattle.cube_server.specs.Steps.{Serves, IsCounted, has_end, sends_in, luck_of, stated_at}
use Rattle.cube_server.specs.declared.serving.ServeFault.{ServeFault}
use Rattle.cube_server.specs.declared.serving.ServeFault.TheVariants.{WireFailed, Spent}
use Rattle.cube_starting.specs.Grouping.{GroupRun, OnlyFirst, OnlyFrom, AllOf, AreKept, AreRunsOf, AllRecover, AreOpen, EndsClosedGroups, HaveJournals, ruled, first_room, first_rooms, last_rooms}
use Rattle.cube_starting.specs.NamedBooks.{Groups}
use Rattle.cube_starting.specs.Starting.{RecoversIn, SurvivedIn, HeldIn}
use Rattle.cube_talk.specs.Talk.{max_input}

-- ---- what the log of the wire tells

-- Asks of groups: their histories before them and behind them, for how many asks there was space and is left, and what became of them.
pub record Asking : Type 0 where
  pub groups : List GroupRun
  pub stated : ℕ
  pub left : ℕ
  pub outcomes : List Outcome

-- the groups as a desk, before the asks and behind them
abbrev pub desk_before : Core → Asking → DeskState
desk_before core a = record { manner = manner core.dims; rooms = first_rooms core a.groups; capacity = a.stated; outcomes = [] }

abbrev pub desk_behind : Core → Asking → DeskState
desk_behind core a = record { manner = manner core.dims; rooms = last_rooms core a.groups; capacity = a.left; outcomes = a.outcomes }

-- what reached the groups, as turns of the rules over rooms
abbrev pub turn_of : Reached → Call Question
turn_of c = call c.ask c.outcome

abbrev pub turns_of : Core → List GroupRun → List LogEntry → Luck → List (Call Question)
turns_of core gs log luck = map turn_of (calls_of (manner core.dims) (first_rooms core gs) (events_in log) luck)

-- what a run of them was given and met
abbrev pub luck_in : Core → Asking → List LogEntry → List Outcome → List Bool → Luck
luck_in core a log outcomes starved = luck_of (stated_at (desk_before core a) max_input) outcomes (sends_in log) starved

-- The log is that of the definitions, over the rooms with the first histories at its start and the last at its end, and what reached the
-- groups is what the definitions' run asks. The replies to what reached a group are those of its room alone, so that asks of other groups do not enter. And the log hides each protected cell of each
-- group: over the world with the changes in that room alone it would be the same, by the same events, outcomes and sends.
pub record Tells (core : Core) (a : Asking) (log : List LogEntry) (calls : List Reached) : Type 0 where
  pub served : Serves (desk_before core a) (desk_behind core a) max_input log calls
  pub apart : Each (λ g. IsByItself (by_words core.dims) (first_rooms core a.groups) (turns_of core a.groups log (luck_in core a log served.outcomes served.starved)) (first_room core g)) a.groups
  pub hides : Each (λ g. Hides core g.policy g.last (λ w. log ≡ log_of (manner core.dims) (with_world g.name w (first_rooms core a.groups)) (events_in log) (luck_in core a log served.outcomes served.starved))) a.groups

-- ---- how a serving ended

-- The end came, behind fewer events than are taken at most. Or it did not: the wire failed, or the stated asks or the most events were
-- taken, which were counted.
abbrev pub Ends : Result (Unit {0}) ServeFault → Bool → DeskState → DeskState → List LogEntry → Type 0
Ends (Ok u) told old new log = (0 < new.capacity) × (IsTrue told → (es : List Arrival) × (events_in log ≡ es ++ End ∷ []) × (length es < max_input))
Ends (Err fault) told old new log = IsCounted fault told old new max_input log × (IsTrue told → has_end log ≡ false)

abbrev pub served_status : Result (Unit {0}) ServeFault → ℕ
served_status (Ok u) = 0
served_status (Err WireFailed) = 8
served_status (Err (Spent requests events)) = 10

abbrev pub served_text : Result (Unit {0}) ServeFault → List ℕ
served_text (Ok u) = []
served_text (Err WireFailed) = codes "wire failed\n"
served_text (Err (Spent requests events)) = codes "spent: " ++ decimal requests ++ codes " requests, " ++ decimal events ++ codes " events\n"

-- Groups served a wire, of which this log is told where it is told. What reached them are asks of which those that the journal failed for
-- would have added to a history.
pub record Wired (core : Core) (a : Asking) (end : Result (Unit {0}) ServeFault) (told : Bool) (log : List LogEntry) : Type 0 where
  pub ended : Ends end told (desk_before core a) (desk_behind core a) log
  pub counted : a.left + length a.outcomes ≡ a.stated
  pub calls : List Reached
  pub asked : Called (desk_before core a) (desk_behind core a) calls
  pub tells : IsTrue told → Tells core a log calls

-- ---- what is in hand meanwhile

-- room k of these has this history
abbrev pub RoomHas : ℕ → List Room → List Entry → Type 0
RoomHas k [] h = ⊥
RoomHas zero (r ∷ rooms) h = h ≡ r.history
RoomHas (suc k) (r ∷ rooms) h = RoomHas k rooms h

-- the history is that of group k behind some of the asks, from the first on, or where the ask that comes next is one of the group's, that
-- with its request
abbrev pub IsInTurn : Core → List GroupRun → List Reached → ℕ → List Entry → Type 0
IsInTurn core gs calls k h = (here : List Room) × IsInHand (manner core.dims) (first_rooms core gs) calls here × RoomHas k here h

-- Asks over opened logs, seen from before the opening: where a log was exact behind that, a crash leaves what is in hand.
abbrev pub HoldFrom : {S : Type 0} → (S → StoreState) → Core → List GroupRun → List Reached → S → S → Type 0
HoldFrom {S} tells core gs calls old new = IsTrue (tells old).told → (opened : S) → (tells opened).told ≡ (tells old).told
    → AllOf (λ k (g : GroupRun). IsExact core g.policy g.first ((tells old).logs k).state → RecoversIn k core g.policy (seen tells opened old) → HeldIn k core g.policy (IsInTurn core gs calls k) (seen tells opened new)) 0 gs

-- ---- books that serve

-- What asks over opened logs leave of them, seen from before the opening: where a log was exact behind that, it survived.
abbrev pub SurviveFrom : {S : Type 0} → (S → StoreState) → Core → Asking → S → S → Type 0
SurviveFrom {S} tells core a old new = IsTrue (tells old).told → (opened : S) → (tells opened).told ≡ (tells old).told
    → AllOf (λ k (g : GroupRun). IsExact core g.policy g.first ((tells old).logs k).state → RecoversIn k core g.policy (seen tells opened old) → SurvivedIn k core g.policy g.first g.last a.outcomes (seen tells opened new)) 0 a.groups

-- Groups over one core served a wire. They were asked nothing before, and the store is called four times at most for each ask.
pub record ServeWire {S : Type 0} (tells : S → StoreState) (core : Core) (old new : Groups) (end : Result (Unit {0}) ServeFault) (told : Bool) (log : List LogEntry) (store store' : S) : Type 0 where
  pub asking : Asking
  pub runs : AreRunsOf old.books asking.groups
  pub stated : asking.stated ≡ old.left
  pub left : asking.left ≡ new.left
  pub outcomes : asking.outcomes ≡ new.outcomes
  pub wired : Wired core asking end told log
  pub survived : SurviveFrom tells core asking store store'
  pub held : HoldFrom tells core asking.groups wired.calls store store'
  pub few : IsTrue (tells store).told → (tells store').calls ≤ (tells store).calls + 4 * length asking.outcomes

-- The wire allows that the next event is looked for at each moment of a serving of which all is true that is promised of one which ends there
-- since the wire fails.
abbrev pub PermitsGroups : {S : Type 0} → (S → StoreState) → (StoreState → List LogEntry → Type 0) → Groups → S → Type 0
PermitsGroups {S} tells allows old store = (now : Groups) (t : S) (log : List LogEntry)
    → ((core : Core) → Each (λ b. b.book.core ≡ core) old.books → ServeWire tells core old now (Err WireFailed) true log store t)
    → OnlyFrom 0 (length old.books) (tells store) (tells t) → RoseBy (faults_in now.outcomes) (tells store).faults (tells t).faults → allows (tells t) log

-- ---- the whole

-- A wire was served by open groups, and their journals kept what was answered. No log was touched but where the groups file has a group of
-- its number, and the seal beside it.
pub record Served {F S : Type 0} (cube : RuledFiles) (more : List (List ℕ)) (files : Seen FolderState F) (store : Seen StoreState S) (a : Asking) (end : Result (Unit {0}) ServeFault) (told : Bool) (log : List LogEntry) : Type 0 where
  pub core : Core
  pub opened : AreOpen cube more files store core a.groups
  pub wired : Wired core a end told log
  pub kept : AreKept core a.groups a.outcomes (IsInTurn core a.groups wired.calls) store
  pub others : OnlyFirst (length a.groups) store.before store.after

-- Groups were opened, and nothing was served: of each journal every crash leaves what recovers its history. No log was touched but where
-- the groups file has a group of its number, and the seal beside it.
pub record Unserved {F S : Type 0} (cube : RuledFiles) (more : List (List ℕ)) (files : Seen FolderState F) (store : Seen StoreState S) : Type 0 where
  pub core : Core
  pub groups : List GroupRun
  pub opened : AreOpen cube more files store core groups
  pub passed : AllRecover core 0 (ruled groups) store
  pub exact : IsTrue store.before.told → AllOf (λ k (g : GroupRun). IsExact core g.policy g.first (store.after.logs k).state) 0 groups
  pub others : OnlyFirst (length groups) store.before store.after

-- A wire was served by at most so many asks, and what became of them is reported.
pub record ServedUpTo {F S : Type 0} (cube : RuledFiles) (more : List (List ℕ)) (stated : ℕ) (files : Seen FolderState F) (store : Seen StoreState S) (told : Bool) (log : List LogEntry) (r : Report) : Type 0 where
  pub asking : Asking
  pub stated_is : asking.stated ≡ stated
  pub outcomes_are : r.outcomes ≡ asking.outcomes
  pub end : Result (Unit {0}) ServeFault
  pub served : Served cube more files store asking end told log

-- Of each moment at which the next event is looked for, and what was sent may go out: all is true that is promised of a run which ends
-- there since the wire fails. So the log so far is that of the definitions, and on the store is what was answered. There the wire allows it.
abbrev pub PermitsServing : {F S : Type 0} → RuledFiles → ℕ → (F → FolderState) → (S → StoreState) → (StoreState → List LogEntry → Type 0) → F → S → Type 0
PermitsServing {F} {S} cube stated folder tells allows files store = (f : F) (t : S) (log : List LogEntry) (a : Asking)
    → a.stated ≡ stated → Served cube [] (seen folder files f) (seen tells store t) a (Err WireFailed) true log → allows (tells t) log

-- the connections of a wire were served so, and the report says how that ended
pub record ServedConnections {F S W : Type 0} (cube : RuledFiles) (stated : ℕ) (files : Seen FolderState F) (store : Seen StoreState S) (wire : Seen WireState W) (r : Report) : Type 0 where
  pub upto : ServedUpTo cube [] stated files store wire.before.told wire.after.log r
  pub status : r.status ≡ served_status upto.end
  pub text : r.text ≡ served_text upto.end

-- the address was asked for, with the seconds that a connection may be still there, and where the wire failed it may lack
abbrev pub Hears : {W : Type 0} → List ℕ → ℕ → Seen WireState W → Report → Type 0
Hears address idle wire r = IsTrue wire.before.told → (wire.after.heard ≡ wire.before.heard ++ (address, idle) ∷ []) ⊎ ((wire.after.heard ≡ wire.before.heard) × (r.status ≡ 8))

-- a run ended where it was to listen: the wire failed, or memory ran out
abbrev pub Unheard : {W : Type 0} → Seen WireState W → Report → Type 0
Unheard wire r = (IsReport 8 (codes "wire failed\n") r × Rose wire.before.faults wire.after.faults) ⊎ IsReport 7 (codes "no memory\n") r

-- a run of `serve` ends before its groups are open, or where it is to listen; or it serves the connections of the wire
abbrev pub ServeEnds : {F S I O W : Type 0} → RuledFiles → ℕ → Outside F S I O W → Report → Type 0
ServeEnds cube stated x r =
    (EndsClosedGroups cube [] x.files x.store r × Unused x.wire)
    ⊎ (Unserved cube [] x.files x.store × Unheard x.wire r × (IsTrue x.wire.before.told → x.wire.after.log ≡ []))
    ⊎ ServedConnections cube stated x.files x.store x.wire r

-- where the files and the journals are accepted, no count rose and less was taken than is taken at most, all is done
abbrev pub ServeCompletes : {F S I O W : Type 0} → RuledFiles → Outside F S I O W → Report → Type 0
ServeCompletes cube x r = HasGroups cube x.files.before → HaveJournals cube x.files.before x.store.before → r.status ≢ 10
    → ¬ Rose x.files.before.faults x.files.after.faults → (r.outcomes ≡ [] → ¬ Rose x.store.before.faults x.store.after.faults) → ¬ Rose x.wire.before.faults x.wire.after.faults → IsDone r
