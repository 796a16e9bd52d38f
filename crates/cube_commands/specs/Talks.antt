-- All that `sum` and `ask` do with the lines of the input.
use Rattle.std.specs.Prelude.{◌≡◌, ◌≢◌, ◌⊎◌, ℕ, true, IsTrue, List, [], ◌∷◌, ◌++◌, length, Option, Some, IfSome, IsSomeAnd, IsOk, Ok}
use Rattle.cube_model.specs.declared.entry.Entry.{Entry}
use Rattle.cube_model.specs.declared.outcome.Outcome.{Outcome}
use Rattle.cube_model.specs.declared.policy.Policy.{Policy}
use Rattle.cube_model.specs.Cores.{Core, world}
use Rattle.cube_model.specs.Rooms.{Room, alone}
use Rattle.cube_io.specs.Causes.{Rose}
use Rattle.cube_io.specs.Desks.{Manner, entries}
use Rattle.cube_io.specs.Files.{file_of}
use Rattle.cube_io.specs.Seen.{FolderState, SourceState, SinkState, StoreState, Seen, Unused, seen}
use Rattle.cube_facts.specs.Flat.{Flat}
use Rattle.cube_engine.specs.Headline.{Hides}
use Rattle.cube_engine.specs.Steps.{manner}
use Rattle.cube_engine.specs.Worlds.{first_history}
use Rattle.cube_talk.specs.Asks as asking
use Rattle.cube_talk.specs.Asks.{Talk, FailedFresh, asks_in, said, rooms_behind}
use Rattle.cube_talk.specs.Crashes.{IsLineInHand}
use Rattle.cube_talk.specs.Putting.{IsNext}
use Rattle.cube_talk.specs.Sums.{Talked}
use Rattle.cube_talk.specs.declared.talk.TalkEnd.{TalkEnd}
use Rattle.cube_opening.specs.Opening.{flat_said, FileSays, EndsAt, GotBehind, HasAll, names_of}
use Rattle.cube_opening.specs.Reports.{IsReport, IsDone}
use Rattle.cube_opening.specs.declared.cube_files.CubeFiles.{CubeFiles}
use Rattle.cube_opening.specs.declared.report.Report.{Report}
use Rattle.cube_opening.specs.Outside.{Outside}
use Rattle.cube_starting.specs.OneCube.{EndsClosed, HasJournal, IsOpen}
use Rattle.cube_commands.specs.Ends.{AsksOver}
use Rattle.cube_starting.specs.Grouping.{AreKept}
use Rattle.cube_commands.specs.Endings.{status_of, ending_text}

-- ---- sums over a flat file

-- the lines of the input were answered by the sums over the file
pub record Summed {I O : Type 0} (facts : List ℕ) (files : FolderState) (input : Seen SourceState I) (out : Seen SinkState O) (r : Report) : Type 0 where
  pub flat : Flat
  pub end : TalkEnd
  pub lines : ℕ
  pub file : IfSome files.files (λ known. FileSays flat_said facts known (Ok flat))
  pub reported : IsReport (status_of end.ending) (ending_text end.ending lines end.bytes) r
  pub talked : Talked flat end lines input out

-- the file of this name is there and is accepted
abbrev pub HasFlat : List ℕ → FolderState → Type 0
HasFlat name files = IsSomeAnd files.files (λ known. IsSomeAnd (file_of known name) (λ bytes. IsOk (flat_said bytes)))

-- a run of `sum` ends at the file, or it answers the lines of the input
abbrev pub SumEnds : {F S I O W : Type 0} → List ℕ → Outside F S I O W → Report → Type 0
SumEnds facts x r =
    (EndsAt [] flat_said facts x.files r × Unused x.input × Unused x.out)
    ⊎ (Summed facts x.files.before x.input x.out r × GotBehind (facts ∷ []) x.files)

-- where the file is accepted, no count rose and less was taken than is taken at most, all is done
abbrev pub SumCompletes : {F S I O W : Type 0} → List ℕ → Outside F S I O W → Report → Type 0
SumCompletes facts x r = HasFlat facts x.files.before → r.status ≢ 10
    → ¬ Rose x.files.before.faults x.files.after.faults → ¬ Rose x.input.before.faults x.input.after.faults → ¬ Rose x.out.before.faults x.out.after.faults → IsDone r

-- All that `sum` does with this file.
pub record SumRun {F S I O W : Type 0} (facts : List ℕ) (x : Outside F S I O W) (r : Report) : Type 0 where
  pub answers : SumEnds facts x r
  pub ended : r.status ≡ 0 → x.input.after.ended ≡ true
  pub complete : SumCompletes facts x r

-- ---- asks of a cube

-- the history is the one behind some of the lines, from the first on, or that with the request of the line that comes next
abbrev pub IsInLine : Core → Policy → List Entry → List (List ℕ) → List Outcome → List Entry → Type 0
IsInLine core policy first ls os h = (here : List Room) × IsLineInHand (manner core.dims) (alone (world core policy) first) ls os here × (h ≡ first_history here)

-- The asks of the input were answered by an open cube, from the first history to the last; what became of them is reported. The answers
-- hide each protected cell: over the world with the changes the same would have been written, by the same lines and outcomes. The journal
-- kept what was answered: beyond that a crash leaves the request of the line in hand, and no other. For each ask in which it failed the store's count of faults rose, and the ask was to be kept.
pub record Asked {S I O : Type 0} (cube : CubeFiles) (files : FolderState) (store : Seen StoreState S) (talk : Talk) (input : Seen SourceState I) (out : Seen SinkState O) : Type 0 where
  pub core : Core
  pub policy : Policy
  pub first : List Entry
  pub last : List Entry
  pub opened : IsOpen cube files store core policy first
  pub talked : asking.Talked (manner core.dims) (alone (world core policy) first) talk input out
  pub last_is : last ≡ first_history (rooms_behind (manner core.dims) (alone (world core policy) first) talked.took.first talk.outcomes)
  pub hides : Hides core policy last (λ w. asking.Says talk.ending (manner core.dims) (alone w first) talk.stated talk.outcomes talked.took.text out.before.written out.after.written)
  pub kept : AreKept core (record { name = []; policy = policy; first = first; last = last } ∷ []) talk.outcomes (λ k. IsInLine core policy first talked.took.first talk.outcomes) store
  pub fresh : FailedFresh (manner core.dims) (alone (world core policy) first) talked.took.first talk.outcomes

-- ---- what is put of the answers, and when

-- How far the lines of the input were answered: which lines, what became of their asks, and the rooms that these leave.
pub record Stage : Type 0 where
  pub lines : List (List ℕ)
  pub outcomes : List Outcome
  pub rooms : List Room

-- some more lines were answered by this text, each ask among them with an outcome
pub record Answered (m : Manner) (before : Stage) (ls : List (List ℕ)) (after : Stage) (text : List ℕ) : Type 0 where
  pub lines_are : after.lines ≡ before.lines ++ ls
  pub added : List Outcome
  pub outcomes_are : after.outcomes ≡ before.outcomes ++ added
  pub in_turn : length added ≡ asks_in ls
  pub text_is : text ≡ said m before.rooms ls added
  pub rooms_are : after.rooms ≡ rooms_behind m before.rooms ls added

-- where no line was answered yet
abbrev pub first_stage : Core → Policy → List Entry → Stage
first_stage core policy history = record { lines = []; outcomes = []; rooms = alone (world core policy) history }

-- A piece is put of the answers of an open cube, which comes next of what is said to the lines up to this stage. The journal has kept what
-- was answered: all that is said of it where a run ends holds now, with the history that all these lines leave.
pub record IsPut {S : Type 0} (cube : CubeFiles) (files : FolderState) (store : Seen StoreState S) (start : Option (List ℕ)) (bytes piece : List ℕ) : Type 0 where
  pub core : Core
  pub policy : Policy
  pub history : List Entry
  pub opened : IsOpen cube files store core policy history
  pub stage : Stage
  pub next : IsNext {X = Stage} (Answered (manner core.dims)) (λ (s : Stage). entries s.rooms) (first_stage core policy history) start stage (Some bytes) piece
  pub kept : AreKept core (record { name = []; policy = policy; first = history; last = first_history stage.rooms } ∷ []) stage.outcomes (λ k. IsInLine core policy history stage.lines stage.outcomes) store

-- Over a store that tells what it holds, the output allows each piece that is put so.
abbrev pub PermitsAsking : {S : Type 0} → CubeFiles → FolderState → (S → StoreState) → (StoreState → List ℕ → List ℕ → Type 0) → S → Option (List ℕ) → Type 0
PermitsAsking {S} cube files tells allows store start = (t : S) (bytes piece : List ℕ) → IsTrue (tells t).told → IsPut cube files (seen tells store t) start bytes piece → allows (tells t) bytes piece

-- the report says how the talk ended
pub record Reports (talk : Talk) (r : Report) : Type 0 where
  pub outcomes : r.outcomes ≡ talk.outcomes
  pub status : r.status ≡ status_of talk.ending
  pub text : r.text ≡ ending_text talk.ending (length talk.outcomes) talk.bytes

-- a run of `ask` ends before its cube is open, or it answers the lines of the input, by at most so many asks
abbrev pub AskEnds : {F S I O W : Type 0} → CubeFiles → ℕ → Outside F S I O W → Report → Type 0
AskEnds cube stated x r =
    (EndsClosed cube (names_of cube) x.files x.store r × Unused x.input × Unused x.out)
    ⊎ ((talk : Talk) × (talk.stated ≡ stated) × Reports talk r × Asked cube x.files.before x.store talk x.input x.out × GotBehind (names_of cube) x.files)

-- where the files and the journal are accepted, no count rose and less was taken than is taken at most, all is done
abbrev pub AskCompletes : {F S I O W : Type 0} → CubeFiles → Outside F S I O W → Report → Type 0
AskCompletes cube x r = HasAll cube x.files.before → HasJournal cube x.files.before x.store.before → r.status ≢ 10
    → ¬ Rose x.files.before.faults x.files.after.faults → (r.outcomes ≡ [] → ¬ Rose x.store.before.faults x.store.after.faults) → ¬ Rose x.input.before.faults x.input.after.faults → ¬ Rose x.out.before.faults x.out.after.faults → IsDone r

-- All that `ask` does with these files and this journal. Where the store tells what it holds, no piece was put without it in sight.
pub record AskRun {F S I O W : Type 0} (cube : CubeFiles) (journal : List ℕ) (stated : ℕ) (x : Outside F S I O W) (r : Report) : Type 0 where
  pub runs : AsksOver journal 12 x.store r (AskEnds cube stated x r) (Unused x.input × Unused x.out × (r.outcomes ≡ [])) (AskCompletes cube x r)
  pub ended : r.status ≡ 0 → x.input.after.ended ≡ true
  pub sight : IsTrue x.store.before.told → x.out.after.loose ≡ x.out.before.loose
