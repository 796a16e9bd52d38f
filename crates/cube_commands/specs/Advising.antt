-- All that `advise` does.
use Rattle.std.specs.Prelude.{◌≡◌, ◌⊎◌, ◌↔◌, ◌≤◌, ◌<◌, ◌+◌, ⊤, ℕ, true, IsTrue, List, [], length, codes, if◌then◌else◌, IfSome, Option, Some, None}
use Rattle.std.specs.declared.result.Result.{Result}
use Rattle.std.specs.declared.result.Result.TheVariants.{Ok, Err}
use Rattle.cube_model.specs.declared.entry.Entry.{Entry}
use Rattle.cube_model.specs.declared.policy.Method.TheVariants.{Lattice, Parity}
use Rattle.cube_model.specs.declared.policy.Policy.{Policy}
use Rattle.cube_model.specs.declared.request.Request.{Request}
use Rattle.cube_model.specs.Cores.{Core, shown}
use Rattle.cube_model.specs.Entries.{requests}
use Rattle.cube_model.specs.Protection.{method}
use Rattle.cube_model.specs.Requests.{grain, asks, is_valid}
use Rattle.cube_model.specs.Verdicts.{most_held, verdict}
use Rattle.cube_advise.specs.Holdings.{links_held, most_links}
use Rattle.cube_advise.specs.Lines.{is_workload}
use Rattle.cube_advise.specs.Open.{finest_open}
use Rattle.cube_advise.specs.OpenLaws.{AreFinestOpen, IsAbove, IsAnswered}
use Rattle.cube_advise.specs.Telling.{first_text, later_text}
use Rattle.cube_io.specs.Causes.{Rose}
use Rattle.cube_io.specs.Seen.{FolderState, SinkState, StoreState, Seen, Unused}
use Rattle.cube_opening.specs.Opening.{unless_long, FileSays, EndsAtLast, EndsUnopened, GotBehind, Make, HasAll, HasFile, names_of, names_with}
use Rattle.cube_opening.specs.Reports.{IsDone}
use Rattle.cube_opening.specs.declared.cube_files.CubeFiles.{CubeFiles}
use Rattle.cube_opening.specs.declared.report.Report.{Report}
use Rattle.cube_opening.specs.Outside.{Outside}
use Rattle.cube_starting.specs.OneCube.{HasJournal}
use Rattle.cube_commands.specs.Ends.{AsksJournal, EndsOrSays}
use Rattle.cube_commands.specs.Saying.{Puts}

-- ---- the workload

-- a workload has few lines
abbrev pub unless_many : List ℕ → Result (List ℕ) (List ℕ)
unless_many bytes = if is_workload bytes then Ok bytes else Err (codes "workload: limit lines 1000000\n")

-- the bytes of a workload, or the text on why it is refused
abbrev pub workload_said : List ℕ → Result (List ℕ) (List ℕ)
workload_said bytes = unless_long (codes "workload") bytes (unless_many bytes)

-- where a workload is named, it has these bytes and few lines; where none is, there are no bytes
abbrev pub WorkloadSays : Option (List ℕ) → FolderState → Option (List ℕ) → Type 0
WorkloadSays None files None = ⊤
WorkloadSays None files (Some bytes) = ⊥
WorkloadSays (Some name) files None = ⊥
WorkloadSays (Some name) files (Some bytes) = (is_workload bytes ≡ true) × IfSome files.files (λ known. FileSays workload_said name known (Ok bytes))

-- the workload is there and is accepted, where one is named
abbrev pub HasWorkload : Option (List ℕ) → FolderState → Type 0
HasWorkload None files = ⊤
HasWorkload (Some name) files = HasFile workload_said name files

-- the names of all files, in the turn in which they are read
abbrev pub named_with : CubeFiles → Option (List ℕ) → List (List ℕ)
named_with cube None = names_of cube
named_with cube (Some name) = names_with cube name

-- the three files make a core and a policy, and the run ended at the workload
abbrev pub EndsAtWorkload : {F : Type 0} → CubeFiles → Option (List ℕ) → Seen FolderState F → Report → Type 0
EndsAtWorkload cube None files r = ⊥
EndsAtWorkload cube (Some name) files r = EndsAtLast cube workload_said name files r

-- a run ended at its files: at one of the cube, or at the workload
abbrev pub EndsUnread : {F : Type 0} → CubeFiles → Option (List ℕ) → Seen FolderState F → Report → Type 0
EndsUnread cube workload files r = EndsUnopened cube files r ⊎ EndsAtWorkload cube workload files r

-- ---- what is said

-- What the text tells behind a history: the listed cuboids of a measure are the finest open ones; a request on a lattice measure is
-- answered exactly where its grain is coarser than or equal to a listed cuboid, while the history is not full; and of no parity measure
-- more links are held than are said to be the most.
pub record IsAdvice (core : Core) (policy : Policy) (h : List Entry) : Type 0 where
  pub finest : (m : ℕ) → AreFinestOpen (shown core policy) h m
  pub answered : (r : Request) (m : ℕ) → method (shown core policy) m ≡ Lattice → is_valid (shown core policy) r ≡ true → asks m r ≡ true → length (requests h) < most_held
      → IsAnswered (verdict (shown core policy) h r) ↔ IsAbove (grain r) (finest_open (shown core policy) h m)
  pub links : (m : ℕ) → method (shown core policy) m ≡ Parity → links_held (shown core policy) h m ≤ most_links (shown core policy) m

-- ---- the run

-- It was put what can be released from the cube of the files before anything is asked, and the words for the lines of the workload.
pub record Advised {O : Type 0} (cube : CubeFiles) (workload : Option (List ℕ)) (files : FolderState) (out : Seen SinkState O) (r : Report) : Type 0 where
  pub core : Core
  pub policy : Policy
  pub files_make : Make cube files core policy
  pub bytes : Option (List ℕ)
  pub said : WorkloadSays workload files bytes
  pub is : IsAdvice core policy []
  pub puts : Puts (first_text core policy bytes) out r

-- It was put what can be released behind a history, and the words for the lines of the workload.
pub record AdvisesBehind {O : Type 0} (workload : Option (List ℕ)) (files : FolderState) (out : Seen SinkState O) (r : Report) (core : Core) (policy : Policy) (h : List Entry) : Type 0 where
  pub bytes : Option (List ℕ)
  pub said : WorkloadSays workload files bytes
  pub is : IsAdvice core policy h
  pub puts : Puts (later_text core policy h bytes) out r

-- a run without a journal ends at its files, or it advises
abbrev pub FirstEnds : {F S I O W : Type 0} → CubeFiles → Option (List ℕ) → Outside F S I O W → Report → Type 0
FirstEnds cube workload x r =
    (EndsUnread cube workload x.files r × Unused x.out)
    ⊎ (Advised cube workload x.files.before x.out r × GotBehind (named_with cube workload) x.files)

-- a run with a journal ends at the workload, or before its cube is open, or it advises by the history of the cube
abbrev pub LaterEnds : {F S I O W : Type 0} → CubeFiles → Option (List ℕ) → Outside F S I O W → Report → Type 0
LaterEnds cube workload x r =
    (EndsAtWorkload cube workload x.files r × Unused x.store × Unused x.out)
    ⊎ EndsOrSays cube (named_with cube workload) (AdvisesBehind workload x.files.before x.out r) x.files x.store x.out r

abbrev pub AdviseEnds : {F S I O W : Type 0} → CubeFiles → Option (List ℕ) → Option (List ℕ) → Outside F S I O W → Report → Type 0
AdviseEnds cube None workload x r = FirstEnds cube workload x r × Unused x.store
AdviseEnds cube (Some journal) workload x r = LaterEnds cube workload x r

-- the store is asked for the journal alone, where one is named
abbrev pub AsksIfNamed : {S : Type 0} → Option (List ℕ) → Seen StoreState S → Report → Type 0
AsksIfNamed None store r = Unused store
AsksIfNamed (Some journal) store r = AsksJournal journal store r

-- the journal is accepted, where one is named
abbrev pub HasNamed : CubeFiles → Option (List ℕ) → FolderState → StoreState → Type 0
HasNamed cube None files store = ⊤
HasNamed cube (Some journal) files store = HasJournal cube files store

-- where the files, the workload and the journal are accepted and no count rose, all is done
abbrev pub AdviseCompletes : {F S I O W : Type 0} → CubeFiles → Option (List ℕ) → Option (List ℕ) → Outside F S I O W → Report → Type 0
AdviseCompletes cube journal workload x r = HasAll cube x.files.before → HasWorkload workload x.files.before → HasNamed cube journal x.files.before x.store.before
    → ¬ Rose x.files.before.faults x.files.after.faults → ¬ Rose x.store.before.faults x.store.after.faults → ¬ Rose x.out.before.faults x.out.after.faults → IsDone r

-- All that `advise` does with these files, this journal, if any, and this workload, if any. Where nothing is told, nothing is put.
pub record AdviseRun {F S I O W : Type 0} (cube : CubeFiles) (journal workload : Option (List ℕ)) (x : Outside F S I O W) (r : Report) : Type 0 where
  pub answers : AdviseEnds cube journal workload x r
  pub named : AsksIfNamed journal x.store r
  pub few_calls : IsTrue x.store.before.told → x.store.after.calls ≤ x.store.before.calls + 12
  pub complete : AdviseCompletes cube journal workload x r
