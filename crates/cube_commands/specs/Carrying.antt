-- All that `carry` does: it writes the journal of an older cube down for one that continues it.
use Rattle.std.specs.Prelude.{◌≡◌, ◌⊎◌, ◌≤◌, ◌+◌, ◌^◌, ⊤, ℕ, List, ◌++◌, length, codes, Some}
use Rattle.std.specs.declared.result.Result.{Result}
use Rattle.std.specs.declared.result.Result.TheVariants.{Ok, Err}
use Rattle.cube_model.specs.declared.cell.Cell.{Cell}
use Rattle.cube_model.specs.declared.entry.Entry.{Entry}
use Rattle.cube_model.specs.declared.policy.Policy.{Policy}
use Rattle.cube_model.specs.Cores.{Core, shown}
use Rattle.cube_model.specs.Cubes.{IsIn}
use Rattle.cube_model.specs.Protection.{first, protected}
use Rattle.cube_model.specs.Runs.{Ask, end, by_rules}
use Rattle.cube_model.specs.Twins.{changes}
use Rattle.cube_model.specs.TwoWorlds.{Extends}
use Rattle.cube_model.specs.Verdicts.{IsAdmissible}
use Rattle.cube_io.specs.Causes.{Rose}
use Rattle.cube_io.specs.Seen.{FolderState, SinkState, StoreState, Seen, Unused}
use Rattle.cube_journal.specs.SecondText.{journal2_text}
use Rattle.cube_answers.specs.VerdictText.{unprotected}
use Rattle.cube_engine.specs.Books.{Book}
use Rattle.cube_engine.specs.Kept.{digest_for, history_of}
use Rattle.cube_carry.specs.Carrying.{carried_history, stops, IsCarried}
use Rattle.cube_carry.specs.Continues.{Continues, KeepsValues, breaches}
use Rattle.cube_carry.specs.Names.{named, measure_in}
use Rattle.cube_carry.specs.TwoLives.{HidesNew, HidesOld, old_cell_changes}
use Rattle.cube_carrying.specs.Comparing.{breach_of}
use Rattle.cube_carrying.specs.Histories.{stop_of}
use Rattle.cube_carrying.specs.Telling.{breach_text, stop_text}
use Rattle.cube_carrying.specs.declared.breach.Breach.{Breach}
use Rattle.cube_carrying.specs.declared.histories.Stop.{Stop}
use Rattle.cube_opening.specs.Opening.{GotBehind, Make, HasAll, EndsUnopened, names_of}
use Rattle.cube_opening.specs.Reports.{IsDone}
use Rattle.cube_opening.specs.declared.cube_files.CubeFiles.{CubeFiles}
use Rattle.cube_opening.specs.declared.report.Report.{Report}
use Rattle.cube_opening.specs.Outside.{Outside}
use Rattle.cube_starting.specs.OneCube.{EndsClosed, HasJournal}
use Rattle.cube_commands.specs.Ends.{SaidBy, SaysOver}
use Rattle.cube_commands.specs.Saying.{IsUnsaidBy, SaysOne}
use Rattle.cube_commands.specs.declared.saying.Unsaid.{Unsaid}

-- ---- two lives of a cube

-- a cube under a policy with its history, and the cube that is to continue it under its policy
pub record Handing : Type 0 where
  pub older : Core
  pub older_policy : Policy
  pub history : List Entry
  pub core : Core
  pub policy : Policy

-- the entries that stand for the history in the new cube
abbrev pub carried_entries : Handing → List Entry
carried_entries x = carried_history (named x.older x.older_policy) (named x.core x.policy) x.history

-- the journal of the new cube that holds them
abbrev pub carried_text : Handing → List ℕ
carried_text x = journal2_text (digest_for x.core x.policy) (carried_entries x)

-- asks of the older cube that ended with its history, asks of the new cube from the carried history on, and an admissible history
-- that goes on from there
pub record GoesOn (x : Handing) (begun : List Entry) (before behind : List Ask) (later : List Entry) : Type 0 where
  pub begins : IsAdmissible (shown x.older x.older_policy) begun
  pub ended : end by_rules (shown x.older x.older_policy) begun before ≡ x.history
  pub admissible : IsAdmissible (shown x.core x.policy) later
  pub extends : Extends (end by_rules (shown x.core x.policy) (carried_entries x) behind) later

-- Both lives together hide each protected cell of the new cube, by the changes for the later history.
abbrev pub HidesNewCells : Handing → Type 0
HidesNewCells x = (begun : List Entry) (before behind : List Ask) (later : List Entry) (m : ℕ) (t : Cell) → GoesOn x begun before behind later → IsIn t (protected (shown x.core x.policy) m)
    → HidesNew (named x.older x.older_policy) (named x.core x.policy) x.older.cube x.core.cube begun before behind m t (changes (shown x.core x.policy) later m t)

-- And each cell that the older cube protected.
abbrev pub HidesOldCells : Handing → Type 0
HidesOldCells x = (begun : List Entry) (before behind : List Ask) (later : List Entry) (m : ℕ) (t : Cell) → GoesOn x begun before behind later → IsIn t (protected (shown x.older x.older_policy) m)
    → HidesOld (named x.older x.older_policy) (named x.core x.policy) x.older.cube x.core.cube begun before behind m (measure_in x.older.dims x.core.dims m) t
    (old_cell_changes (named x.older x.older_policy) (named x.core x.policy) later (measure_in x.older.dims x.core.dims m) t)

-- ---- what is said

-- The text is the journal of the carried history of a cube that continues the older one: it is admissible, the text recovers just it and
-- is no longer than a journal may be, and both lives together hide each protected cell of both cubes.
pub record Carries (x : Handing) (text : List ℕ) : Type 0 where
  pub continues : Continues (named x.older x.older_policy) (named x.core x.policy)
  pub same_values : KeepsValues (named x.older x.older_policy) (named x.core x.policy) x.older.cube x.core.cube
  pub carried : IsCarried (named x.older x.older_policy) (named x.core x.policy) x.history
  pub text_is : text ≡ carried_text x
  pub admissible : IsAdmissible (shown x.core x.policy) (carried_entries x)
  pub recovers : history_of x.core x.policy text ≡ Ok (carried_entries x)
  pub short : length text ≤ 2 ^ 28
  pub new_cells : HidesNewCells x
  pub old_cells : HidesOldCells x

-- the line names the first thing that keeps the cube from continuing the older one
pub record Breaks (x : Handing) (line : List ℕ) : Type 0 where
  pub breach : Breach
  pub is_first : first (breaches (named x.older x.older_policy) (named x.core x.policy) x.older.cube x.core.cube) ≡ Some (breach_of x.older.dims x.core.dims breach)
  pub line_is : line ≡ breach_text x.older.dims x.core.dims (unprotected x.older) breach

-- the cube continues the older one, and the line names the first thing that stops the history
pub record StopsAt (x : Handing) (line : List ℕ) : Type 0 where
  pub continues : Continues (named x.older x.older_policy) (named x.core x.policy)
  pub same_values : KeepsValues (named x.older x.older_policy) (named x.core x.policy) x.older.cube x.core.cube
  pub stop : Stop
  pub is_first : first (stops (named x.older x.older_policy) (named x.core x.policy) x.history) ≡ Some (stop_of stop)
  pub line_is : line ≡ stop_text x.core.dims stop

abbrev pub IsCarryOf : Handing → Result (List ℕ) (List ℕ) → Type 0
IsCarryOf x (Ok text) = Carries x text
IsCarryOf x (Err line) = Breaks x line ⊎ StopsAt x line

-- This was said, unless memory ran out before.
abbrev pub HandsOver : {O : Type 0} → Handing → Seen SinkState O → Report → Type 0
HandsOver x out r = SaysOne (codes "carry: ") (IsCarryOf x) out r

-- ---- why nothing is carried over

-- from what a book holds to a core under a policy
abbrev pub handing_of : Book → Core → Policy → Handing
handing_of b c p = record { older = b.core; older_policy = b.policy; history = b.history; core = c; policy = p }

-- the line names what stands in the way, or memory ran out
abbrev pub IsUncarried : Handing → Unsaid → Type 0
IsUncarried x why = IsUnsaidBy (IsCarryOf x) why

-- the new cube continues the older one, with its values, and the history is carried over
abbrev pub IsHanded : Handing → Type 0
IsHanded x = Continues (named x.older x.older_policy) (named x.core x.policy) × KeepsValues (named x.older x.older_policy) (named x.core x.policy) x.older.cube x.core.cube × IsCarried (named x.older x.older_policy) (named x.core x.policy) x.history

-- ---- a run

-- The files of the new cube make a core and a policy; then the older cube was opened with its journal, and what is carried over was said.
pub record CarriedOver {S O : Type 0} (cube older : CubeFiles) (files : FolderState) (store : Seen StoreState S) (out : Seen SinkState O) (r : Report) : Type 0 where
  pub new_core : Core
  pub new_policy : Policy
  pub files_make : Make cube files new_core new_policy
  pub hands : SaidBy older files store (λ core policy h. HandsOver (record { older = core; older_policy = policy; history = h; core = new_core; policy = new_policy }) out r)

-- A run got behind the files of the new cube at some moment, and from then on ended before the older one was open.
pub record EndsAtOlder {F S : Type 0} (cube older : CubeFiles) (files : Seen FolderState F) (store : Seen StoreState S) (r : Report) : Type 0 where
  pub moment : F
  pub between : FolderState
  pub same_files : between.files ≡ files.before.files
  pub behind : GotBehind (names_of cube) (record { before = files.before; after = between; old = files.old; new = moment })
  pub ends : EndsClosed older (names_of older) (record { before = between; after = files.after; old = moment; new = files.new }) store r

-- A run that is to carry a history over ends at the files of the new cube, or before the older one is open, or it says what it comes to.
abbrev pub CarryEnds : {F S I O W : Type 0} → CubeFiles → CubeFiles → Outside F S I O W → Report → Type 0
CarryEnds cube older x r =
    (EndsUnopened cube x.files r × Unused x.store × Unused x.out)
    ⊎ (EndsAtOlder cube older x.files x.store r × Unused x.out)
    ⊎ (CarriedOver cube older x.files.before x.store x.out r × GotBehind (names_of cube ++ names_of older) x.files)

-- the history is carried over, for each two cubes and each history that the files and the log make
abbrev pub CanCarry : CubeFiles → CubeFiles → FolderState → StoreState → Type 0
CanCarry cube older files store = (x : Handing) → Make cube files x.core x.policy → Make older files x.older x.older_policy → history_of x.older x.older_policy (store.logs 0).state.now ≡ Ok x.history → IsHanded x

-- where the files and the journal are accepted, the history is carried over and no count rose, all is done
abbrev pub CarryCompletes : {F S I O W : Type 0} → CubeFiles → CubeFiles → Outside F S I O W → Report → Type 0
CarryCompletes cube older x r = HasAll cube x.files.before → HasAll older x.files.before → HasJournal older x.files.before x.store.before → CanCarry cube older x.files.before x.store.before
    → ¬ Rose x.files.before.faults x.files.after.faults → ¬ Rose x.store.before.faults x.store.after.faults → ¬ Rose x.out.before.faults x.out.after.faults → IsDone r

-- All that a run that is to carry a history over does with these files and this journal. Where nothing is carried, nothing is put.
abbrev pub CarryRun : {F S I O W : Type 0} → CubeFiles → CubeFiles → List ℕ → Outside F S I O W → Report → Type 0
CarryRun cube older journal x r = SaysOver journal x.store r (CarryEnds cube older x r) (CarryCompletes cube older x r)
