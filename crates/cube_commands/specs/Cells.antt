-- All that `witness`, `twin` and `compact` do.
use Rattle.std.specs.Prelude.{◌≡◌, ◌⊎◌, ⊤, ℕ, nat_lt, IsOk, List, ◌++◌, length, codes, if◌then◌else◌}
use Rattle.std.specs.declared.result.Result.{Result}
use Rattle.std.specs.declared.result.Result.TheVariants.{Ok, Err}
use Rattle.cube_model.specs.declared.entry.Entry.{Entry}
use Rattle.cube_model.specs.declared.policy.Policy.{Policy}
use Rattle.cube_model.specs.Cores.{Core, shown}
use Rattle.cube_io.specs.Causes.{Rose}
use Rattle.cube_io.specs.Files.{max_file}
use Rattle.cube_io.specs.Seen.{FolderState, StoreState}
use Rattle.cube_engine.specs.Changes.{changes_for, text_of, twin_for}
use Rattle.cube_engine.specs.Compacting.{compacted_text, KeepsAll}
use Rattle.cube_engine.specs.Kept.{history_of}
use Rattle.cube_opening.specs.Opening.{Make, HasAll, names_of}
use Rattle.cube_opening.specs.Reports.{IsDone}
use Rattle.cube_opening.specs.declared.cube_files.CubeFiles.{CubeFiles}
use Rattle.cube_opening.specs.declared.report.Report.{Report}
use Rattle.cube_opening.specs.Outside.{Outside}
use Rattle.cube_starting.specs.OneCube.{HasJournal}
use Rattle.cube_commands.specs.Ends.{EndsOrSays, SaysOver}
use Rattle.cube_commands.specs.Saying.{SaysOne}
use Rattle.cube_commands.specs.declared.cells.Telling.{Telling}
use Rattle.cube_commands.specs.declared.cells.Telling.TheVariants.{Changes, Twin, Compacted}

-- a fact file that is longer than one that is read may be is refused
abbrev pub unless_too_long : Result (List ℕ) (ℕ × List ℕ) → Result (List ℕ) (ℕ × List ℕ)
unless_too_long (Ok text) = if nat_lt max_file (length text) then Err (413, codes "twin limit file 67108864\n") else Ok text
unless_too_long (Err why) = Err why

-- the changes for a cell in words, the fact file that they make, or the journal of the compacted history; or the status and the line that
-- say why there is none
abbrev pub told_text : Telling → Core → Policy → List Entry → List ℕ → Result (List ℕ) (ℕ × List ℕ)
told_text Changes core policy h cell = text_of core.dims (shown core policy) (changes_for core.dims (shown core policy) h cell)
told_text Twin core policy h cell = unless_too_long (twin_for core policy h cell)
told_text Compacted core policy h cell = Ok (compacted_text core policy h)

-- this text is told, or this line says why none is
abbrev pub IsTold : Result (List ℕ) (ℕ × List ℕ) → Result (List ℕ) (List ℕ) → Type 0
IsTold found (Ok text) = found ≡ Ok text
IsTold found (Err line) = (status : ℕ) × (found ≡ Err (status, line))

-- a history that is told compacted keeps all
abbrev pub KeepsIf : Telling → Core → Policy → List Entry → Type 0
KeepsIf Changes core policy h = ⊤
KeepsIf Twin core policy h = ⊤
KeepsIf Compacted core policy h = KeepsAll core policy h

-- what is to be told is there over each core and history that the files and the log make
abbrev pub CanTell : Telling → CubeFiles → List ℕ → FolderState → StoreState → Type 0
CanTell telling cube cell files store =
    (core : Core) (policy : Policy) (h : List Entry) → Make cube files core policy → history_of core policy (store.logs 0).state.now ≡ Ok h → IsOk (told_text telling core policy h cell)

-- A run that is to tell ends before its cube is open, or it tells by the history of the cube. A compacted history keeps all.
abbrev pub TellEnds : {F S I O W : Type 0} → Telling → CubeFiles → List ℕ → Outside F S I O W → Report → Type 0
TellEnds telling cube cell x r = EndsOrSays cube (names_of cube) (λ core policy h. SaysOne (codes "cell: ") (IsTold (told_text telling core policy h cell)) x.out r × KeepsIf telling core policy h) x.files x.store x.out r

-- where the files, the journal and what is to be told are accepted and no count rose, all is done
abbrev pub TellCompletes : {F S I O W : Type 0} → Telling → CubeFiles → List ℕ → Outside F S I O W → Report → Type 0
TellCompletes telling cube cell x r = HasAll cube x.files.before → HasJournal cube x.files.before x.store.before → CanTell telling cube cell x.files.before x.store.before
    → ¬ Rose x.files.before.faults x.files.after.faults → ¬ Rose x.store.before.faults x.store.after.faults → ¬ Rose x.out.before.faults x.out.after.faults → IsDone r

-- All that a run that is to tell does with these files, this journal and this cell. Where nothing is told, nothing is put.
abbrev pub TellRun : {F S I O W : Type 0} → Telling → CubeFiles → List ℕ → List ℕ → Outside F S I O W → Report → Type 0
TellRun telling cube journal cell x r = SaysOver journal x.store r (TellEnds telling cube cell x r) (TellCompletes telling cube cell x r)
