-- What a run of the program does: all that is promised of the top call.
use Rattle.std.specs.Prelude.{◌≡◌, ◌⊎◌, ⊤, ℕ, IsTrue, List, [], Option, None, Result, Ok, Err, IfOk, IfErr}
use Rattle.cube_io.specs.Seen.{FolderState, SinkState, StoreState, WireState}
use Rattle.cube_io.specs.Wires.{LogEntry}
use Rattle.cube_opening.specs.Causes.{Counts, Rises, IsOwn, HasCauses}
use Rattle.cube_opening.specs.Outside.{Outside, UsesFiles, UsesJournal, UsesLines, UsesNoWire, UsesNone, UsesOutput, UsesWire, counted}
use Rattle.cube_opening.specs.Reports.{IsReport, NoMessage, Prints}
use Rattle.cube_opening.specs.Ruling.{most_groups}
use Rattle.cube_opening.specs.declared.report.Report.{Report}
use Rattle.cube_starting.specs.Grouping.{OnlyFirst}
use Rattle.cube_words.specs.Help.{help_said}
use Rattle.cube_words.specs.Words.{out_of}
use Rattle.cube_words.specs.declared.ordered.Orders.{Orders}
use Rattle.cube_words.specs.declared.ordered.Orders.TheVariants.{Help, Version, Draft, Sum, Check, Ask, Witness, Twin, Compact, Carry, Why, Audit, Advise, Serve, Replay, Demo}
use Rattle.cube_words.specs.declared.words.Usage.{Usage}
use Rattle.cube_commands.specs.Advising.{AdviseRun}
use Rattle.cube_commands.specs.Auditing.{AuditRun}
use Rattle.cube_commands.specs.Carrying.{CarryRun}
use Rattle.cube_commands.specs.Cells.{TellRun}
use Rattle.cube_commands.specs.declared.cells.Telling.TheVariants as telling
use Rattle.cube_commands.specs.Drafting.{DraftRun}
use Rattle.cube_commands.specs.Making.{DemoRun}
use Rattle.cube_commands.specs.Reasons.{ReasonRun}
use Rattle.cube_serving.specs.Serving.{PermitsServing}
use Rattle.cube_app.specs.Serves.{ServeRun, ReplayRun}
use Rattle.cube_commands.specs.Summary.{CheckRun}
use Rattle.cube_commands.specs.Talks.{SumRun, AskRun, PermitsAsking}
use Rattle.cube_app.specs.Texts.{usage_text, version_text}

-- ---- what each command does

-- What is done where this is ordered: texts about the program are printed, files are drafted for a fact file, the lines of the input are answered by sums or as asks, the files
-- are summed up, a cell or the compacted history is told, a history is carried over, connections are served, a script is played, or a made cube is shown.
abbrev pub Does : {F S I O W : Type 0} → Orders → Outside F S I O W → Report → Type 0
Does (Help on) objects r = Prints (help_said on) objects.out r
Does Version objects r = Prints version_text objects.out r
Does (Draft drafting) objects r = DraftRun drafting objects r
Does (Sum facts) objects r = SumRun facts objects r
Does (Check cube) objects r = CheckRun cube objects r
Does (Ask cube journal stated) objects r = AskRun cube journal stated objects r
Does (Witness cube journal cell) objects r = TellRun telling.Changes cube journal cell objects r
Does (Twin cube journal cell) objects r = TellRun telling.Twin cube journal cell objects r
Does (Compact cube journal out) objects r = TellRun telling.Compacted cube journal [] objects r
Does (Carry cube older journal out) objects r = CarryRun cube older journal objects r
Does (Why cube journal query reason) objects r = ReasonRun cube journal query reason objects r
Does (Audit cube transcript) objects r = AuditRun cube transcript objects r
Does (Advise cube journal workload) objects r = AdviseRun cube journal workload objects r
Does (Serve cube journal address stated idle) objects r = ServeRun cube journal address stated idle objects r
Does (Replay cube journal script stated) objects r = ReplayRun cube journal script stated objects r
Does (Demo making) objects r = DemoRun making objects r

-- Which objects it uses: the others are as they were. Only `ask`, `serve` and `replay` report what became of asks.
abbrev pub Leaves : {F S I O W : Type 0} → Orders → Outside F S I O W → Report → Type 0
Leaves (Help on) objects r = UsesOutput objects × (r.outcomes ≡ [])
Leaves Version objects r = UsesOutput objects × (r.outcomes ≡ [])
Leaves (Draft drafting) objects r = UsesFiles objects × (r.outcomes ≡ [])
Leaves (Sum facts) objects r = UsesLines objects × (r.outcomes ≡ [])
Leaves (Check cube) objects r = UsesFiles objects × (r.outcomes ≡ [])
Leaves (Ask cube journal stated) objects r = UsesNoWire objects
Leaves (Witness cube journal cell) objects r = UsesJournal objects × (r.outcomes ≡ [])
Leaves (Twin cube journal cell) objects r = UsesJournal objects × (r.outcomes ≡ [])
Leaves (Compact cube journal out) objects r = UsesJournal objects × (r.outcomes ≡ [])
Leaves (Carry cube older journal out) objects r = UsesJournal objects × (r.outcomes ≡ [])
Leaves (Why cube journal query reason) objects r = UsesJournal objects × (r.outcomes ≡ [])
Leaves (Audit cube transcript) objects r = UsesFiles objects × (r.outcomes ≡ [])
Leaves (Advise cube journal workload) objects r = UsesJournal objects × (r.outcomes ≡ [])
Leaves (Serve cube journal address stated idle) objects r = UsesWire objects
Leaves (Replay cube journal script stated) objects r = UsesJournal objects
Leaves (Demo making) objects r = UsesOutput objects × (r.outcomes ≡ [])

-- ---- what every command keeps to

-- how many journals a run may have
abbrev pub journals_of : Orders → ℕ
journals_of (Serve cube journal address stated idle) = most_groups cube.rules
journals_of (Replay cube journal script stated) = most_groups cube.rules
journals_of other = 1

-- These orders were obeyed. Status 2 is for wrong words alone, a fault of an object outside is reported only where it was counted, and no
-- log of the store changed but those of its journals and their seals.
pub record Obeyed {F S I O W : Type 0} (orders : Orders) (objects : Outside F S I O W) (r : Report) : Type 0 where
  pub does : Does orders objects r
  pub leaves : Leaves orders objects r
  pub causes : HasCauses (counted objects) r
  pub others : OnlyFirst (journals_of orders) objects.store.before objects.store.after

-- ---- what the objects outside have to allow

-- Under `ask` the output allows each piece that is put of the answers, over a journal that has kept what was answered. Under `serve` the
-- wire allows that the next event is looked for, and what was sent goes out, wherever all is true that is promised of a run which ends
-- there. Nothing else is asked of an object.
abbrev pub Permits : {F S : Type 0} → (F → FolderState) → (S → StoreState) → (StoreState → List ℕ → List ℕ → Type 0) → (StoreState → List LogEntry → Type 0) → F → S → SinkState → WireState → Orders → Type 0
Permits {F} {S} folder tells puts looks files store out wire (Ask cube journal stated) = PermitsAsking cube (folder files) tells puts store out.written
Permits {F} {S} folder tells puts looks files store out wire (Serve cube journal address stated idle) = IsTrue wire.told → PermitsServing cube stated folder tells looks files store
Permits {F} {S} folder tells puts looks files store out wire other = ⊤

-- ---- where nothing outside failed

-- no count of faults rose
abbrev pub NoneRose : Counts → Type 0
NoneRose c = ¬ Rises c.files × ¬ Rises c.store × ¬ Rises c.input × ¬ Rises c.out × ¬ Rises c.wire

-- the statuses of a run where none rose: one of its own, or that of wrong words
abbrev pub CalmStatus : ℕ → Type 0
CalmStatus n = (n ≡ 2) ⊎ IsOwn n

-- ---- the whole

-- The words give these orders, or this is wrong with them. Wrong words are told with status 2 and nothing else is done; what is ordered is
-- obeyed. Where there is no memory to begin, nothing is done either. Whatever the objects tell, a run in which none of them counted a
-- fault ends with one of seven statuses.
pub record Runs {F S I O W : Type 0} (words : List (List ℕ)) (given : Result Orders Usage) (objects : Outside F S I O W) (r : Report) : Type 0 where
  pub refused : IfErr given (λ usage. (IsReport 2 (usage_text words usage) r ⊎ NoMessage r) × UsesNone objects)
  pub obeyed : IfOk given (λ orders. Obeyed orders objects r ⊎ (NoMessage r × UsesNone objects))
  pub calm : NoneRose (counted objects) → CalmStatus r.status

-- ---- where its output goes

-- the file that the words name for the output
abbrev pub out_in : Result Orders Usage → Option (List ℕ)
out_in (Ok orders) = out_of orders
out_in (Err usage) = None
