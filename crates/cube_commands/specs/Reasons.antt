-- All that `why` does: it says why a query is refused, or whether a text says so.
use Rattle.std.specs.Prelude.{◌≡◌, ◌⊎◌, ◌↔◌, ⊤, ℕ, Bool, true, IsOk, List, ◌++◌, codes, if◌then◌else◌, IfSome, Option, Some, None}
use Rattle.std.specs.declared.result.Result.{Result}
use Rattle.std.specs.declared.result.Result.TheVariants.{Ok, Err}
use Rattle.cube_model.specs.declared.entry.Entry.{Entry}
use Rattle.cube_model.specs.declared.policy.Policy.{Policy}
use Rattle.cube_model.specs.declared.request.Request.{Request}
use Rattle.cube_model.specs.Cores.{Core, shown}
use Rattle.cube_model.specs.Verdicts.{verdict}
use Rattle.cube_io.specs.Causes.{Rose}
use Rattle.cube_io.specs.Seen.{FolderState, SinkState, Seen, Unused}
use Rattle.cube_query.specs.Faults.{request_of, fault_body}
use Rattle.cube_query.specs.declared.fault.RequestFault.{RequestFault}
use Rattle.cube_reason.specs.Showing.{IsWhy, Shows}
use Rattle.cube_opening.specs.Opening.{EndsAtLast, FileSays, HasAll, HasFile, Make, names_of, names_with, unless_long}
use Rattle.cube_opening.specs.Reports.{IsDone}
use Rattle.cube_opening.specs.declared.cube_files.CubeFiles.{CubeFiles}
use Rattle.cube_opening.specs.declared.report.Report.{Report}
use Rattle.cube_opening.specs.Outside.{Outside}
use Rattle.cube_starting.specs.OneCube.{HasJournal}
use Rattle.cube_commands.specs.Ends.{EndsOrSays, SaysOver}
use Rattle.cube_commands.specs.Saying.{SaysOne}
use Rattle.cube_commands.specs.declared.saying.Unsaid.{Unsaid}
use Rattle.cube_commands.specs.declared.saying.Unsaid.TheVariants.{Line, NoMemory}

-- ---- what is said of a query

-- the query is no request, by the line that the reply to it has
pub record Unasked (core : Core) (query line : List ℕ) : Type 0 where
  pub fault : RequestFault
  pub unread : request_of core.dims query ≡ Err fault
  pub line_is : line ≡ fault_body fault

-- a request that the query is, and why it is refused behind a history
pub record SaysWhy (core : Core) (policy : Policy) (h : List Entry) (query text : List ℕ) : Type 0 where
  pub request : Request
  pub read : request_of core.dims query ≡ Ok request
  pub why : IsWhy core.dims (shown core policy) h request (verdict (shown core policy) h request) text

abbrev pub accepted_text : Bool → List ℕ
accepted_text taken = if taken then codes "accepted\n" else codes "not accepted\n"

-- a text is accepted exactly where it is the line of the refusal of a request and behind it the lines of a reason, and this is said
pub record Accepts (core : Core) (policy : Policy) (h : List Entry) (request : Request) (reason text : List ℕ) : Type 0 where
  pub taken : Bool
  pub exact : (taken ≡ true) ↔ Shows core.dims (shown core policy) h request (verdict (shown core policy) h request) reason
  pub text_is : text ≡ accepted_text taken

-- a request that the query is, and whether a text is accepted for it
pub record SaysWhether (core : Core) (policy : Policy) (h : List Entry) (query reason text : List ℕ) : Type 0 where
  pub request : Request
  pub read : request_of core.dims query ≡ Ok request
  pub accepts : Accepts core policy h request reason text

abbrev pub IsWhyOf : Core → Policy → List Entry → List ℕ → Result (List ℕ) (List ℕ) → Type 0
IsWhyOf core policy h query (Ok text) = SaysWhy core policy h query text
IsWhyOf core policy h query (Err line) = Unasked core query line

abbrev pub IsWhetherOf : Core → Policy → List Entry → List ℕ → List ℕ → Result (List ℕ) (List ℕ) → Type 0
IsWhetherOf core policy h query reason (Ok text) = SaysWhether core policy h query reason text
IsWhetherOf core policy h query reason (Err line) = Unasked core query line

-- ---- why nothing is said

-- the line is that of the reply to this fault, or memory ran out
abbrev pub IsUnread : RequestFault → Unsaid → Type 0
IsUnread fault (Line line) = line ≡ fault_body fault
IsUnread fault NoMemory = ⊤

-- the query is no request, or memory ran out
abbrev pub IsUnsaid : Core → List ℕ → Unsaid → Type 0
IsUnsaid core query (Line line) = Unasked core query line
IsUnsaid core query NoMemory = ⊤

-- ---- why

-- what stands before a line that refuses a query
abbrev pub of_query : List ℕ
of_query = codes "query: "

-- the query is a request over each core that the files make
abbrev pub IsQuery : CubeFiles → List ℕ → FolderState → Type 0
IsQuery cube query files = (core : Core) (policy : Policy) → Make cube files core policy → IsOk (request_of core.dims query)

-- a run that is to say why ends before its cube is open, or it says so of the history of the cube
abbrev pub WhyEnds : {F S I O W : Type 0} → CubeFiles → List ℕ → Outside F S I O W → Report → Type 0
WhyEnds cube query x r = EndsOrSays cube (names_of cube) (λ core policy h. SaysOne of_query (IsWhyOf core policy h query) x.out r) x.files x.store x.out r

-- where the files, the journal and the query are accepted and no count rose, all is done
abbrev pub WhyCompletes : {F S I O W : Type 0} → CubeFiles → List ℕ → Outside F S I O W → Report → Type 0
WhyCompletes cube query x r = HasAll cube x.files.before → HasJournal cube x.files.before x.store.before → IsQuery cube query x.files.before
    → ¬ Rose x.files.before.faults x.files.after.faults → ¬ Rose x.store.before.faults x.store.after.faults → ¬ Rose x.out.before.faults x.out.after.faults → IsDone r

-- All that a run that is to say why does with these files, this journal and this query. Where nothing is said, nothing is put.
abbrev pub WhyRun : {F S I O W : Type 0} → CubeFiles → List ℕ → List ℕ → Outside F S I O W → Report → Type 0
WhyRun cube journal query x r = SaysOver journal x.store r (WhyEnds cube query x r) (WhyCompletes cube query x r)

-- ---- whether a text says why

-- the bytes of a reason, which need not be one
abbrev pub reason_said : List ℕ → Result (List ℕ) (List ℕ)
reason_said bytes = unless_long (codes "reason") bytes (Ok bytes)

-- the file of this name says these bytes, and it was said whether they are those of a reason
pub record SaysOfFile {O : Type 0} (query name : List ℕ) (files : FolderState) (out : Seen SinkState O) (r : Report) (core : Core) (policy : Policy) (h : List Entry) : Type 0 where
  pub reason : List ℕ
  pub read : IfSome files.files (λ known. FileSays reason_said name known (Ok reason))
  pub says : SaysOne of_query (IsWhetherOf core policy h query reason) out r

-- a run that is to check a reason ends at its file, or before its cube is open, or it says whether it is one
abbrev pub WhetherEnds : {F S I O W : Type 0} → CubeFiles → List ℕ → List ℕ → Outside F S I O W → Report → Type 0
WhetherEnds cube query name x r =
    (EndsAtLast cube reason_said name x.files r × Unused x.store × Unused x.out)
    ⊎ EndsOrSays cube (names_with cube name) (SaysOfFile query name x.files.before x.out r) x.files x.store x.out r

abbrev pub WhetherCompletes : {F S I O W : Type 0} → CubeFiles → List ℕ → List ℕ → Outside F S I O W → Report → Type 0
WhetherCompletes cube query name x r = HasAll cube x.files.before → HasFile reason_said name x.files.before → HasJournal cube x.files.before x.store.before → IsQuery cube query x.files.before
    → ¬ Rose x.files.before.faults x.files.after.faults → ¬ Rose x.store.before.faults x.store.after.faults → ¬ Rose x.out.before.faults x.out.after.faults → IsDone r

-- All that a run that is to check the reason in a file does with these files, this journal and this query.
abbrev pub WhetherRun : {F S I O W : Type 0} → CubeFiles → List ℕ → List ℕ → List ℕ → Outside F S I O W → Report → Type 0
WhetherRun cube journal query name x r = SaysOver journal x.store r (WhetherEnds cube query name x r) (WhetherCompletes cube query name x r)

-- ---- with or without the file of a reason

-- where a file is named it is said whether it says why, and else why
abbrev pub ReasonRun : {F S I O W : Type 0} → CubeFiles → List ℕ → List ℕ → Option (List ℕ) → Outside F S I O W → Report → Type 0
ReasonRun cube journal query None x r = WhyRun cube journal query x r
ReasonRun cube journal query (Some name) x r = WhetherRun cube journal query name x r
