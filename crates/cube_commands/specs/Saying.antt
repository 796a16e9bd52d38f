-- What a command says on its output: a text, or a line by which it refuses what was asked.
use Rattle.std.specs.Prelude.{◌≡◌, ◌⊎◌, ⊤, ℕ, Bool, true, false, List, ◌++◌, codes}
use Rattle.std.specs.declared.result.Result.{Result}
use Rattle.std.specs.declared.result.Result.TheVariants.{Ok, Err}
use Rattle.cube_io.specs.Seen.{SinkState, Seen}
use Rattle.cube_opening.specs.Reports.{IsReport, NoMessage, Prints, PrintsWith}
use Rattle.cube_opening.specs.declared.report.Report.{Report}
use Rattle.cube_commands.specs.declared.saying.Unsaid.{Unsaid}
use Rattle.cube_commands.specs.declared.saying.Unsaid.TheVariants.{Line, NoMemory}

-- there was no memory for it, and nothing is put
abbrev pub PutsNone : {O : Type 0} → Seen SinkState O → Report → Type 0
PutsNone out r = IsReport 7 (codes "no memory\n") r × (out.after.written ≡ out.before.written)

-- the text was put, unless memory ran out
abbrev pub Puts : {O : Type 0} → List ℕ → Seen SinkState O → Report → Type 0
Puts text out r = Prints text out r ⊎ PutsNone out r

-- the status of a line on whether something is so
abbrev pub status_on : Bool → ℕ
status_on true = 0
status_on false = 1

-- a line on whether something is so was put, and the status says it too, unless memory ran out
abbrev pub PutsWhether : {O : Type 0} → Bool → List ℕ → Seen SinkState O → Report → Type 0
PutsWhether so text out r = PrintsWith (status_on so) text out r ⊎ PutsNone out r

-- the text was put; or the line refuses what was asked, behind these words, and nothing is put
abbrev pub PutsSaid : {O : Type 0} → List ℕ → Result (List ℕ) (List ℕ) → Seen SinkState O → Report → Type 0
PutsSaid before (Ok text) out r = Prints text out r
PutsSaid before (Err line) out r = (IsReport 3 (before ++ line) r ⊎ NoMessage r) × (out.after.written ≡ out.before.written)

-- Of these something was said, unless memory ran out.
abbrev pub SaysOne : {O : Type 0} → List ℕ → (Result (List ℕ) (List ℕ) → Type 0) → Seen SinkState O → Report → Type 0
SaysOne before Is out r = ((said : Result (List ℕ) (List ℕ)) × Is said × PutsSaid before said out r) ⊎ PutsNone out r

-- ---- why nothing is said

-- the line is one of these, or memory ran out
abbrev pub IsUnsaidBy : (Result (List ℕ) (List ℕ) → Type 0) → Unsaid → Type 0
IsUnsaidBy Is (Line line) = Is (Err line)
IsUnsaidBy Is NoMemory = ⊤

-- a line refuses what was asked
abbrev pub IsRefusal : Result (List ℕ) Unsaid → Type 0
IsRefusal (Ok text) = ⊥
IsRefusal (Err (Line line)) = ⊤
IsRefusal (Err NoMemory) = ⊥

-- a report on what is said, or on why nothing is
abbrev pub SaysSo : {O : Type 0} → List ℕ → Result (List ℕ) Unsaid → Seen SinkState O → Report → Type 0
SaysSo before (Ok text) out r = Prints text out r
SaysSo before (Err (Line line)) out r = PutsSaid before (Err line) out r
SaysSo before (Err NoMemory) out r = PutsNone out r
