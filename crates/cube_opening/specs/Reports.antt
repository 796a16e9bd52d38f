-- Reports of how a run ended.
use Rattle.std.specs.Prelude.{◌≡◌, ◌⊎◌, ℕ, List, [], codes}
use Rattle.std.specs.Io.KnownBytes.{Appends}
use Rattle.cube_io.specs.Content.{AppendsPrefix}
use Rattle.cube_io.specs.Seen.{SinkState, Seen}
use Rattle.cube_opening.specs.declared.report.Report.{Report}

-- a report of this status and text, without outcomes
abbrev pub IsReport : ℕ → List ℕ → Report → Type 0
IsReport status text r = (r.status ≡ status) × (r.outcomes ≡ []) × (r.text ≡ text)

-- there was no memory for the text of a report
abbrev pub NoMessage : Report → Type 0
NoMessage r = IsReport 7 [] r

-- all was done, or memory ran out
abbrev pub IsDone : Report → Type 0
IsDone r = (r.status ≡ 0) ⊎ (r.status ≡ 7)

-- all was done, or memory ran out, or what was to be shown is not so
abbrev pub IsJudged : Report → Type 0
IsJudged r = IsDone r ⊎ (r.status ≡ 1)

-- a text was put on the sink, and the run ends so
abbrev pub PrintsWith : {O : Type 0} → ℕ → List ℕ → Seen SinkState O → Report → Type 0
PrintsWith status text out r =
    (IsReport status [] r × Appends out.before.written out.after.written text)
    ⊎ (IsReport 6 (codes "output failed\n") r × AppendsPrefix out.before.written out.after.written text)
    ⊎ (NoMessage r × (out.after.written ≡ out.before.written))

-- and all was done
abbrev pub Prints : {O : Type 0} → List ℕ → Seen SinkState O → Report → Type 0
Prints text out r = PrintsWith 0 text out r
