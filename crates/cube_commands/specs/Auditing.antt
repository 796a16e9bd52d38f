-- All that `audit` does.
use Rattle.std.specs.Prelude.{◌≡◌, ◌⊎◌, ℕ, Bool, true, false, List, codes, IfSome}
use Rattle.std.specs.declared.result.Result.{Result}
use Rattle.std.specs.declared.result.Result.TheVariants.{Ok}
use Rattle.cube_model.specs.declared.policy.Policy.{Policy}
use Rattle.cube_model.specs.Cores.{Core}
use Rattle.cube_io.specs.Causes.{Rose}
use Rattle.cube_io.specs.Seen.{FolderState, SinkState, Seen, Unused}
use Rattle.cube_opening.specs.Opening.{fault_text, faulted, unless_long, FileSays, EndsAtLast, EndsUnopened, GotBehind, Make, HasAll, HasFile, names_with}
use Rattle.cube_opening.specs.Reports.{IsJudged}
use Rattle.cube_opening.specs.declared.cube_files.CubeFiles.{CubeFiles}
use Rattle.cube_opening.specs.declared.report.Report.{Report}
use Rattle.cube_opening.specs.Outside.{Outside}
use Rattle.cube_audit.specs.Audits.{audited}
use Rattle.cube_audit.specs.AuditText.{audited_text}
use Rattle.cube_audit.specs.Sound.{SaysSound}
use Rattle.cube_audit.specs.Transcripts.{transcript_of}
use Rattle.cube_audit.specs.Words.{fault_words}
use Rattle.cube_audit.specs.declared.auditing.Audited.{Audited}
use Rattle.cube_audit.specs.declared.auditing.Audited.TheVariants.{Yes, Inexact, Fixed}
use Rattle.cube_audit.specs.declared.transcript.TranscriptItem.{TranscriptItem}
use Rattle.cube_commands.specs.Saying.{PutsWhether}

-- ---- the transcript

-- the items of the bytes of a transcript, or the text on its fault
abbrev pub transcript_said : List ℕ → Result (List TranscriptItem) (List ℕ)
transcript_said bytes = unless_long (codes "transcript") bytes (faulted (λ fault. fault_text (codes "transcript") (fault_words fault)) (transcript_of bytes))

-- ---- the run

-- whether an audit ends with a yes
abbrev pub is_yes : Audited → Bool
is_yes (Yes n) = true
is_yes (Inexact k) = false
is_yes (Fixed m t) = false

-- The files make a core and a policy, and the transcript says these items. The line of their audit was printed, and the status says whether it is a yes. Where it is,
-- each reply that was examined is exact, and for each protected cell there is another cube where each of them is exact too, and where the
-- sum of the cell is greater by one.
pub record AuditTold {O : Type 0} (cube : CubeFiles) (transcript : List ℕ) (files : FolderState) (out : Seen SinkState O) (r : Report) : Type 0 where
  pub core : Core
  pub policy : Policy
  pub items : List TranscriptItem
  pub files_make : Make cube files core policy
  pub items_are : IfSome files.files (λ known. FileSays transcript_said transcript known (Ok items))
  pub printed : PutsWhether (is_yes (audited core policy items)) (audited_text core.dims (audited core policy items)) out r
  pub sound : SaysSound core policy items (audited core policy items)

-- a run of `audit` ends at one of the three files, or at the transcript, or it prints the line of the audit
abbrev pub AuditEnds : {F S I O W : Type 0} → CubeFiles → List ℕ → Outside F S I O W → Report → Type 0
AuditEnds cube transcript x r =
    (EndsUnopened cube x.files r × Unused x.out)
    ⊎ (EndsAtLast cube transcript_said transcript x.files r × Unused x.out)
    ⊎ (AuditTold cube transcript x.files.before x.out r × GotBehind (names_with cube transcript) x.files)

-- where the files and the transcript are accepted and no count rose, the audit was done, or memory ran out
abbrev pub AuditCompletes : {F S I O W : Type 0} → CubeFiles → List ℕ → Outside F S I O W → Report → Type 0
AuditCompletes cube transcript x r = HasAll cube x.files.before → HasFile transcript_said transcript x.files.before → ¬ Rose x.files.before.faults x.files.after.faults → ¬ Rose x.out.before.faults x.out.after.faults → IsJudged r

-- All that `audit` does with these files.
pub record AuditRun {F S I O W : Type 0} (cube : CubeFiles) (transcript : List ℕ) (x : Outside F S I O W) (r : Report) : Type 0 where
  pub answers : AuditEnds cube transcript x r
  pub complete : AuditCompletes cube transcript x r
