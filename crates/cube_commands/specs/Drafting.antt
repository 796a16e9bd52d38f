-- All that `draft` does.
use Rattle.std.specs.Prelude.{◌≡◌, ◌≢◌, ◌⊎◌, ℕ, List, [], ◌∷◌, Some, codes, if◌then◌else◌, IfSome}
use Rattle.cube_io.specs.Files.{file_of}
use Rattle.cube_io.specs.Seen.{FolderState, SinkState, Seen, Unused}
use Rattle.cube_draft.specs.Drafts.{IsDraft}
use Rattle.cube_draft.specs.Words.{fault_words}
use Rattle.cube_draft.specs.declared.fault.DraftFault.{DraftFault}
use Rattle.cube_draft.specs.declared.fault.DraftFault.TheVariants.{NoMemory}
use Rattle.cube_draft.specs.declared.whole.Draft.{Draft}
use Rattle.cube_opening.specs.Opening.{fault_text, Unread, AskedUpTo, GotBehind}
use Rattle.cube_opening.specs.Reports.{IsReport, NoMessage, Prints}
use Rattle.cube_opening.specs.declared.report.Report.{Report}
use Rattle.cube_opening.specs.Outside.{Outside}
use Rattle.cube_words.specs.declared.drafting.Drafting.{Drafting}

-- the text of a draft that is asked for
abbrev pub text_in : Drafting → Draft → List ℕ
text_in drafting draft = if drafting.policy then draft.policy else draft.dims

-- The fact file has these bytes, and one of the files that were drafted for it was printed: the dimension file is read without a fault, the
-- very fact file is accepted under it, and so is the policy file.
pub record Drafted {O : Type 0} (drafting : Drafting) (files : FolderState) (out : Seen SinkState O) (r : Report) : Type 0 where
  pub bytes : List ℕ
  pub draft : Draft
  pub file : IfSome files.files (λ known. file_of known drafting.facts ≡ Some bytes)
  pub is_draft : IsDraft bytes drafting.choices draft.dims draft.policy
  pub printed : Prints (text_in drafting draft) out r

-- nothing can be drafted, for a reason that is told, or memory ran out
abbrev pub Undrafted : Report → Type 0
Undrafted r = NoMessage r ⊎ IsReport 7 (codes "no memory\n") r ⊎ ((fault : DraftFault) × (fault ≢ NoMemory) × IsReport 3 (fault_text (codes "draft") (fault_words fault)) r)

-- A run of `draft` ends at the fact file, or nothing can be drafted for it, or it prints what it drafted.
abbrev pub DraftRun : {F S I O W : Type 0} → Drafting → Outside F S I O W → Report → Type 0
DraftRun drafting x r =
    (Unread (codes "facts") drafting.facts x.files r × AskedUpTo [] drafting.facts x.files r × Unused x.out)
    ⊎ (Undrafted r × GotBehind (drafting.facts ∷ []) x.files × Unused x.out)
    ⊎ (Drafted drafting x.files.before x.out r × GotBehind (drafting.facts ∷ []) x.files)
