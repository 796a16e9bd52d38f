-- Why a run that answers lines ended, and one that drafts.
use Rattle.std.proofs.Common.{◌≡◌, ℕ, List, inl, inr, refl}
use Rattle.cube_io.specs.Seen.{FolderState, Seen}
use Rattle.cube_opening.specs.Causes.{Counts, IsStill, HasCauses}
use Rattle.cube_opening.specs.Opening.{Unread}
use Rattle.cube_opening.specs.declared.report.Report.{Report}
use Rattle.cube_opening.proofs.Causes.{AtFile, AreStill, at_input, at_out, no_memory, own, refused}
use Rattle.cube_talk.specs.Talk.{RoseWhere}
use Rattle.cube_talk.specs.declared.talk.Ending.{Ending}
use Rattle.cube_talk.specs.declared.talk.Ending.TheVariants.{Ended, InputFailed, OutputFailed, NoMemory, Spent}
use Rattle.cube_commands.specs.Drafting.{Undrafted}
use Rattle.cube_commands.specs.Endings.{status_of}

-- by how the talk ended
pub at_talk : {c : Counts} {r : Report} (ending : Ending) → r.status ≡ status_of ending → RoseWhere (ending ≡ InputFailed) c.input.before c.input.after → RoseWhere (ending ≡ OutputFailed) c.out.before c.out.after
    → IsStill c.files → IsStill c.wire → HasCauses c r
at_talk Ended is input out files wire = own (inl is) (record { files = files; input = input.steady (λ e. cc); out = out.steady (λ e. cc); wire = wire })
at_talk InputFailed is input out files wire = at_input is (input.rose refl) files (out.steady (λ e. cc)) wire
at_talk OutputFailed is input out files wire = at_out is (out.rose refl) files (input.steady (λ e. cc)) wire
at_talk NoMemory is input out files wire = no_memory is (record { files = files; input = input.steady (λ e. cc); out = out.steady (λ e. cc); wire = wire })
at_talk Spent is input out files wire = own (inr (inr (inr (inr (inl is))))) (record { files = files; input = input.steady (λ e. cc); out = out.steady (λ e. cc); wire = wire })

-- at a file of which the bytes alone are wanted
pub at_bytes : {F : Type 0} (kind name : List ℕ) (folder : Seen FolderState F) (r : Report) → Unread kind name folder r → AtFile folder r
at_bytes kind name folder r (inl e) = record { status = inr (inl e.0); outcomes = e.1 }
at_bytes kind name folder r (inr (inl e)) = record { status = inr (inl e.0); outcomes = e.1 }
at_bytes kind name folder r (inr (inr (inl e))) = record { status = inr (inr (e.0.0, e.1)); outcomes = e.0.1 }
at_bytes kind name folder r (inr (inr (inr e))) = record { status = inl e.0.0; outcomes = e.0.1 }

-- where nothing can be drafted
pub undrafted : {c : Counts} {r : Report} → Undrafted r → AreStill c → HasCauses c r
undrafted (inl e) still = no_memory e.0 still
undrafted (inr (inl e)) still = no_memory e.0 still
undrafted (inr (inr e)) still = refused e.2.0 still
