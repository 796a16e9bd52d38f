-- How a run that is to advise ends at its files.
use Rattle.std.proofs.Common.{◌≡◌, ◌⊎◌, ℕ, List, Option, Some, None, inl, inr}
use Rattle.cube_io.specs.Causes.{Rose}
use Rattle.cube_io.specs.Seen.{FolderState, Seen}
use Rattle.cube_opening.specs.Opening.{EndsUnopened, HasAll, names_of}
use Rattle.cube_opening.specs.declared.cube_files.CubeFiles.{CubeFiles}
use Rattle.cube_opening.specs.declared.report.Report.{Report}
use Rattle.cube_opening.proofs.Accepted.{all_accepted, last_accepted}
use Rattle.cube_opening.proofs.Causes.{AtFile, at_files, at_one}
use Rattle.cube_commands.specs.Advising.{workload_said, HasWorkload, EndsAtWorkload, EndsUnread}

at_workload : {F : Type 0} (cube : CubeFiles) (workload : Option (List ℕ)) (folder : Seen FolderState F) (r : Report) → EndsAtWorkload cube workload folder r → AtFile folder r
at_workload cube None folder r e = absurd e
at_workload cube (Some name) folder r e = at_one workload_said name _ _ e.ends.unopened

pub at_advised : {F : Type 0} (cube : CubeFiles) (workload : Option (List ℕ)) (folder : Seen FolderState F) (r : Report) → EndsUnread cube workload folder r → AtFile folder r
at_advised cube workload folder r (inl e) = at_files cube folder r e
at_advised cube workload folder r (inr e) = at_workload cube workload folder r e

-- ---- where all is accepted

workload_accepted : {F : Type 0} (cube : CubeFiles) (workload : Option (List ℕ)) (folder : Seen FolderState F) (r : Report) → EndsAtWorkload cube workload folder r → HasWorkload workload folder.before
    → ¬ Rose folder.before.faults folder.after.faults → r.status ≡ 7
workload_accepted cube None folder r e h q = absurd e
workload_accepted cube (Some name) folder r e h q = last_accepted (names_of cube) workload_said name folder r e.ends h q

pub all_read : {F : Type 0} (cube : CubeFiles) (workload : Option (List ℕ)) (folder : Seen FolderState F) (r : Report) → EndsUnread cube workload folder r → HasAll cube folder.before → HasWorkload workload folder.before
    → ¬ Rose folder.before.faults folder.after.faults → r.status ≡ 7
all_read cube workload folder r (inl e) all has q = all_accepted cube folder r e all q
all_read cube workload folder r (inr e) all has q = workload_accepted cube workload folder r e has q

-- ---- behind which its journal would have been opened

pub unread_first : {A B C D F : Type 0} (cube : CubeFiles) (workload : Option (List ℕ)) (folder : Seen FolderState F) (r : Report) → EndsUnread cube workload folder r → A → B → (EndsAtWorkload cube workload folder r × A × B) ⊎ ((((EndsUnopened cube folder r × A) ⊎ C) × B) ⊎ D)
unread_first cube workload folder r (inl e) a b = inr (inl (inl (e, a), b))
unread_first cube workload folder r (inr e) a b = inl (e, a, b)
