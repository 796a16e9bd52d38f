-- All that `check` does.
use Rattle.std.specs.Prelude.{◌≡◌, ◌⊎◌, ℕ, List, ◌++◌, length, sum, codes, if◌then◌else◌}
use Rattle.cube_model.specs.declared.policy.Policy.{Policy}
use Rattle.cube_model.specs.Cores.{Core}
use Rattle.cube_model.specs.Cubes.{cuboid_count}
use Rattle.cube_model.specs.Dims.{plains}
use Rattle.cube_source.specs.Counts.{protected_count}
use Rattle.cube_text.specs.Counts.{count_line}
use Rattle.cube_core.specs.Full.{is_full}
use Rattle.cube_engine.specs.Kept.{digest_for}
use Rattle.cube_io.specs.Causes.{Rose}
use Rattle.cube_io.specs.Seen.{FolderState, SinkState, Seen, Unused}
use Rattle.cube_opening.specs.Opening.{EndsUnopened, GotBehind, Make, HasAll, names_of}
use Rattle.cube_opening.specs.Reports.{IsDone}
use Rattle.cube_opening.specs.declared.cube_files.CubeFiles.{CubeFiles}
use Rattle.cube_opening.specs.declared.report.Report.{Report}
use Rattle.cube_opening.specs.Outside.{Outside}
use Rattle.cube_commands.specs.Saying.{Puts}

-- the numbers of dimensions, measures, facts and points, whether there are as many points as leaf vectors, and the number of cuboids
abbrev pub core_text : Core → List ℕ
core_text core =
    count_line (codes "dimensions") (length core.dims.dimensions)
    ++ count_line (codes "measures") (length core.dims.measures)
    ++ count_line (codes "facts") (sum core.shape.facts)
    ++ count_line (codes "points") (length core.shape.points)
    ++ (if is_full core then codes "full yes\n" else codes "full no\n")
    ++ count_line (codes "cuboids") (cuboid_count (plains core.dims))

-- the digest of what is public
abbrev pub digest_line : Core → Policy → List ℕ
digest_line core policy = codes "digest " ++ digest_for core policy ++ codes "\n"

-- these lines, the number of protected cells, and the digest
abbrev pub check_text : Core → Policy → List ℕ
check_text core policy = core_text core ++ count_line (codes "protected") (protected_count core policy) ++ digest_line core policy

-- ---- the run

-- the summary of the core and the policy that the files make was printed
pub record Checked {O : Type 0} (cube : CubeFiles) (files : FolderState) (out : Seen SinkState O) (r : Report) : Type 0 where
  pub core : Core
  pub policy : Policy
  pub files_make : Make cube files core policy
  pub printed : Puts (check_text core policy) out r

-- a run of `check` ends at a file, or it prints the summary
abbrev pub CheckEnds : {F S I O W : Type 0} → CubeFiles → Outside F S I O W → Report → Type 0
CheckEnds cube x r = (EndsUnopened cube x.files r × Unused x.out) ⊎ (Checked cube x.files.before x.out r × GotBehind (names_of cube) x.files)

-- All that `check` does with these files. Where the files are accepted and no count rose, all was done, or memory ran out.
pub record CheckRun {F S I O W : Type 0} (cube : CubeFiles) (x : Outside F S I O W) (r : Report) : Type 0 where
  pub answers : CheckEnds cube x r
  pub complete : HasAll cube x.files.before → ¬ Rose x.files.before.faults x.files.after.faults → ¬ Rose x.out.before.faults x.out.after.faults → IsDone r
