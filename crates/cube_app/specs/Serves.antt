-- All that `serve` and `replay` do.
use Rattle.std.specs.Prelude.{◌≡◌, ◌⊎◌, ◌+◌, ◌*◌, ℕ, IsTrue, List, []}
use Rattle.cube_io.specs.Seen.{Unused}
use Rattle.cube_opening.specs.Ruling.{most_groups}
use Rattle.cube_opening.specs.declared.cube_files.RuledFiles.{RuledFiles}
use Rattle.cube_opening.specs.declared.report.Report.{Report}
use Rattle.cube_opening.specs.Outside.{Outside}
use Rattle.cube_serving.specs.Serving.{Hears, ServeEnds, ServeCompletes}
use Rattle.cube_serving.specs.Replaying.{ReplayEnds, ReplayCompletes}
use Rattle.cube_commands.specs.Ends.{AsksOver}

-- All that `serve` does with these files, this journal, this wire and the seconds that a connection may be still: it ends before its
-- groups are open, or where it is to listen; or it serves the connections of the wire. Where the files and the journals are accepted, no
-- count rose and less was taken than is taken at most, all was done, or memory ran out.
pub record ServeRun {F S I O W : Type 0} (cube : RuledFiles) (journal address : List ℕ) (stated idle : ℕ) (x : Outside F S I O W) (r : Report) : Type 0 where
  pub runs : AsksOver journal (1 + 11 * most_groups cube.rules) x.store r (ServeEnds cube stated x r) ((r.outcomes ≡ []) × (IsTrue x.wire.before.told → x.wire.after.log ≡ [])) (ServeCompletes cube x r)
  pub listened : Unused x.wire ⊎ Hears address idle x.wire r

-- All that `replay` does with these files, this journal and this script: it ends at a file, at the script or at a journal; or it plays
-- the script and writes the log. Where the files, the script and the journals are accepted, no count rose and less was taken than is
-- taken at most, all was done, or memory ran out.
abbrev pub ReplayRun : {F S I O W : Type 0} → RuledFiles → List ℕ → List ℕ → ℕ → Outside F S I O W → Report → Type 0
ReplayRun cube journal script stated x r = AsksOver journal (1 + 11 * most_groups cube.rules) x.store r (ReplayEnds cube script stated x r) ((r.outcomes ≡ []) × Unused x.out) (ReplayCompletes cube script x r)
