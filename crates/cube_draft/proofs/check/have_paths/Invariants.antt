use Rattle.std.proofs.Common.{◌<◌, ℕ}
use Rattle.cube_draft.specs.Drafts.{IsAmong}
use Rattle.cube_draft.specs.Kept.{kept_path}
use Rattle.cube_draft.proofs.check.have_paths.Given as goal

abbrev pub invariant-loop-row : goal.invariant-loop-row
invariant-loop-row l = (k : ℕ) → k < l.row → IsAmong l.paths (kept_path l.table.fields.items l.columns k)
