use Rattle.std.proofs.Common.{◌≡◌, take}
use Rattle.cube_draft.specs.Kept.{kept_path}
use Rattle.cube_draft.proofs.check.is_path.Given as goal

abbrev pub invariant-loop-level : goal.invariant-loop-level
invariant-loop-level l = take l.level l.path ≡ kept_path l.table.fields.items (take l.level l.columns) l.row
