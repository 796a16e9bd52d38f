use Rattle.std.proofs.Common.{◌≡◌, take}
use Rattle.cube_draft.specs.Kept.{kept_path}
use Rattle.cube_draft.proofs.check.have_same.Given as goal

abbrev pub invariant-loop-level : goal.invariant-loop-level
invariant-loop-level l = kept_path l.table.fields.items (take l.level l.columns) l.one ≡ kept_path l.table.fields.items (take l.level l.columns) l.other
