use Rattle.std.proofs.Common.{sym, ◌∙◌}
use Rattle.cube_draft.specs.Kept.{kept_path}
use Rattle.cube_draft.proofs.Steps.{among}
use Rattle.cube_draft.proofs.check.has_path.Goals as goal

pub returns-then-leaf-paths : goal.returns-then-leaf-paths
returns-then-leaf-paths c = λ same.
    among c.args.paths.now c.index-paths-leaf.result (kept_path c.args.table.now.fields.items c.args.columns.now c.args.row) c.args.leaf c.if-leaf-paths.true c.index-paths-leaf.is (sym c.as_slice.ensures ∙ c.is_path.ensures same)
