use Rattle.std.proofs.Common.{◌∙◌}
use Rattle.cube_witness.proofs.Points.{leaves_long, leaves_fit}
use Rattle.cube_witness.proofs.leaves.push_leaves.Goals as goal

pub push_key-requires-clause-key : goal.push_key-requires-clause-key
push_key-requires-clause-key c = leaves_long c.args.dims.now c.args.shape.now c.args.place c.leaves.result.now c.requires.points c.requires.place c.leaves.ensures

pub push_key-requires-clause-there : goal.push_key-requires-clause-there
push_key-requires-clause-there c =
    leaves_fit c.args.dims.now c.args.shape.now c.args.place c.as_slice.result.now c.leaves.result.now c.dimensions-rules.ensures.rules c.requires.points c.requires.place (c.as_slice.ensures ∙ c.requires.levels) c.leaves.ensures
