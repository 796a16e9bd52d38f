use Rattle.std.proofs.Common.{ap, sym, ◌∙◌}
use Rattle.cube_model.specs.Cubes.{are_levels}
use Rattle.cube_model.specs.Dims.{plains}
use Rattle.cube_reason.proofs.Levels.{unprotected_levels}
use Rattle.cube_reason.proofs.blocks.is_protected.Goals as goal

pub returns-else-is_cuboid-clause-protected : goal.returns-else-is_cuboid-clause-protected
returns-else-is_cuboid-clause-protected c =
    c.if-is_cuboid.false ∙ unprotected_levels c.args.core.now c.args.policy.now c.args.measure c.args.cell.now c.requires.policy (ap (are_levels (plains c.args.core.now.dims)) (sym c.as_slice.ensures) ∙ sym c.is_cuboid.ensures ∙ c.if-is_cuboid.false)
