use Rattle.std.proofs.Common.{subst, sym}
use Rattle.cube_model.specs.Cubes.{Each}
use Rattle.cube_source.specs.Objects.{IsPlaced}
use Rattle.cube_source.proofs.Uncut.{placed}
use Rattle.cube_carrying.proofs.slices.is_shielded_over.Goals as goal

pub any_over-requires-clause-objects : goal.any_over-requires-clause-objects
any_over-requires-clause-objects c = subst (Each (IsPlaced c.args.core.now.dims)) (sym c.as_slice.ensures) (placed c.args.core.now.dims c.args.policy.now c.args.policy.now.objects c.requires.policy.objects)
