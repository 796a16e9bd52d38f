use Rattle.std.proofs.Common.{subst, sym}
use Rattle.cube_model.specs.Cubes.{Each}
use Rattle.cube_source.specs.Objects.{IsPlaced}
use Rattle.cube_source.proofs.Uncut.{placed}
use Rattle.cube_carrying.proofs.slices.is_guarded.Goals as goal

pub is_guarded_by-requires-clause-objects : goal.is_guarded_by-requires-clause-objects
is_guarded_by-requires-clause-objects c = subst (Each (IsPlaced c.args.core.now.dims)) (sym c.as_slice.ensures) (placed c.args.core.now.dims c.args.policy.now c.args.policy.now.objects c.requires.policy.objects)
