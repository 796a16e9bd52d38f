use Rattle.std.proofs.Common.{ℕ, List, length, sym, subst}
use Rattle.cube_model.specs.declared.answer.Row.{Row}
use Rattle.cube_source.specs.Blocks.{AreBlocks}
use Rattle.cube_carrying.proofs.apart.stays_apart.Goals as goal

pub any_mixed-requires : goal.any_mixed-requires
any_mixed-requires c = subst (λ (n : ℕ). AreBlocks n c.as_slice.result.now) (sym c.requires.flags) (subst (λ (rows : List Row). AreBlocks (length c.args.core.now.shape.points) rows) (sym c.as_slice.ensures) c.in_ok-rows.ensures.places)
