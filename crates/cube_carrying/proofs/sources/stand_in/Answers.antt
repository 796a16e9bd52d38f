use Rattle.std.proofs.Common.{get_or, ap, ap₂, ◌∙◌}
use Rattle.std.proofs.lemmas.List.{get_or_default}
use Rattle.cube_model.specs.Cubes.{cuboids_below}
use Rattle.cube_model.specs.Dims.{Dims, plains}
use Rattle.cube_carry.specs.Names.{carried_levels}
use Rattle.cube_source.proofs.Keys.{below_levels}
use Rattle.cube_carrying.proofs.sources.stand_in.Goals as goal

pub last_standing-requires-clause-levels : goal.last_standing-requires-clause-levels
last_standing-requires-clause-levels c = λ k d l.
    below_levels (plains c.args.crossing.now.new.now.dims) (carried_levels c.args.crossing.now.old.now.dims c.args.crossing.now.new.now.dims c.args.source.now) c.as_slice-2.result.now k (get_or c.as_slice-2.result.now k d) c.requires.source
    (c.as_slice-2.ensures ∙ c.in_ok-cuboids.ensures ∙ ap cuboids_below (c.in_ok-levels.ensures ∙ ap₂ (λ (s z : Dims). carried_levels s z c.as_slice.result.now) c.dims.ensures.dims c.dims-2.ensures.dims ∙ ap (carried_levels c.args.crossing.now.old.now.dims c.args.crossing.now.new.now.dims) c.as_slice.ensures))
    l (get_or_default c.as_slice-2.result.now k d (get_or c.as_slice-2.result.now k d) l)
