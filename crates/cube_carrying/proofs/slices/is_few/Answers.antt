use Rattle.std.proofs.Common.{List, ℕ, get_or, ap, ◌∙◌}
use Rattle.cube_source.proofs.FewPlaces.{place_some}
use Rattle.cube_carrying.proofs.slices.is_few.Goals as goal

pub returns-in-Some : goal.returns-in-Some
returns-in-Some c = place_some c.args.core.now c.args.fewer c.in-Some.number (get_or c.as_slice.result.now c.args.place 0) c.args.place c.dims-rules.ensures.rules c.requires c.in-Some.is
    (ap (λ (xs : List ℕ). get_or xs c.args.place 0) (c.as_slice.ensures ∙ ap (λ s. s.facts) c.shape.ensures.shape))
