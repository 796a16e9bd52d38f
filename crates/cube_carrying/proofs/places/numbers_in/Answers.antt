use Rattle.std.proofs.Common.{arith}
use Rattle.std.proofs.lemmas.List.{length-map}
use Rattle.cube_model.specs.Dims.{dimension_names}
use Rattle.cube_carrying.proofs.Found.{place_within}
use Rattle.cube_carrying.proofs.places.numbers_in.Goals as goal

pub overflow_cast-dimension_in : goal.overflow_cast-dimension_in
overflow_cast-dimension_in c =
    let within = place_within c.dimension.result.now.name (dimension_names c.args.old.now) in
    let long = length-map c.args.old.now.dimensions (λ d. d.name) in
    omega (arith, c.dimension_in.ensures, within, long, c.dimensions-rules.ensures.rules.few_dimensions)
