use Rattle.std.proofs.Common.{ℕ, List, [], ◌∷◌, ◌++◌, ap, sym, ◌∙◌, arith}
use Rattle.std.proofs.lemmas.List.{length-map}
use Rattle.cube_model.specs.Dims.{measure_at, measure_names}
use Rattle.cube_carry.specs.Names.{measure_in}
use Rattle.cube_carrying.proofs.Found.{place_within}
use Rattle.cube_carrying.proofs.Tables.{numbers_more}
use Rattle.cube_carrying.proofs.points.measures_in.Goals as goal

pub overflow_cast-measure_in : goal.overflow_cast-measure_in
overflow_cast-measure_in c =
    let within = place_within (measure_at c.args.old.now c.each.measure).name (measure_names c.args.new.now) in
    let long = length-map c.args.new.now.measures (λ m. m.name) in
    omega (arith, c.measure_in.ensures, within, long, c.measures-rules.ensures.rules.few_measures)

pub each-preserved : goal.each-preserved
each-preserved c =
    let f = measure_in c.args.old.now c.args.new.now in
    c.in_ok-push.ensures.ok ∙ ap (λ (n : ℕ). c.each.numbers ++ n ∷ []) c.measure_in.ensures
    ∙ ap (λ (ns : List ℕ). ns ++ f c.each.measure ∷ []) c.each.invariant ∙ sym (numbers_more f c.each.measure)
