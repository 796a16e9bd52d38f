use Rattle.std.proofs.Common.{ap, ◌∙◌, map, ◌∷◌, []}
use Rattle.std.proofs.lemmas.List.{map-append}
use Rattle.serde_json.specs.Data.{array}
use Rattle.serde_json.specs.View.{view, items_of}
use Rattle.cube_model.specs.declared.policy.Method.TheVariants.{Plain}
use Rattle.cube_model.specs.Dims.{no_measure}
use Rattle.cube_shape.specs.ShapeText.{measure_data}
use Rattle.cube_shape.proofs.Zips.{data_more, data_all}
use Rattle.cube_shape.proofs.parts.measures_value.Goals as goal

pub measures-preserved : goal.measures-preserved
measures-preserved c =
    data_more measure_data c.args.measures.now c.args.methods.now c.measures.number no_measure Plain (map view c.measures.values.items) (map view c.push.new.self.items) (view c.in_ok-measure_at.field-0)
    c.measures-test.true c.requires c.measures.invariant c.in_ok-measure_at.ensures
    (ap (map view) c.in_ok-push.ensures.items ∙ map-append view c.measures.values.items (c.in_ok-measure_at.field-0 ∷ []))

pub returns : goal.returns
returns c = c.array_value.ensures ∙ ap (λ ds. array (items_of ds)) (data_all measure_data c.args.measures.now c.args.methods.now c.measures.number (map view c.measures.values.items) c.measures-test.false c.requires c.measures.invariant)
