use Rattle.std.proofs.Common.{inr, sym, ap, ◌∙◌, subst, map, Some, List}
use Rattle.serde_json.specs.View.{view, items_view}
use Rattle.serde_json.specs.declared.value.Value.{Value}
use Rattle.cube_model.specs.Answers.{Answers}
use Rattle.cube_audit.specs.declared.transcript.TranscriptFault.TheVariants.{NoMemory}
use Rattle.cube_audit.proofs.Reading.{is_array, no_array}
use Rattle.cube_audit.proofs.transcript.read_array.Goals as goal

pub returns-in-Some-clause-said : goal.returns-in-Some-clause-said
returns-in-Some-clause-said c =
    let found = rw c.in-Some.is at c.as_array.ensures in
    let values = ap (λ (vs : List Value). Some (items_view vs)) c.as_slice.ensures.value ∙ found in
    subst (Answers NoMemory c.read_values.result) (sym (is_array (view c.args.value.now) (map view c.as_slice.result.now) values)) c.read_values.ensures.said

pub returns-in-None-clause-said : goal.returns-in-None-clause-said
returns-in-None-clause-said c =
    let none = rw c.in-None.is at c.as_array.ensures in
    inr (no_array (view c.args.value.now) none)
