use Rattle.std.proofs.Common.{◌∙◌, ap, arith, List}
use Rattle.std.proofs.lemmas.List.{take_all}
use Rattle.std.specs.List.{flat_map}
use Rattle.cube_model.specs.declared.answer.Row.{Row}
use Rattle.cube_model.specs.Links.{linked}
use Rattle.cube_pairs.proofs.Pairing.{rows_places, rows_apart}
use Rattle.cube_pairs.proofs.pairs.links.Goals as goal

pub returns-clause-places : goal.returns-clause-places
returns-clause-places c n below =
    let all = take_all c.rows.row-index c.as_slice-row-items.result.now (omega arith) ∙ c.as_slice-row-items.ensures in
    rows_places n c.args.rows.now c.from_vec.result (c.from_vec.ensures ∙ c.rows.invariant ∙ ap (λ (rows : List Row). flat_map (λ row. linked row.places) rows) all) below

pub returns-clause-apart : goal.returns-clause-apart
returns-clause-apart c n below rising =
    let all = take_all c.rows.row-index c.as_slice-row-items.result.now (omega arith) ∙ c.as_slice-row-items.ensures in
    rows_apart n c.args.rows.now c.from_vec.result (c.from_vec.ensures ∙ c.rows.invariant ∙ ap (λ (rows : List Row). flat_map (λ row. linked row.places) rows) all) below rising
