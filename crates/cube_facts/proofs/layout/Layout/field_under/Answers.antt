use Rattle.std.proofs.Common.{◌∙◌, ap, get_or, unwrap_or, []}
use Rattle.std.proofs.lemmas.List.{get_or-map}
use Rattle.csv.specs.Records.{fields_of, field_at}
use Rattle.cube_model.specs.Dims.{column_names, found}
use Rattle.cube_facts.proofs.layout.Layout.field_under.Goals as goal

pub returns : goal.returns
returns c =
    let s = c.args.self.now in
    let place = ap (λ ps. get_or ps c.args.number 0) (c.as_slice.ensures ∙ s.found) ∙ get_or-map (λ name. unwrap_or (found name s.header) 0) (column_names s.dims.now) c.args.number [] 0 c.requires in
    c.field_of.ensures ∙ ap (λ i. unwrap_or (field_at (fields_of c.args.row.now) i) []) place
