use Rattle.std.proofs.Common.{◌<◌, [], length, get_or, ap₂, sym, ◌∙◌, arith, eqb}
use Rattle.std.proofs.lemmas.Slice.Eq.{bytes_eq-Decides}
use Rattle.cube_model.proofs.DimsFacts.{same_number}
use Rattle.cube_draft.proofs.check.are_alike.Goals as goal

pub returns : goal.returns
returns c = λ equal. (
    let names = c.args.names.now in
    let one : c.args.one < length names = omega (arith, c.if-one-len.false, c.len.ensures) in
    let other : c.args.other < length names = omega (arith, c.if-other-len.false, c.len-2.ensures) in
    (bytes_eq-Decides (get_or names c.args.one []) (get_or names c.args.other [])).0
    (sym (same_number names c.args.one c.args.other one other) ∙ ap₂ eqb (sym c.number.ensures) (sym c.number-2.ensures) ∙ equal))
