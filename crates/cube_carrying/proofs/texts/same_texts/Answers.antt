use Rattle.std.proofs.Common.{◌<◌, length, arith, sym, ap₂, ◌∙◌}
use Rattle.std.specs.Str.{bytes_eq}
use Rattle.cube_carry.specs.Continues.{same_texts}
use Rattle.cube_carrying.proofs.TextByText.{uneven, texts_on, texts_end}
use Rattle.cube_carrying.proofs.texts.same_texts.Goals as goal

pub returns-then-texts-others : goal.returns-then-texts-others
returns-then-texts-others c = uneven c.args.texts.now c.args.others.now c.if-texts-others.true

pub returns-then-not-is_same : goal.returns-then-not-is_same
returns-then-not-is_same c =
    let l : c.texts.number < length c.args.others.now = omega (arith, c.if-texts-others.false, c.texts-test.true) in
    texts_end c.args.texts.now c.args.others.now c.texts.number c.index-texts-number.result c.index-others-number.result (same_texts c.args.texts.now c.args.others.now) c.texts-test.true l c.index-texts-number.is c.index-others-number.is
    (sym (ap₂ bytes_eq c.as_slice.ensures c.as_slice-in-texts.ensures) ∙ sym c.is_same.ensures ∙ c.if-not-is_same.true) c.texts.invariant

pub texts-preserved : goal.texts-preserved
texts-preserved c =
    let l : c.texts.number < length c.args.others.now = omega (arith, c.if-texts-others.false, c.texts-test.true) in
    texts_on c.args.texts.now c.args.others.now c.texts.number c.index-texts-number.result c.index-others-number.result (same_texts c.args.texts.now c.args.others.now) c.texts-test.true l c.index-texts-number.is c.index-others-number.is
    (sym (ap₂ bytes_eq c.as_slice.ensures c.as_slice-in-texts.ensures) ∙ sym c.is_same.ensures ∙ c.if-not-is_same.false) c.texts.invariant
