use Rattle.std.proofs.Common.{sym, ◌∙◌}
use Rattle.cube_words.proofs.Commands.{wrong_step}
use Rattle.cube_words.proofs.words.+first_wrong.Goals as goal

pub returns-else-is_wrong_value : goal.returns-else-is_wrong_value
returns-else-is_wrong_value t c =
    let known = rw c.as_slice-word.ensures at (sym c.is_option.ensures ∙ c.if-not-is_option.false) in
    let once = rw c.as_slice-word.ensures at (sym c.is_given.ensures ∙ c.if-is_given.false) in
    let right = rw (c.as_slice-word.ensures, c.as_slice.ensures) at (sym c.is_wrong_value.ensures ∙ c.if-is_wrong_value.false) in
    c.first_wrong.ensures ∙ wrong_step c.args.command c.args.words.now c.args.at c.option-item.result c.value-item.result c.in-len2-up.len_at_least c.option-item.is c.value-item.is known once right
