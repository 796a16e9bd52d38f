use Rattle.std.proofs.Common.{◌≡◌, true, sym, ap, ◌∙◌}
use Rattle.std.specs.Str.Parse.{digits_value}
use Rattle.cube_words.specs.Words.{is_requests, stated_by}
use Rattle.cube_words.proofs.Given.{stated, not_none, same_some}
use Rattle.cube_words.proofs.ordered.stated.Goals as goal

pub unreachable-requires : goal.unreachable-requires
unreachable-requires c =
    let yes : is_requests c.in-Some.text.now ≡ true = stated c.args.command c.args.words.now c.in-Some.text.now c.requires.right (sym c.in-Some.ensures) in
    not_none _ (sym (rw (c.as_slice.ensures, yes) at c.in-None-requests_in.ensures.number))

pub returns-in-Some-requests_in-clause-number : goal.returns-in-Some-requests_in-clause-number
returns-in-Some-requests_in-clause-number c =
    let yes : is_requests c.in-Some.text.now ≡ true = stated c.args.command c.args.words.now c.in-Some.text.now c.requires.right (sym c.in-Some.ensures) in
    let number = rw (c.as_slice.ensures, yes) at c.in-Some-requests_in.ensures.number in
    same_some c.in-Some-requests_in.number (digits_value 10 c.in-Some.text.now) number ∙ ap (stated_by c.args.usual) c.in-Some.ensures
