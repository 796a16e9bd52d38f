use Rattle.std.proofs.Common.{◌≡◌, true, sym, ap, ◌∙◌}
use Rattle.std.specs.Str.Parse.{digits_value}
use Rattle.cube_words.specs.Words.{is_idle, stated_by}
use Rattle.cube_words.specs.declared.words.TheConstants.{USUAL_IDLE}
use Rattle.cube_words.proofs.Given.{still, not_none, same_some}
use Rattle.cube_words.proofs.ordered.idle_of.Goals as goal

pub unreachable-requires : goal.unreachable-requires
unreachable-requires c =
    let yes : is_idle c.in-Some.text.now ≡ true = still c.args.command c.args.words.now c.in-Some.text.now c.requires (sym c.in-Some.ensures) in
    not_none _ (sym (rw (c.as_slice.ensures, yes) at c.in-None-idle_in.ensures))

pub returns-in-Some-idle_in : goal.returns-in-Some-idle_in
returns-in-Some-idle_in c =
    let yes : is_idle c.in-Some.text.now ≡ true = still c.args.command c.args.words.now c.in-Some.text.now c.requires (sym c.in-Some.ensures) in
    let number = rw (c.as_slice.ensures, yes) at c.in-Some-idle_in.ensures in
    same_some c.in-Some-idle_in.seconds (digits_value 10 c.in-Some.text.now) number ∙ ap (stated_by USUAL_IDLE) c.in-Some.ensures
