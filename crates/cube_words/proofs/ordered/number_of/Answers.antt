use Rattle.std.proofs.Common.{◌≡◌, true, sym, rules}
use Rattle.std.specs.Str.Parse.{digits_value}
use Rattle.cube_words.specs.Words.{is_number, value_of}
use Rattle.cube_words.specs.declared.words.Command.TheVariants.{Demo}
use Rattle.cube_words.specs.declared.words.Setting.TheVariants.{Number}
use Rattle.cube_words.proofs.Given.{numbered, not_none, same_some}
use Rattle.cube_words.proofs.ordered.number_of.Goals as goal

pub unreachable-requires : goal.unreachable-requires
unreachable-requires c =
    let yes : is_number (value_of Number c.args.words.now) ≡ true = numbered Demo c.args.words.now c.requires (search rules) in
    not_none _ (sym (rw (c.as_slice.ensures, c.needed_value.ensures, yes) at c.in-None.ensures))

pub returns : goal.returns
returns c =
    let yes : is_number (value_of Number c.args.words.now) ≡ true = numbered Demo c.args.words.now c.requires (search rules) in
    same_some c.in-Some.number (digits_value 10 (value_of Number c.args.words.now)) (rw (c.as_slice.ensures, c.needed_value.ensures, yes) at c.in-Some.ensures)
