use Rattle.std.proofs.Common.{sym, ◌∙◌}
use Rattle.cube_words.proofs.Given.{given, not_none}
use Rattle.cube_words.proofs.ordered.needed_value.Goals as goal

pub unreachable-requires : goal.unreachable-requires
unreachable-requires c =
    let value = given c.args.command c.args.words.now c.args.setting c.requires.right c.requires.needed in
    not_none value.0 (sym value.1 ∙ sym c.in-None.ensures)
