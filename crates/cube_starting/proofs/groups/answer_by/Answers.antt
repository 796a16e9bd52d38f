use Rattle.std.proofs.Common.{sym, ap, ◌∙◌}
use Rattle.std.specs.List.{position}
use Rattle.cube_model.specs.Rooms.{aim}
use Rattle.cube_starting.specs.NamedBooks.{is_named}
use Rattle.cube_starting.proofs.Turning.{missed_turn}
use Rattle.cube_starting.proofs.groups.answer_by.Goals as goal

pub returns-in-None-clause-turn : goal.returns-in-None-clause-turn
returns-in-None-clause-turn g c =
    let none = sym (c.in-None.ensures ∙ ap (λ n. position (is_named n) c.as_slice.result.now) c.aim_of.ensures ∙ ap (position (is_named (aim c.args.ask.now.group))) c.as_slice.ensures.value) in
    missed_turn c.args.books.now.items c.args.ask.now c.miss_ask.result.0 c.miss_ask.result.1 (g.S.Store.state c.args.store.now) c.requires.order none c.requires.attached c.miss_ask.ensures.fine c.miss_ask.ensures.reply c.requires.kept
