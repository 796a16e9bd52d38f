use Rattle.std.proofs.Common.{◌≡◌, Some, sym, ap, ◌∙◌}
use Rattle.std.specs.Option.{option_copied}
use Rattle.cube_model.specs.Cores.{shown}
use Rattle.cube_engine.proofs.Cuboids.{makes, holds, passes}
use Rattle.cube_engine.proofs.rolling.hold_next.Goals as goal

pub build-requires-clause-levels : goal.build-requires-clause-levels
build-requires-clause-levels g c =
    let s = c.args.state.now in
    let w = c.in-Some.pending.now in
    let waits : s.pending ≡ Some w = sym c.waiting.ensures ∙ ap option_copied c.in-Some.is in
    (makes (shown c.args.core.now c.args.policy.now) s w c.in-Source.levels c.requires.stands waits c.in-Source.is).levels

pub returns-in-Mark-clause-ok : goal.returns-in-Mark-clause-ok
returns-in-Mark-clause-ok g c =
    let s = c.args.state.now in
    let w = c.in-Some.pending.now in
    let waits : s.pending ≡ Some w = sym c.waiting.ensures ∙ ap option_copied c.in-Some.is in
    passes c.args.core.now c.args.policy.now s w c.in-Mark.field-0 c.args.rollups.now c.requires.stands waits c.in-Mark.is c.requires.rolled

pub returns-in_ok-cuboid-in-Source-clause-ok : goal.returns-in_ok-cuboid-in-Source-clause-ok
returns-in_ok-cuboid-in-Source-clause-ok g c =
    let s = c.args.state.now in
    let w = c.in-Some.pending.now in
    let k = c.in_ok-cuboid-in-Source in
    let waits : s.pending ≡ Some w = sym c.waiting.ensures ∙ ap option_copied c.in-Some.is in
    holds c.args.core.now c.args.policy.now s w c.in-Source.levels k.cuboid c.args.rollups.now c.hold.new.self c.requires.stands waits c.in-Source.is c.requires.rolled k.ensures.levels k.ensures.measure k.ensures.stands c.hold.ensures
