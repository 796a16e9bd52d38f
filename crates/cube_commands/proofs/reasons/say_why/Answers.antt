use Rattle.std.proofs.Common.{ℕ, List, Option, sym, subst}
use Rattle.cube_opening.specs.Outside.{outside}
use Rattle.cube_commands.specs.Reasons.{ReasonRun}
use Rattle.cube_commands.proofs.reasons.say_why.Goals as goal

pub returns-in-None-clause-run : goal.returns-in-None-clause-run
returns-in-None-clause-run g c =
    let x = c.why.ensures in
    subst (λ (named : Option (List ℕ)). ReasonRun c.args.cube.now c.args.journal.now c.args.query.now named (outside g.F.Folder.state g.S.Store.state g.I.Source.state g.O.Sink.state g.W.Wire.state c.args.world.now c.why.new.world) c.why.result)
    (sym c.in-None.is) (record { answers = x.answers; named = x.names; few_calls = x.calls; complete = x.complete })

pub returns-in-Some-clause-run : goal.returns-in-Some-clause-run
returns-in-Some-clause-run g c =
    let x = c.check_reason.ensures in
    subst (λ (named : Option (List ℕ)). ReasonRun c.args.cube.now c.args.journal.now c.args.query.now named (outside g.F.Folder.state g.S.Store.state g.I.Source.state g.O.Sink.state g.W.Wire.state c.args.world.now c.check_reason.new.world) c.check_reason.result)
    (sym c.in-Some.is) (record { answers = x.answers; named = x.names; few_calls = x.calls; complete = x.complete })

pub returns-in-None-clause-causes : goal.returns-in-None-clause-causes
returns-in-None-clause-causes g c = c.why.ensures.causes

pub returns-in-Some-clause-causes : goal.returns-in-Some-clause-causes
returns-in-Some-clause-causes g c = c.check_reason.ensures.causes
