use Rattle.std.proofs.Common.{◌+◌, ◌≤◌, ℕ, List, Option, arith, sym, subst}
use Rattle.cube_opening.specs.Outside.{outside}
use Rattle.cube_commands.specs.Advising.{AdviseCompletes, AdviseEnds}
use Rattle.cube_commands.proofs.advising.advise.Goals as goal

pub returns-in-None-clause-causes : goal.returns-in-None-clause-causes
returns-in-None-clause-causes g c = c.advise_first.ensures.causes

pub returns-in-Some-clause-causes : goal.returns-in-Some-clause-causes
returns-in-Some-clause-causes g c = c.advise_later.ensures.causes

pub returns-in-Some-clause-answers : goal.returns-in-Some-clause-answers
returns-in-Some-clause-answers g c =
    let x = outside g.F.Folder.state g.S.Store.state g.I.Source.state g.O.Sink.state g.W.Wire.state c.args.world.now c.advise_later.new.world in
    subst (λ (journal : Option (List ℕ)). AdviseEnds c.args.cube.now journal c.args.workload.now x c.advise_later.result) (sym c.in-Some.is) c.advise_later.ensures.answers

pub returns-in-None-clause-answers : goal.returns-in-None-clause-answers
returns-in-None-clause-answers g c =
    let x = outside g.F.Folder.state g.S.Store.state g.I.Source.state g.O.Sink.state g.W.Wire.state c.args.world.now c.advise_first.new.world in
    let y = c.advise_first.ensures in
    subst (λ (journal : Option (List ℕ)). AdviseEnds c.args.cube.now journal c.args.workload.now x c.advise_first.result) (sym c.in-None.is) (y.answers, y.leaves.0)

pub returns-in-None-clause-calls : goal.returns-in-None-clause-calls
returns-in-None-clause-calls g c = λ told. subst (λ s. (g.S.Store.state s).calls ≤ (g.S.Store.state c.args.world.now.store).calls + 12) (sym c.advise_first.ensures.leaves.0) (omega arith)

pub returns-in-None-clause-complete : goal.returns-in-None-clause-complete
returns-in-None-clause-complete g c =
    let x = outside g.F.Folder.state g.S.Store.state g.I.Source.state g.O.Sink.state g.W.Wire.state c.args.world.now c.advise_first.new.world in
    subst (λ (journal : Option (List ℕ)). AdviseCompletes c.args.cube.now journal c.args.workload.now x c.advise_first.result) (sym c.in-None.is) c.advise_first.ensures.complete
