use Rattle.std.proofs.Common.{refl, ap, ℕ, List, subst}
use Rattle.cube_opening.specs.Outside.{outside}
use Rattle.cube_opening.proofs.Causes.{same, alone, never, wider}
use Rattle.cube_commands.specs.Cells.{TellRun}
use Rattle.cube_commands.specs.declared.cells.Telling.TheVariants as telling
use Rattle.cube_words.specs.declared.ordered.Orders.TheVariants as orders
use Rattle.cube_app.proofs.Ordered.{obeyed_as}
use Rattle.cube_app.proofs.run.obey.Goals as goal

pub returns-in-Help : goal.returns-in-Help
returns-in-Help g c =
    let x = c.print_help.ensures in
    obeyed_as c.args.orders (orders.Help c.in-Help.on) c.in-Help.is (record {
      does = x.prints;
      leaves = ((refl, refl, refl, refl), x.outcomes);
      causes = wider (alone refl) (never _) (alone refl) same (alone refl) x.causes;
      others = λ told k far seal. refl;
    })

pub returns-in-Version : goal.returns-in-Version
returns-in-Version g c =
    let x = c.print.ensures in
    obeyed_as c.args.orders orders.Version c.in-Version.is (record {
      does = x.prints;
      leaves = ((refl, refl, refl, refl), x.outcomes);
      causes = wider (alone refl) (never _) (alone refl) same (alone refl) x.causes;
      others = λ told k far seal. refl;
    })

pub returns-in-Draft : goal.returns-in-Draft
returns-in-Draft g c =
    let x = c.draft.ensures in
    obeyed_as c.args.orders (orders.Draft c.in-Draft.drafting) c.in-Draft.is (record {
      does = x.answers;
      leaves = (x.leaves, x.outcomes);
      causes = x.causes;
      others = λ told k far seal. ap (λ s. (g.S.Store.state s).logs k) x.leaves.0;
    })

pub returns-in-Sum : goal.returns-in-Sum
returns-in-Sum g c =
    let x = c.sum.ensures in
    obeyed_as c.args.orders (orders.Sum c.in-Sum.facts) c.in-Sum.is (record {
      does = record { answers = x.answers; ended = x.ended; complete = x.complete };
      leaves = (x.leaves, x.outcomes);
      causes = x.causes;
      others = λ told k far seal. ap (λ s. (g.S.Store.state s).logs k) x.leaves.0;
    })

pub returns-in-Check : goal.returns-in-Check
returns-in-Check g c =
    let x = c.check.ensures in
    obeyed_as c.args.orders (orders.Check c.in-Check.cube) c.in-Check.is (record {
      does = record { answers = x.checks; complete = x.complete };
      leaves = (x.leaves, x.outcomes);
      causes = x.causes;
      others = λ told k far seal. ap (λ s. (g.S.Store.state s).logs k) x.leaves.0;
    })

pub returns-in-Ask : goal.returns-in-Ask
returns-in-Ask g c =
    let x = c.ask.ensures in
    obeyed_as c.args.orders (orders.Ask c.in-Ask.cube c.in-Ask.journal c.in-Ask.stated) c.in-Ask.is (record {
      does = record { runs = record { answers = x.answers; named = x.names; few_calls = x.calls; memory = x.memory; complete = x.complete }; ended = x.ended; sight = x.sight };
      leaves = x.leaves;
      causes = x.causes;
      others = x.others;
    })

pub ask-requires-clause-permits : goal.ask-requires-clause-permits
ask-requires-clause-permits g c = rw c.in-Ask.is at c.requires.permits

pub serve_cube-requires-clause-permits : goal.serve_cube-requires-clause-permits
serve_cube-requires-clause-permits g c = rw c.in-Serve.is at c.requires.permits

pub returns-in-Witness : goal.returns-in-Witness
returns-in-Witness g c =
    let x = c.tell.ensures in
    obeyed_as c.args.orders (orders.Witness c.in-Witness.cube c.in-Witness.journal c.in-Witness.cell) c.in-Witness.is (record {
      does = record { answers = x.answers; named = x.names; few_calls = x.calls; complete = x.complete };
      leaves = (x.leaves, x.outcomes);
      causes = x.causes;
      others = x.others;
    })

pub returns-in-Twin : goal.returns-in-Twin
returns-in-Twin g c =
    let x = c.tell-in-Twin.ensures in
    obeyed_as c.args.orders (orders.Twin c.in-Twin.cube c.in-Twin.journal c.in-Twin.cell) c.in-Twin.is (record {
      does = record { answers = x.answers; named = x.names; few_calls = x.calls; complete = x.complete };
      leaves = (x.leaves, x.outcomes);
      causes = x.causes;
      others = x.others;
    })

pub returns-in-Compact : goal.returns-in-Compact
returns-in-Compact g c =
    let x = c.tell-in-Compact.ensures in
    obeyed_as c.args.orders (orders.Compact c.in-Compact.cube c.in-Compact.journal c.in-Compact._out) c.in-Compact.is (record {
      does = subst (λ (cell : List ℕ). TellRun telling.Compacted c.in-Compact.cube c.in-Compact.journal cell (outside g.F.Folder.state g.S.Store.state g.I.Source.state g.O.Sink.state g.W.Wire.state c.args.world.now c.tell-in-Compact.new.world) c.tell-in-Compact.result)
          c.new-no_cell.ensures (record { answers = x.answers; named = x.names; few_calls = x.calls; complete = x.complete });
      leaves = (x.leaves, x.outcomes);
      causes = x.causes;
      others = x.others;
    })

pub returns-in-Carry : goal.returns-in-Carry
returns-in-Carry g c =
    let x = c.carry_over.ensures in
    obeyed_as c.args.orders (orders.Carry c.in-Carry.cube c.in-Carry.older c.in-Carry.journal c.in-Carry._out) c.in-Carry.is (record {
      does = record { answers = x.answers; named = x.names; few_calls = x.calls; complete = x.complete };
      leaves = (x.leaves, x.outcomes);
      causes = x.causes;
      others = x.others;
    })

pub returns-in-Why : goal.returns-in-Why
returns-in-Why g c =
    let x = c.say_why.ensures in
    obeyed_as c.args.orders (orders.Why c.in-Why.cube c.in-Why.journal c.in-Why.query c.in-Why.reason) c.in-Why.is (record {
      does = x.run;
      leaves = (x.leaves, x.outcomes);
      causes = x.causes;
      others = x.others;
    })

pub returns-in-Audit : goal.returns-in-Audit
returns-in-Audit g c =
    let x = c.audit.ensures in
    obeyed_as c.args.orders (orders.Audit c.in-Audit.cube c.in-Audit.transcript) c.in-Audit.is (record {
      does = record { answers = x.answers; complete = x.complete };
      leaves = (x.leaves, x.outcomes);
      causes = x.causes;
      others = λ told k far seal. ap (λ s. (g.S.Store.state s).logs k) x.leaves.0;
    })

pub returns-in-Advise : goal.returns-in-Advise
returns-in-Advise g c =
    let x = c.advise.ensures in
    obeyed_as c.args.orders (orders.Advise c.in-Advise.cube c.in-Advise.journal c.in-Advise.workload) c.in-Advise.is (record {
      does = record { answers = x.answers; named = x.names; few_calls = x.calls; complete = x.complete };
      leaves = (x.leaves, x.outcomes);
      causes = x.causes;
      others = x.others;
    })

pub returns-in-Serve : goal.returns-in-Serve
returns-in-Serve g c =
    let x = c.serve_cube.ensures in
    obeyed_as c.args.orders (orders.Serve c.in-Serve.cube c.in-Serve.journal c.in-Serve.address c.in-Serve.stated c.in-Serve.idle) c.in-Serve.is (record {
      does = record { runs = record { answers = x.answers; named = x.names; few_calls = x.calls; memory = x.memory; complete = x.complete }; listened = x.heard };
      leaves = x.leaves;
      causes = x.causes;
      others = x.others;
    })

pub returns-in-Replay : goal.returns-in-Replay
returns-in-Replay g c =
    let x = c.replay_cube.ensures in
    obeyed_as c.args.orders (orders.Replay c.in-Replay.cube c.in-Replay.journal c.in-Replay.script c.in-Replay.stated) c.in-Replay.is (record {
      does = record { answers = x.answers; named = x.names; few_calls = x.calls; memory = x.memory; complete = x.complete };
      leaves = x.leaves;
      causes = x.causes;
      others = x.others;
    })

pub returns-in-Demo : goal.returns-in-Demo
returns-in-Demo g c =
    let x = c.show.ensures in
    obeyed_as c.args.orders (orders.Demo c.in-Demo.making) c.in-Demo.is (record {
      does = x.run;
      leaves = (x.leaves, x.outcomes);
      causes = x.causes;
      others = λ told k far seal. ap (λ s. (g.S.Store.state s).logs k) x.leaves.1;
    })
