use Rattle.cube_words.specs.Words.{orders_of}
use Rattle.cube_app.specs.Runs.{Permits}
use Rattle.cube_app.proofs.Ordered.{each_ok, permits_all}
use Rattle.cube_app.proofs.run.run_freely.Goals as goal

pub run-requires-clause-permits : goal.run-requires-clause-permits
run-requires-clause-permits g c =
    let w = c.args.world.now in
    each_ok (orders_of c.args.words.now)
    (Permits {F = g.row.F.Denot} {S = g.row.S.Denot} g.F.Folder.state g.S.Store.state g.O.Sink.allows g.W.Wire.allows w.files w.store (g.O.Sink.state w.out) (g.W.Wire.state w.wire))
    (λ o. permits_all {F = g.row.F.Denot} {S = g.row.S.Denot} g.F.Folder.state g.S.Store.state g.O.Sink.allows g.W.Wire.allows w.files w.store (g.O.Sink.state w.out) (g.W.Wire.state w.wire) c.requires.pieces c.requires.looks o)
