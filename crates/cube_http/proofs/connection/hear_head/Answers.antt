use Rattle.std.proofs.Common.{arith, length}
use Rattle.std.proofs.lemmas.List.{take_all}
use Rattle.cube_http.proofs.Requests.{head_more, head_stops}
use Rattle.cube_http.proofs.connection.hear_head.Goals as goal

pub returns-in-None-clause-hears : goal.returns-in-None-clause-hears
returns-in-None-clause-hears c =
    let more = rw c.deref_mut.ensures.value at c.in-None.ensures.more in
    rw (take_all (length c.args.piece.now) c.args.piece.now (omega arith)) (head_more c.args.kept.value.head.items c.args.piece.now _ more.0 more.1)

pub returns-in-Some-clause-hears : goal.returns-in-Some-clause-hears
returns-in-Some-clause-hears c =
    let stops = rw c.deref_mut.ensures.value at c.in-Some.ensures.stops in
    head_stops c.args.kept.value.head.items c.args.piece.now _ c.in-Some.used c.hear_end.result.used c.hear_end.result.heard c.hear_end.result.conn stops.2 stops.3 c.hear_end.ensures.used.0 c.hear_end.ensures.hears
