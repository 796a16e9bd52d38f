use Rattle.std.proofs.Common.{true}
use Rattle.std.specs.Prelude.{Err}
use Rattle.cube_server.specs.declared.serving.ServeFault.TheVariants.{WireFailed}
use Rattle.cube_engine.specs.Kept.{IsWithin}
use Rattle.cube_starting.specs.NamedBooks.{dims_of}
use Rattle.cube_serving.proofs.Shared.{AreAsked, desk_at, foreign, serves}
use Rattle.cube_serving.proofs.Phrases.{phrased}
use Rattle.cube_serving.proofs.Listening.{ends, rose_for}
use Rattle.cube_serving.proofs.housing.serve_groups.Goals as goal

pub serve-requires-clause-phrased : goal.serve-requires-clause-phrased
serve-requires-clause-phrased g c = phrased (dims_of c.args.groups.now.books)

pub returns-clause-served : goal.returns-clause-served
returns-clause-served g c = λ core over.
    let e = c.args.groups.now in
    let last = c.serve.new.desk in
    let y = c.serve.ensures in
    let (calls, does, tells_so) = y.serves in
    let told = (g.W.Wire.state c.args.wire.now).told in
    let log = (g.W.Wire.state c.serve.new.wire).log in
    let x : AreAsked core e last calls =
    record { some = c.requires.some; over = over; rules = c.requires.rules; order = c.len-order.ensures.order; unasked = c.requires.unasked; same = does.manner; asked = does.asked } in
    serves core e last calls x g.S.Store.state c.args.store.now c.serve.new.store c.serve.result told log does (ends c.serve.result told (desk_at e) (desk_at last) log y.ended y.unended y.capacity y.spent) tells_so

pub serve-requires-clause-permits : goal.serve-requires-clause-permits
serve-requires-clause-permits g c = λ told last new log calls is counted unended does.
    let e = c.args.groups.now in
    let tells = g.S.Store.state in
    let old = c.args.store.now in
    let order = c.len-order.ensures.order in
    c.requires.permits told last new log
    (λ core over.
    let x : AreAsked core e last calls = record { some = c.requires.some; over = over; rules = c.requires.rules; order = order; unasked = c.requires.unasked; same = does.manner; asked = does.asked } in
    serves core e last calls x tells old new (Err WireFailed) true log does (counted, λ _. unended) (λ _. is))
    (λ are far_log far. does.others are far_log (λ rooms s h. foreign IsWithin 0 e.books rooms far_log s order.numbered far h))
    (rose_for e.outcomes last.outcomes (tells old).faults (tells new).faults c.requires.unasked does.risen)

pub returns-clause-asks : goal.returns-clause-asks
returns-clause-asks g c = rose_for c.args.groups.now.outcomes c.serve.new.desk.outcomes (g.S.Store.state c.args.store.now).faults (g.S.Store.state c.serve.new.store).faults c.requires.unasked c.serve.ensures.serves.1.risen

pub returns-clause-others : goal.returns-clause-others
returns-clause-others g c = λ told log far. c.serve.ensures.serves.1.others told log (λ rooms s h. foreign IsWithin 0 c.args.groups.now.books rooms log s c.len-order.ensures.order.numbered far h)
