use Rattle.std.proofs.Common.{◌≡◌, rules, true, Ok}
use Rattle.cube_model.specs.declared.ask.Question.TheVariants.{Query}
use Rattle.cube_model.specs.Cores.{world}
use Rattle.cube_query.specs.Canonical.{is_request}
use Rattle.cube_query.specs.Faults.{request_of}
use Rattle.cube_engine.specs.Prepared.{Comes, QuestionComes}
use Rattle.cube_engine.specs.declared.prepared.Prepared.{Prepared}
use Rattle.cube_engine.proofs.Named.{ok_map}
use Rattle.cube_engine.proofs.Preparing.{query_is}
use Rattle.cube_engine.proofs.holding.Holding.prepare_text.Goals as goal

pub returns-in-Ok-clause-comes : goal.returns-in-Ok-clause-comes
returns-in-Ok-clause-comes g c =
    let b = c.args.self.now in
    let w = world b.core b.policy in
    let waits = c.prepare_request.new.self.waiting in
    let asked : is_request b.core.dims c.in-Ok.request ≡ true = search rules in
    let read : request_of b.core.dims c.args.query.now ≡ Ok c.in-Ok.request = search rules in
    ok_map (λ (x : Prepared). Comes b.core.dims w b.history c.in-Ok.request waits x) (λ (x : Prepared). QuestionComes b.core.dims w b.history (Query c.args.query.now) waits x) c.prepare_request.result
    (λ (x : Prepared) (e : Comes b.core.dims w b.history c.in-Ok.request waits x). query_is b.core b.policy b.history c.args.query.now c.in-Ok.request waits x c.core.ensures.policy asked read e)
    c.prepare_request.ensures.comes
