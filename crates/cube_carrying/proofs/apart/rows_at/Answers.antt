use Rattle.std.proofs.Common.{◌≡◌, ◌∙◌, List, ap}
use Rattle.std.proofs.lemmas.Result.{IfOk-weaker}
use Rattle.cube_model.specs.declared.answer.Row.{Row}
use Rattle.cube_model.specs.declared.policy.Policy.{Policy}
use Rattle.cube_model.specs.declared.request.Request.{Request}
use Rattle.cube_model.specs.declared.request.What.TheVariants.{Count}
use Rattle.cube_model.specs.Cores.{shown}
use Rattle.cube_model.specs.Dims.{plains}
use Rattle.cube_model.specs.Requests.{fits, rows, whole}
use Rattle.cube_source.proofs.Keys.{whole_fits}
use Rattle.cube_carrying.proofs.apart.rows_at.Goals as goal

pub rows-requires : goal.rows-requires
rows-requires c =
    ap (λ (r : Request). fits (plains c.args.core.now.dims) r.group r.picks) c.in_ok-request.ensures
    ∙ whole_fits (plains c.args.core.now.dims) c.args.levels.now c.requires

pub returns-clause-rows : goal.returns-clause-rows
returns-clause-rows c = IfOk-weaker c.rows.result
    (λ (all : List Row). (p : Policy) → all ≡ rows (shown c.args.core.now p) c.in_ok-request.request)
    (λ (all : List Row). (p : Policy) → all ≡ rows (shown c.args.core.now p) (whole Count c.args.levels.now))
    (λ all e p. e p ∙ ap (rows (shown c.args.core.now p)) c.in_ok-request.ensures) c.rows.ensures.rows

pub returns-clause-places : goal.returns-clause-places
returns-clause-places c = c.rows.ensures.places
