use Rattle.std.proofs.Common.{length}
use Rattle.std.proofs.lemmas.Result.{IfOk-weaker}
use Rattle.cube_core.specs.Rows.{ArePlaces}
use Rattle.cube_answers.proofs.Keys.{each_of, answer_fits}
use Rattle.cube_answers.proofs.sums.answer_by_rows.Goals as goal

pub sum_rows-requires-clause-places : goal.sum_rows-requires-clause-places
sum_rows-requires-clause-places g c = each_of (λ row. ArePlaces (length c.args.core.now.shape.points) row.places) c.in_ok-rows.rows c.in_ok-rows.ensures.places

pub returns-clause-written : goal.returns-clause-written
returns-clause-written g c = IfOk-weaker c.sum_rows.result _ _ (λ answer made. answer_fits c.args.core.now c.args.request.now c.in_ok-rows.rows answer c.dims-rules.ensures.rules c.requires.fits c.requires.measure c.in_ok-rows.ensures.rows made) c.sum_rows.ensures
