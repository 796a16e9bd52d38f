use Rattle.std.specs.Option.{IfSome}
use Rattle.std.proofs.Common.{◌∙◌, ap, subst}
use Rattle.std.proofs.lemmas.Result.{IfOk-weaker}
use Rattle.cube_core.specs.Tallies.{AreTallies}
use Rattle.cube_answers.specs.Sums.{values_of}
use Rattle.cube_answers.proofs.RowLines.{tallied_is}
use Rattle.cube_answers.proofs.tallied.written_answer.Goals as goal

pub returns-in-Some : goal.returns-in-Some
returns-in-Some g c =
    let made : AreTallies c.args.core.now c.args.request.now (values_of c.args.core.now c.args.request.now.what) c.in-Some.tallies.items
    = subst (λ o. IfSome o (λ ts. AreTallies c.args.core.now c.args.request.now (values_of c.args.core.now c.args.request.now.what) ts.items)) c.in-Some.is c.in_ok-found.ensures in
    let points = c.as_slice-points.ensures ∙ ap (λ s. s.points) c.shape.ensures.shape in
    IfOk-weaker c.tallied_text.result _ _ (λ text e p. tallied_is c.args.core.now p c.args.request.now c.dims.result.now c.as_slice-points.result.now c.in-Some.tallies.items c.as_slice.result.now text c.dims.ensures.dims points c.as_slice.ensures.value made e) c.tallied_text.ensures
