use Rattle.std.specs.List.{All}
use Rattle.std.proofs.Common.{◌∙◌, ℕ, List, length, ap, subst}
use Rattle.std.proofs.lemmas.Result.{IfOk-weaker}
use Rattle.cube_model.specs.declared.answer.Row.{Row}
use Rattle.cube_core.specs.Rows.{ArePlaces}
use Rattle.cube_core.proofs.Shown.{of_points}
use Rattle.cube_core.proofs.core_cube.Core.one_row.Goals as goal

pub returns-clause-rows : goal.returns-clause-rows
returns-clause-rows c =
    let points = c.as_slice-points.ensures ∙ ap (λ s. s.points) c.shape.ensures.shape in
    IfOk-weaker c.row_of.result _ _ (λ all e p. e p ∙ of_points c.args.self.now c.dims.result.now c.as_slice-points.result.now c.args.request.now p c.dims.ensures.dims points) c.row_of.ensures.rows

pub returns-clause-places : goal.returns-clause-places
returns-clause-places c =
    let points = c.as_slice-points.ensures ∙ ap (λ s. s.points) c.shape.ensures.shape in
    IfOk-weaker c.row_of.result _ _ (λ all e. subst (λ (xs : List (List ℕ)). All (λ (row : Row). ArePlaces (length xs) row.places) all) points e) c.row_of.ensures.places
