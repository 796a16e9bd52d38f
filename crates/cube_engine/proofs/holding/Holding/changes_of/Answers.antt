use Rattle.std.proofs.Common.{◌≡◌, ◌∙◌, ap, sym, subst, length, true}
use Rattle.cube_model.specs.declared.cell.Cell.{Cell}
use Rattle.cube_model.specs.declared.request.What.{What}
use Rattle.cube_model.specs.Cores.{Core, shown}
use Rattle.cube_model.specs.Cubes.{are_levels}
use Rattle.cube_model.specs.Dims.{Dims, plains}
use Rattle.cube_admit.proofs.Judging.{grain_in_range}
use Rattle.cube_answers.specs.AnswerText.{IsThere}
use Rattle.cube_answers.proofs.Valid.{valid_measure}
use Rattle.cube_query.proofs.Prints.{request_fits}
use Rattle.cube_engine.proofs.Named.{valid_under}
use Rattle.cube_engine.proofs.holding.Holding.changes_of.Goals as goal

pub is_cell-requires : goal.is_cell-requires
is_cell-requires c =
    let dims_are = c.dims.ensures.dims ∙ ap (λ (d : Core). d.dims) c.core.ensures.core in
    (request_fits c.args.self.now.core.dims c.args.request.now c.requires.request).group_length ∙ ap (λ (s : Dims). length s.dimensions) (sym dims_are)

pub changes_at-requires-clause-measure : goal.changes_at-requires-clause-measure
changes_at-requires-clause-measure c = subst (λ (w : What). IsThere c.args.self.now.core.dims w) c.in-Measure.is (valid_measure c.args.self.now.core.dims c.args.request.now c.requires.request)

pub changes_at-requires-clause-cell : goal.changes_at-requires-clause-cell
changes_at-requires-clause-cell c =
    let b = c.args.self.now in
    let range = grain_in_range (shown b.core b.policy) c.args.request.now (valid_under b.core b.policy c.args.request.now c.core.ensures.policy c.requires.request) in
    subst (λ (t : Cell). are_levels (plains b.core.dims) t.levels ≡ true) (sym c.in_ok-cell.ensures) range
