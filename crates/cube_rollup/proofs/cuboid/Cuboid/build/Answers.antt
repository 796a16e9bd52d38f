use Rattle.std.specs.List.{AllByRecursion, sum_by}
use Rattle.std.proofs.Common.{true, ◌≡◌, ◌∙◌, ℕ, List, ◌+◌, ◌<◌, ◌≤◌, length, map, get_or, [], sym, ap, ap₂, subst, arith}
use Rattle.cube_model.specs.declared.answer.AnswerRow.{AnswerRow}
use Rattle.cube_model.specs.declared.answer.Row.{Row}
use Rattle.cube_model.specs.declared.request.Request.{Request}
use Rattle.cube_model.specs.declared.policy.Policy.{Policy}
use Rattle.cube_model.specs.Cores.{Core, IsCore, shown}
use Rattle.cube_model.specs.Cubes.{are_levels}
use Rattle.cube_model.specs.Dims.{plains}
use Rattle.cube_model.specs.Requests.{rows}
use Rattle.cube_rollup.specs.Cuboids.{Cuboid, IsCuboidOf, AreRowsOf, whole, first_of_row}
use Rattle.cube_core.specs.Tallies.{summed_row}
use Rattle.cube_rollup.proofs.Cells.{no_policy, few_in_rows, whole_fits, are_rows, stands, few_cells, bounded}
use Rattle.cube_rollup.proofs.cuboid.Cuboid.build.Goals as goal

-- the parts together stand for the core
together : (c : Core) (m : ℕ) (levels kept : List ℕ) (r : Request) (all seen : List Row) (cells : List AnswerRow) (points : List (List ℕ)) → IsCore c → are_levels (plains c.dims) levels ≡ true → m < length c.dims.measures → kept ≡ levels → r ≡ whole m levels
    → ((p : Policy) → all ≡ rows (shown c p) r) → cells ≡ map (summed_row (get_or c.cube m [])) all → seen ≡ all → points ≡ map (first_of_row c) seen → IsCuboidOf c (record { levels = kept; measure = m; cells = cells; points = points })
together c m levels kept r all seen cells points ok e l same request is sums own firsts =
    let made : Cuboid = record { levels = kept; measure = m; cells = cells; points = points } in
    let whole_points : points ≡ map (first_of_row c) all = firsts ∙ ap (map (first_of_row c)) own in
    let is_made : made ≡ record { levels = levels; measure = m; cells = map (summed_row (get_or c.cube m [])) all; points = map (first_of_row c) all } =
    ap (λ (ls : List ℕ). record { levels = ls; measure = m; cells = cells; points = points }) same
    ∙ ap₂ (λ (cs : List AnswerRow) (ps : List (List ℕ)). record { levels = levels; measure = m; cells = cs; points = ps }) sums whole_points in
    stands c m levels r all made ok e l request is is_made

-- each place was read at most once
once : (c : Core) (r : Request) (all : List Row) (old new : ℕ) → ((p : Policy) → all ≡ rows (shown c p) r) → new ≤ old + sum_by (λ (row : Row). length row.places) all → new ≤ old + length c.shape.points
once c r all old new is l =
    let few = few_in_rows c r no_policy in
    let same = ap (sum_by (λ (row : Row). length row.places)) (is no_policy) in
    omega (arith, few, same, l)

pub rows-requires : goal.rows-requires
rows-requires g c = whole_fits c.args.core.now.dims c.args.measure c.args.levels.now c.in_ok-request.request c.requires.levels c.in_ok-request.ensures

pub first_points-requires : goal.first_points-requires
first_points-requires g c = subst (AllByRecursion (AreRowsOf (length c.args.core.now.shape.points))) (sym c.as_slice.ensures) (are_rows c.args.core.now c.args.measure c.args.levels.now c.in_ok-request.request c.in_ok-rows.rows c.in_ok-request.ensures c.in_ok-rows.ensures.rows)

pub sum_rows-requires-clause-rows : goal.sum_rows-requires-clause-rows
sum_rows-requires-clause-rows g c = are_rows c.args.core.now c.args.measure c.args.levels.now c.in_ok-request.request c.in_ok-rows.rows c.in_ok-request.ensures c.in_ok-rows.ensures.rows

pub returns-in_err-cells-clause-steps : goal.returns-in_err-cells-clause-steps
returns-in_err-cells-clause-steps g c = once c.args.core.now c.in_ok-request.request c.in_ok-rows.rows c.args.steps.now c.sum_rows.new.steps c.in_ok-rows.ensures.rows c.sum_rows.ensures.steps

pub returns-in_err-sums-clause-steps : goal.returns-in_err-sums-clause-steps
returns-in_err-sums-clause-steps g c = once c.args.core.now c.in_ok-request.request c.in_ok-rows.rows c.args.steps.now c.sum_rows.new.steps c.in_ok-rows.ensures.rows c.sum_rows.ensures.steps

pub from_parts-requires-clause-few : goal.from_parts-requires-clause-few
from_parts-requires-clause-few g c = few_cells c.args.core.now _ (together c.args.core.now c.args.measure c.args.levels.now c.in_ok-kept.kept c.in_ok-request.request c.in_ok-rows.rows c.as_slice.result.now c.in_ok-cells.cells c.in_ok-points.points c.dims-rules.ensures.rules c.requires.levels c.requires.measure c.in_ok-kept.ensures c.in_ok-request.ensures c.in_ok-rows.ensures.rows c.in_ok-cells.ensures.sums c.as_slice.ensures c.in_ok-points.ensures)

pub from_parts-requires-clause-bounded : goal.from_parts-requires-clause-bounded
from_parts-requires-clause-bounded g c = bounded c.args.core.now _ (together c.args.core.now c.args.measure c.args.levels.now c.in_ok-kept.kept c.in_ok-request.request c.in_ok-rows.rows c.as_slice.result.now c.in_ok-cells.cells c.in_ok-points.points c.dims-rules.ensures.rules c.requires.levels c.requires.measure c.in_ok-kept.ensures c.in_ok-request.ensures c.in_ok-rows.ensures.rows c.in_ok-cells.ensures.sums c.as_slice.ensures c.in_ok-points.ensures)

pub returns-clause-stands : goal.returns-clause-stands
returns-clause-stands g c = subst (IsCuboidOf c.args.core.now) (sym c.from_parts.ensures) (together c.args.core.now c.args.measure c.args.levels.now c.in_ok-kept.kept c.in_ok-request.request c.in_ok-rows.rows c.as_slice.result.now c.in_ok-cells.cells c.in_ok-points.points c.dims-rules.ensures.rules c.requires.levels c.requires.measure c.in_ok-kept.ensures c.in_ok-request.ensures c.in_ok-rows.ensures.rows c.in_ok-cells.ensures.sums c.as_slice.ensures c.in_ok-points.ensures)

pub returns-clause-steps : goal.returns-clause-steps
returns-clause-steps g c = once c.args.core.now c.in_ok-request.request c.in_ok-rows.rows c.args.steps.now c.sum_rows.new.steps c.in_ok-rows.ensures.rows c.sum_rows.ensures.steps
