use Rattle.std.specs.List.{All, AllByRecursion}
use Rattle.std.proofs.Common.{◌∙◌, ◌<◌, [], length, refl, sym, subst}
use Rattle.std.proofs.lemmas.Result.{IfOk-weaker}
use Rattle.cube_model.specs.declared.answer.Row.{Row}
use Rattle.cube_model.specs.declared.policy.Policy.{Policy}
use Rattle.cube_model.specs.Cores.{Core, shown}
use Rattle.cube_core.specs.Grouping.{pointed}
use Rattle.cube_core.specs.Rows.{ArePlaces}
use Rattle.cube_core.proofs.Grouped.{HasPoints}
use Rattle.cube_core.proofs.Ranked.{listed_below, one_key, rows_are}
use Rattle.cube_core.proofs.Totals.{ArePlaces-rows}
use Rattle.cube_core.proofs.stretch.row_of.Goals as goal

pub rows_with-requires-clause-places : goal.rows_with-requires-clause-places
rows_with-requires-clause-places c =
    let core : Core = pointed c.args.dims.now c.args.points.now in
    let has : HasPoints core = record { dimensions = c.dimensions-rules.ensures.rules.each_dimension; points = c.requires.points.each } in
    let lists = c.in_ok-lists.ensures ∙ one_key core c.args.request.now 1 _ has c.requires.fits c.requires.picked (sym c.requires.one) refl in
    subst (AllByRecursion (λ places. All (λ place. place < length c.args.points.now) places)) (sym lists) (listed_below core c.args.request.now 1 (length c.args.points.now))

pub returns-clause-rows : goal.returns-clause-rows
returns-clause-rows c =
    let core : Core = pointed c.args.dims.now c.args.points.now in
    let has : HasPoints core = record { dimensions = c.dimensions-rules.ensures.rules.each_dimension; points = c.requires.points.each } in
    let lists = c.in_ok-lists.ensures ∙ one_key core c.args.request.now 1 _ has c.requires.fits c.requires.picked (sym c.requires.one) refl in
    IfOk-weaker c.rows_with.result _ _ (λ rows e p. e ∙ rows_are core c.args.request.now 1 c.in_ok-lists.lists.items has c.requires.fits (sym c.requires.one) lists p) c.rows_with.ensures

pub returns-clause-places : goal.returns-clause-places
returns-clause-places c =
    let core : Core = pointed c.args.dims.now c.args.points.now in
    let has : HasPoints core = record { dimensions = c.dimensions-rules.ensures.rules.each_dimension; points = c.requires.points.each } in
    let none : Policy = record { methods = []; objects = [] } in
    let lists = c.in_ok-lists.ensures ∙ one_key core c.args.request.now 1 _ has c.requires.fits c.requires.picked (sym c.requires.one) refl in
    IfOk-weaker c.rows_with.result _ _ (λ rows e. subst (All (λ (row : Row). ArePlaces (length c.args.points.now) row.places))
    (sym (e ∙ rows_are core c.args.request.now 1 c.in_ok-lists.lists.items has c.requires.fits (sym c.requires.one) lists none)) (ArePlaces-rows (shown core none) c.args.request.now)) c.rows_with.ensures
