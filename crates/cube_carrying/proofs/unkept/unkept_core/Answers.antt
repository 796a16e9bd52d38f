use Rattle.std.proofs.Common.{not, get_or, sym, ap, ◌∙◌}
use Rattle.std.proofs.lemmas.Bool.{and_parts}
use Rattle.cube_model.specs.declared.cell.Cell.{Cell}
use Rattle.cube_model.specs.Cubes.{are_levels}
use Rattle.cube_model.specs.Dims.{plains}
use Rattle.cube_model.specs.Protection as protection
use Rattle.cube_source.specs.Blocks.{bare}
use Rattle.cube_source.specs.Objects.{of_measure}
use Rattle.cube_source.proofs.Keys.{finest_levels}
use Rattle.cube_carrying.specs.KeptCells as said
use Rattle.cube_carrying.proofs.Walked.{passed_over, taken}
use Rattle.cube_carrying.proofs.unkept.unkept_core.Goals as goal

pub is_protected-requires-clause-cell : goal.is_protected-requires-clause-cell
is_protected-requires-clause-cell c = c.requires.carries.levels c.in_ok-cell.cell.levels (ap (λ (t : Cell). are_levels (plains c.args.crossing.now.old.now.dims) t.levels) c.in_ok-cell.ensures ∙ finest_levels (plains c.args.crossing.now.old.now.dims))

pub returns-then-branch : goal.returns-then-branch
returns-then-branch c =
    let kept = said.is_kept c.args.crossing.now.old.now c.args.crossing.now.new.now c.args.crossing.now.new_policy.now c.args.crossing.now.measure in
    passed_over (protection.is_guarded (bare c.args.crossing.now.old.now) (of_measure c.args.old_measure c.args.crossing.now.old_policy.now.objects) c.args.place) (kept (protection.core_cell (bare c.args.crossing.now.old.now) c.args.place)) (protection.core_cell (bare c.args.crossing.now.old.now) c.args.place)
    (sym (c.in_ok-is_protected.ensures ∙ ap kept c.in_ok-cell.ensures) ∙ c.if-branch.true)

pub returns : goal.returns
returns c =
    let kept = said.is_kept c.args.crossing.now.old.now c.args.crossing.now.new.now c.args.crossing.now.new_policy.now c.args.crossing.now.measure in
    let guard = protection.is_guarded (bare c.args.crossing.now.old.now) (of_measure c.args.old_measure c.args.crossing.now.old_policy.now.objects) c.args.place in
    let other = protection.is_guarded (bare c.args.crossing.now.new.now) (of_measure c.args.crossing.now.measure c.args.crossing.now.new_policy.now.objects) (get_or c.args.crossing.now.places.now c.args.place 0) in
    taken guard (kept (protection.core_cell (bare c.args.crossing.now.old.now) c.args.place)) (protection.core_cell (bare c.args.crossing.now.old.now) c.args.place) c.in_ok-cell.cell
    (and_parts guard (not other) (sym c.is_unguarded_at.ensures ∙ c.if-not-is_unguarded_at.false)).0
    (sym (c.in_ok-is_protected.ensures ∙ ap kept c.in_ok-cell.ensures) ∙ c.if-branch.false)
    c.in_ok-cell.ensures
