use Rattle.std.specs.List.{flat_map}
use Rattle.std.proofs.Common.{ℕ, not, find, take, sym, ap, ◌∙◌, eqb}
use Rattle.std.proofs.lemmas.Bool.{eq-eqb}
use Rattle.cube_model.specs.declared.cell.Cell.{Cell}
use Rattle.cube_model.specs.declared.policy.Object.{Object}
use Rattle.cube_model.specs.Protection.{under}
use Rattle.cube_source.specs.Blocks.{bare, is_parted}
use Rattle.cube_source.specs.Objects.{of_measure}
use Rattle.cube_source.proofs.Contained.{none_more, none_other}
use Rattle.cube_source.proofs.Keys.{not_equal}
use Rattle.cube_source.proofs.Repeats.{placed_taken, placed_at}
use Rattle.cube_source.proofs.Steps.{kept_skip, kept_hit, pass_over}
use Rattle.cube_source.proofs.judging.uncut_lattice.Goals as goal
use Rattle.cube_source.proofs.judging.uncut_lattice.Goals.{then-object-measure+in_ok-cell+in_default, else-object-measure}

pub uncut_new-requires-clause-earlier : goal.uncut_new-requires-clause-earlier
uncut_new-requires-clause-earlier c = placed_taken c.args.core.now.dims c.args.objects.now c.objects.number c.requires.objects

pub uncut_new-requires-clause-levels : goal.uncut_new-requires-clause-levels
uncut_new-requires-clause-levels c = (placed_at c.args.core.now.dims c.args.objects.now c.objects.number c.index-objects-number.result c.requires.objects c.objects-test.true c.index-objects-number.is).levels

pub uncut_new-requires-clause-slice : goal.uncut_new-requires-clause-slice
uncut_new-requires-clause-slice c = (placed_at c.args.core.now.dims c.args.objects.now c.objects.number c.index-objects-number.result c.requires.objects c.objects-test.true c.index-objects-number.is).slice

pub uncut_new-requires-clause-passed : goal.uncut_new-requires-clause-passed
uncut_new-requires-clause-passed c =
    ap (λ (m : ℕ). find (λ (t : Cell). not (is_parted (bare c.args.core.now) c.args.blocks.now t)) (flat_map (under (bare c.args.core.now)) (of_measure m (take c.objects.number c.args.objects.now)))) c.if-object-measure.true
    ∙ c.objects.invariant.none

pub returns-in-Some : goal.returns-in-Some
returns-in-Some c =
    let uncut = λ (t : Cell). not (is_parted (bare c.args.core.now) c.args.blocks.now t) in
    let test = λ (o : Object). eqb o.measure c.args.measure in
    kept_hit uncut (under (bare c.args.core.now)) test c.args.objects.now c.objects.number c.index-objects-number.result c.in-Some.cell (find uncut (flat_map (under (bare c.args.core.now)) (of_measure c.args.measure c.args.objects.now))) c.objects-test.true c.index-objects-number.is
    (eq-eqb c.index-objects-number.result.measure c.args.measure c.if-object-measure.true) (sym c.in_ok-cell.ensures ∙ c.in-Some.is) c.objects.invariant.rest

pub objects-preserved : goal.objects-preserved
objects-preserved c =
    let g = bare c.args.core.now in
    let uncut = λ (t : Cell). not (is_parted (bare c.args.core.now) c.args.blocks.now t) in
    let test = λ (o : Object). eqb o.measure c.args.measure in
    let all = find uncut (flat_map (under (bare c.args.core.now)) (of_measure c.args.measure c.args.objects.now)) in
    elim c.if-object-measure.branch [
      | then-object-measure+in_ok-cell+in_default w ↦ record {
        rest = kept_skip uncut (under (bare c.args.core.now)) test c.args.objects.now c.objects.number c.index-objects-number.result all c.objects-test.true c.index-objects-number.is
            (eq-eqb c.index-objects-number.result.measure c.args.measure w.if-object-measure.true) (sym w.in_ok-cell.ensures ∙ w.in_default.is) c.objects.invariant.rest;
        none = none_more g uncut c.args.measure c.args.objects.now c.objects.number c.index-objects-number.result c.objects-test.true c.index-objects-number.is
            (eq-eqb c.index-objects-number.result.measure c.args.measure w.if-object-measure.true) (sym w.in_ok-cell.ensures ∙ w.in_default.is) c.objects.invariant.none;
      }
      | else-object-measure w ↦ record {
        rest = sym (ap (λ os. find uncut (flat_map (under (bare c.args.core.now)) os)) (pass_over test c.args.objects.now c.objects.number c.index-objects-number.result c.objects-test.true c.index-objects-number.is (not_equal c.index-objects-number.result.measure c.args.measure w.if-object-measure.false))) ∙ c.objects.invariant.rest;
        none = none_other g uncut c.args.measure c.args.objects.now c.objects.number c.index-objects-number.result c.objects-test.true c.index-objects-number.is (not_equal c.index-objects-number.result.measure c.args.measure w.if-object-measure.false) c.objects.invariant.none;
      }
    ]
