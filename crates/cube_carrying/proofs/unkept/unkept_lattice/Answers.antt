use Rattle.std.specs.List.{flat_map}
use Rattle.std.proofs.Common.{not, find, sym, ap, ◌∙◌, eqb}
use Rattle.std.proofs.lemmas.Bool.{eq-eqb}
use Rattle.cube_model.specs.declared.cell.Cell.{Cell}
use Rattle.cube_model.specs.declared.policy.Object.{Object}
use Rattle.cube_model.specs.Protection.{under}
use Rattle.cube_source.specs.Blocks.{bare}
use Rattle.cube_source.specs.Objects.{of_measure}
use Rattle.cube_source.proofs.Keys.{not_equal}
use Rattle.cube_source.proofs.Steps.{kept_skip, kept_hit, pass_over}
use Rattle.cube_carrying.specs.KeptCells as said
use Rattle.cube_carrying.proofs.unkept.unkept_lattice.Goals as goal
use Rattle.cube_carrying.proofs.unkept.unkept_lattice.Goals.{then-object-old_measure+in_ok-found+in_default, else-object-old_measure}

pub returns-in-Some : goal.returns-in-Some
returns-in-Some c =
    let unkept = λ (t : Cell). not (said.is_kept c.args.crossing.now.old.now c.args.crossing.now.new.now c.args.crossing.now.new_policy.now c.args.crossing.now.measure t) in
    let test = λ (o : Object). eqb o.measure c.args.old_measure in
    kept_hit unkept (under (bare c.args.crossing.now.old.now)) test c.args.objects.now c.objects.object-index c.object-item.result c.in-Some.cell (find unkept (flat_map (under (bare c.args.crossing.now.old.now)) (of_measure c.args.old_measure c.args.objects.now))) c.objects-test.true c.object-item.is
    (eq-eqb c.object-item.result.measure c.args.old_measure c.if-object-old_measure.true) (sym c.in_ok-found.ensures ∙ c.in-Some.is) c.objects.invariant

pub objects-preserved : goal.objects-preserved
objects-preserved c =
    let unkept = λ (t : Cell). not (said.is_kept c.args.crossing.now.old.now c.args.crossing.now.new.now c.args.crossing.now.new_policy.now c.args.crossing.now.measure t) in
    let test = λ (o : Object). eqb o.measure c.args.old_measure in
    let all = find unkept (flat_map (under (bare c.args.crossing.now.old.now)) (of_measure c.args.old_measure c.args.objects.now)) in
    elim c.if-object-old_measure.branch [
      | then-object-old_measure+in_ok-found+in_default w ↦ kept_skip unkept (under (bare c.args.crossing.now.old.now)) test c.args.objects.now c.objects.object-index c.object-item.result all c.objects-test.true c.object-item.is
          (eq-eqb c.object-item.result.measure c.args.old_measure w.if-object-old_measure.true) (sym w.in_ok-found.ensures ∙ w.in_default.is) c.objects.invariant
      | else-object-old_measure w ↦ sym (ap (λ os. find unkept (flat_map (under (bare c.args.crossing.now.old.now)) os)) (pass_over test c.args.objects.now c.objects.object-index c.object-item.result c.objects-test.true c.object-item.is (not_equal c.object-item.result.measure c.args.old_measure w.if-object-old_measure.false))) ∙ c.objects.invariant
    ]
