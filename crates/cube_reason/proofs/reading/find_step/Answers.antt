use Rattle.std.proofs.Common.{ℕ, List, ◌++◌, length, drop, get_or, refl, sym, ap, ap₂, ◌∙◌}
use Rattle.cube_source.specs.Blocks.{bare}
use Rattle.cube_reason.specs.declared.joints.Joint.{Joint}
use Rattle.cube_reason.specs.declared.ties.Bringer.TheVariants.{Entry}
use Rattle.cube_reason.proofs.Following.{none_more}
use Rattle.cube_reason.proofs.Numbers.{in_at}
use Rattle.cube_reason.proofs.reading.find_step.Goals as goal

no_joint : Joint
no_joint = record { to = 0; by = Entry 0 }

pub step_line-requires-clause-to : goal.step_line-requires-clause-to
unfolding no_joint
step_line-requires-clause-to c = c.requires.within (get_or c.args.joints.now c.joints.joint-index no_joint) (in_at c.args.joints.now c.joints.joint-index no_joint c.joints-test.true)

pub returns-then-begins-clause-found : goal.returns-then-begins-clause-found
unfolding no_joint
returns-then-begins-clause-found c = record {
  joint = get_or c.args.joints.now c.joints.joint-index no_joint;
  among = in_at c.args.joints.now c.joints.joint-index no_joint c.joints-test.true;
  leads = refl;
  size = c.len.ensures ∙ ap length c.in_ok-line.ensures;
  front = c.begins.ensures.yes c.if-begins.true ∙ ap₂ (λ (x : List ℕ) (n : ℕ). x ++ drop n c.args.lines.now) (c.as_slice.ensures ∙ c.in_ok-line.ensures) (ap length c.as_slice.ensures ∙ sym c.len.ensures);
}

pub joints-preserved : goal.joints-preserved
unfolding no_joint
joints-preserved c = none_more c.args.core.now.dims (bare c.args.core.now) c.args.joints.now c.joints.joint-index c.args.from no_joint c.args.lines.now c.joints-test.true
    (λ rest is. c.begins.ensures.no c.if-begins.false rest (is ∙ ap (λ (x : List ℕ). x ++ rest) (sym (c.as_slice.ensures ∙ c.in_ok-line.ensures)))) c.joints.invariant
