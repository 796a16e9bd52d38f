use Rattle.std.proofs.Common.{true, false, sym, ◌∙◌}
use Rattle.cube_reason.proofs.Steps.{led_more, led_end}
use Rattle.cube_reason.proofs.stepping.led.Goals as goal

pub steps-preserved : goal.steps-preserved
steps-preserved c named tell = sym (led_more named c.args.joints.now c.steps.at c.steps.step-index c.args.steps.now _ true tell c.steps-test.true (sym c.if-not-goes_on.false ∙ c.goes_on.ensures)) ∙ c.steps.invariant named tell

pub returns-then-not-goes_on : goal.returns-then-not-goes_on
returns-then-not-goes_on c named tell = sym (led_more named c.args.joints.now c.steps.at c.steps.step-index c.args.steps.now _ false tell c.steps-test.true (sym c.if-not-goes_on.true ∙ c.goes_on.ensures)) ∙ c.steps.invariant named tell

pub returns : goal.returns
returns c named tell = sym (led_end named c.steps.at c.steps.step-index c.args.steps.now c.steps-test.false) ∙ c.steps.invariant named tell
