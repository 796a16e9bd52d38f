use Rattle.std.proofs.Common.{false, refl, sym, ap}
use Rattle.cube_model.specs.Cores.{shown}
use Rattle.cube_model.specs.declared.request.What.{What}
use Rattle.cube_model.specs.Verdicts.{verdict, judged_what}
use Rattle.cube_admit.proofs.Boxes.{boxes_answered}
use Rattle.cube_admit.proofs.state.State.verdict.Goals as goal

pub returns-in-Count-clause-verdict : goal.returns-in-Count-clause-verdict
unfolding verdict
returns-in-Count-clause-verdict c = sym (ap (λ (what : What). judged_what what (shown c.args.core.now c.args.policy.now) c.args.self.now.history c.args.request.now) c.in-Count.is)

pub returns-in-Count-clause-even_boxes : goal.returns-in-Count-clause-even_boxes
returns-in-Count-clause-even_boxes c m q way full boxes box few = (false, refl)

pub returns-in-Measure-clause-even_boxes : goal.returns-in-Measure-clause-even_boxes
returns-in-Measure-clause-even_boxes c = boxes_answered c.args.core.now c.args.policy.now c.args.self.now.history c.drop_pending.new.self.history c.args.request.now c.judge_on.result c.dims-rules.ensures.rules c.requires.policy c.drop_pending.ensures.history c.judge_on.ensures.verdict
