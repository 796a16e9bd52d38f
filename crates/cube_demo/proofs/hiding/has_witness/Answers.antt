use Rattle.std.proofs.Common.{length, ap, ◌∙◌}
use Rattle.cube_model.specs.Cores.{shown}
use Rattle.cube_demo.proofs.Cells.{is_there, changes_long}
use Rattle.cube_demo.proofs.hiding.has_witness.Goals as goal

pub hides-requires-clause-levels : goal.hides-requires-clause-levels
hides-requires-clause-levels c = (is_there c.args.core.now c.args.policy.now c.args.measure c.args.cell.now c.dims-rules.ensures.rules c.requires.policy c.requires.protected).levels

pub hides-requires-clause-long : goal.hides-requires-clause-long
hides-requires-clause-long c = ap length (c.as_slice.ensures.value ∙ c.in_ok-signs.ensures) ∙ changes_long (shown c.args.core.now c.args.policy.now) c.args.state.now.history c.args.measure c.args.cell.now
