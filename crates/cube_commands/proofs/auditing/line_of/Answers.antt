use Rattle.cube_audit.proofs.Soundly.{is_sound}
use Rattle.cube_commands.proofs.auditing.line_of.Goals as goal

pub returns-clause-sound : goal.returns-clause-sound
returns-clause-sound c = is_sound c.args.core.now c.args.policy.now c.args.items.now c.dims-rules.ensures.rules c.requires.policy
