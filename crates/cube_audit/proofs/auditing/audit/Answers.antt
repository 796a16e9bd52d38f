use Rattle.std.proofs.Common.{sym, subst}
use Rattle.std.proofs.lemmas.Result.{IfOk-weaker}
use Rattle.cube_audit.specs.AuditText.{IsThere}
use Rattle.cube_audit.specs.Sound.{SaysSound}
use Rattle.cube_audit.proofs.Soundly.{is_sound, is_there}
use Rattle.cube_audit.proofs.auditing.audit.Goals as goal

pub returns-clause-sound : goal.returns-clause-sound
returns-clause-sound g c =
    IfOk-weaker c.audit_items.result _ _
    (λ told is. subst (SaysSound c.args.core.now c.args.policy.now c.args.items.now) (sym is) (is_sound c.args.core.now c.args.policy.now c.args.items.now c.dims-rules.ensures.rules c.requires.policy))
    c.audit_items.ensures

pub returns-clause-there : goal.returns-clause-there
returns-clause-there g c =
    IfOk-weaker c.audit_items.result _ _
    (λ told is. subst (IsThere c.args.core.now.dims) (sym is) (is_there c.args.core.now c.args.policy.now c.args.items.now c.dims-rules.ensures.rules c.requires.policy))
    c.audit_items.ensures
