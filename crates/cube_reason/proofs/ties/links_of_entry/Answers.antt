use Rattle.std.proofs.Common.{◌≡◌, true, subst}
use Rattle.cube_model.specs.declared.entry.Entry.{Entry}
use Rattle.cube_model.specs.Cores.{shown}
use Rattle.cube_model.specs.Entries.{is_allowed}
use Rattle.cube_reason.proofs.Narrowed.{asked_valid}
use Rattle.cube_reason.proofs.ties.links_of_entry.Goals as goal

pub links_of-requires : goal.links_of-requires
links_of-requires c = asked_valid (shown c.args.core.now c.args.policy.now) c.in-Asked.request (subst (λ (e : Entry). is_allowed (shown c.args.core.now c.args.policy.now) e ≡ true) c.in-Asked.is c.requires)
