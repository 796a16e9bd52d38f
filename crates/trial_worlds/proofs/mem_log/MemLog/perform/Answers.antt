use Rattle.std.proofs.Common.{◌≡◌, ◌∷◌, ◌++◌, [], List, sym, ◌∙◌, ap, rules}
use Rattle.trial_worlds.specs.declared.mem_log.Deed.{Deed}
use Rattle.trial_worlds.specs.Deeds.{log_of, now_after}
use Rattle.trial_worlds.proofs.Steps.{now_more, settled_more}
use Rattle.trial_worlds.proofs.mem_log.MemLog.perform.Goals as goal

pub invariant_of-self-2 : goal.invariant_of-self-2
invariant_of-self-2 c =
    let is : c.push.new.self ≡ c.self.inside.deeds ++ c.args.deed ∷ [] = search rules in
    let after : c.in_ok-text.text ≡ now_after c.self.inside.text c.args.deed = search rules in (
      ap (λ (ds : List Deed). (log_of ds).state.now) is ∙ now_more c.self.inside.deeds c.args.deed c.self.inside.text c.in_ok-text.text c.self.invariant.0 after,
      λ clean. ap (λ (ds : List Deed). (log_of ds).state) is ∙ settled_more c.self.inside.deeds c.args.deed c.self.inside.text c.in_ok-text.text c.self.invariant.0 after (sym c.settles-clean.ensures ∙ clean),
    )
