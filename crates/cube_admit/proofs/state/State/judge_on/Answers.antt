use Rattle.std.proofs.Common.{length, refl, sym, ◌∙◌}
use Rattle.cube_model.specs.declared.policy.Policy.{Policy}
use Rattle.cube_model.specs.declared.verdict.Verdict.{Verdict}
use Rattle.cube_model.specs.Entries.{requests}
use Rattle.cube_model.specs.Links.{links}
use Rattle.cube_admit.specs.Linking.{LinksJudged}
use Rattle.cube_model.specs.Cores.{shown}
use Rattle.cube_model.proofs.Histories.{fits_valid}
use Rattle.cube_admit.proofs.Judging.{known, long_held, step_stays, step_would, judged_is, judged_stands, links_there, linked_is, linked_stands, linked_waits, linked_history, ok_at}
use Rattle.cube_admit.proofs.state.State.judge_on.Goals as goal

pub is_linked-requires : goal.is_linked-requires
is_linked-requires c = (known (shown c.args.core.now c.args.policy.now) c.args.self.now c.args.request.now c.args.measure c.requires.stands c.requires.none c.requires.valid c.requires.what).there

pub judge_links-requires-clause-fits : goal.judge_links-requires-clause-fits
judge_links-requires-clause-fits c = fits_valid (shown c.args.core.now c.args.policy.now) c.args.request.now c.requires.valid

pub judge_links-requires-clause-links : goal.judge_links-requires-clause-links
judge_links-requires-clause-links c p =
    let k = known (shown c.args.core.now c.args.policy.now) c.args.self.now c.args.request.now c.args.measure c.requires.stands c.requires.none c.requires.valid c.requires.what in
    links_there (shown c.args.core.now c.args.policy.now) (shown c.args.core.now p) c.args.self.now.history c.args.request.now c.args.measure _ refl (sym c.is_linked.ensures ∙ c.if-is_linked.true) (k.held c.args.measure k.there)

pub returns-then-is_linked-clause-verdict : goal.returns-then-is_linked-clause-verdict
returns-then-is_linked-clause-verdict c = linked_is (shown c.args.core.now c.args.policy.now) c.args.self.now c.judge_links.new.self c.args.request.now c.args.measure c.judge_links.result c.requires.stands c.requires.none c.requires.valid c.requires.what (sym c.is_linked.ensures ∙ c.if-is_linked.true) (ok_at (λ (p : Policy) (v : Verdict). LinksJudged (length (requests c.args.self.now.history)) c.args.measure c.args.request.now (links (shown c.args.core.now p) c.args.request.now) c.args.self.now c.judge_links.new.self v) c.judge_links.result c.args.policy.now c.judge_links.ensures.judged)

pub returns-then-is_linked-clause-history : goal.returns-then-is_linked-clause-history
returns-then-is_linked-clause-history c = linked_history _ _ c.args.measure c.args.self.now c.judge_links.new.self c.args.request.now c.judge_links.result (ok_at (λ (p : Policy) (v : Verdict). LinksJudged (length (requests c.args.self.now.history)) c.args.measure c.args.request.now (links (shown c.args.core.now p) c.args.request.now) c.args.self.now c.judge_links.new.self v) c.judge_links.result c.args.policy.now c.judge_links.ensures.judged) c.judge_links.ensures.err

pub returns-then-is_linked-clause-stands : goal.returns-then-is_linked-clause-stands
returns-then-is_linked-clause-stands c = linked_stands (shown c.args.core.now c.args.policy.now) c.args.self.now c.judge_links.new.self c.args.request.now c.args.measure c.judge_links.result c.requires.stands c.requires.none c.requires.valid c.requires.what (sym c.is_linked.ensures ∙ c.if-is_linked.true) (ok_at (λ (p : Policy) (v : Verdict). LinksJudged (length (requests c.args.self.now.history)) c.args.measure c.args.request.now (links (shown c.args.core.now p) c.args.request.now) c.args.self.now c.judge_links.new.self v) c.judge_links.result c.args.policy.now c.judge_links.ensures.judged) c.judge_links.ensures.err

pub returns-then-is_linked-clause-waits : goal.returns-then-is_linked-clause-waits
returns-then-is_linked-clause-waits c = linked_waits (shown c.args.core.now c.args.policy.now) c.args.self.now c.judge_links.new.self c.args.request.now c.args.measure c.judge_links.result c.requires.stands c.requires.none c.requires.valid c.requires.what (sym c.is_linked.ensures ∙ c.if-is_linked.true) (ok_at (λ (p : Policy) (v : Verdict). LinksJudged (length (requests c.args.self.now.history)) c.args.measure c.args.request.now (links (shown c.args.core.now p) c.args.request.now) c.args.self.now c.judge_links.new.self v) c.judge_links.result c.args.policy.now c.judge_links.ensures.judged)

pub step-requires-clause-measure : goal.step-requires-clause-measure
step-requires-clause-measure c = (known (shown c.args.core.now c.args.policy.now) c.args.self.now c.args.request.now c.args.measure c.requires.stands c.requires.none c.requires.valid c.requires.what).there

pub step-requires-clause-long : goal.step-requires-clause-long
step-requires-clause-long c =
    let k = known (shown c.args.core.now c.args.policy.now) c.args.self.now c.args.request.now c.args.measure c.requires.stands c.requires.none c.requires.valid c.requires.what in
    long_held (shown c.args.core.now c.args.policy.now) c.args.self.now.history c.args.request.now c.args.measure _ k.allowed c.requires.valid (k.held c.args.measure k.there)

pub judge_source-requires-clause-levels : goal.judge_source-requires-clause-levels
judge_source-requires-clause-levels c =
    let k = known (shown c.args.core.now c.args.policy.now) c.args.self.now c.args.request.now c.args.measure c.requires.stands c.requires.none c.requires.valid c.requires.what in
    (step_would (shown c.args.core.now c.args.policy.now) c.args.self.now.history c.args.request.now c.args.measure _ c.in-Would.levels k.allowed c.requires.valid c.requires.what (k.held c.args.measure k.there) (sym c.in-Would.is ∙ c.in_ok-step.ensures)).levels

pub returns-in-Stays-clause-verdict : goal.returns-in-Stays-clause-verdict
returns-in-Stays-clause-verdict c =
    let k = known (shown c.args.core.now c.args.policy.now) c.args.self.now c.args.request.now c.args.measure c.requires.stands c.requires.none c.requires.valid c.requires.what in
    step_stays (shown c.args.core.now c.args.policy.now) c.args.self.now.history c.args.request.now c.args.measure _ (sym c.is_linked.ensures ∙ c.if-is_linked.false) c.requires.what (k.held c.args.measure k.there) (sym c.in-Stays.is ∙ c.in_ok-step.ensures)

pub returns-in-Would-clause-verdict : goal.returns-in-Would-clause-verdict
returns-in-Would-clause-verdict c =
    let k = known (shown c.args.core.now c.args.policy.now) c.args.self.now c.args.request.now c.args.measure c.requires.stands c.requires.none c.requires.valid c.requires.what in
    judged_is (shown c.args.core.now c.args.policy.now) c.args.self.now.history c.args.request.now c.args.measure c.in-Would.levels c.judge_source.result (step_would (shown c.args.core.now c.args.policy.now) c.args.self.now.history c.args.request.now c.args.measure _ c.in-Would.levels k.allowed c.requires.valid c.requires.what (k.held c.args.measure k.there) (sym c.in-Would.is ∙ c.in_ok-step.ensures)) c.judge_source.ensures.verdict

pub returns-in-Would-clause-stands : goal.returns-in-Would-clause-stands
returns-in-Would-clause-stands c =
    let k = known (shown c.args.core.now c.args.policy.now) c.args.self.now c.args.request.now c.args.measure c.requires.stands c.requires.none c.requires.valid c.requires.what in
    judged_stands (shown c.args.core.now c.args.policy.now) c.args.self.now c.judge_source.new.self c.args.request.now c.args.measure c.in-Would.levels c.judge_source.result c.requires.stands c.requires.none c.requires.valid c.requires.what (step_would (shown c.args.core.now c.args.policy.now) c.args.self.now.history c.args.request.now c.args.measure _ c.in-Would.levels k.allowed c.requires.valid c.requires.what (k.held c.args.measure k.there) (sym c.in-Would.is ∙ c.in_ok-step.ensures)) c.judge_source.ensures.verdict c.judge_source.ensures.history c.judge_source.ensures.held c.judge_source.ensures.waits c.judge_source.ensures.err c.judge_source.ensures.table
