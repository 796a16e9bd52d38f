use Rattle.std.proofs.Common.{◌≡◌, ◌<◌, ℕ, List, Option, length, None, ap, sym, ◌∙◌, subst, get_or, set}
use Rattle.cube_model.specs.declared.entry.Entry.{Entry}
use Rattle.cube_model.specs.declared.entry.Entry.TheVariants.{Linked}
use Rattle.cube_model.specs.declared.verdict.Verdict.{Verdict}
use Rattle.cube_model.specs.Cores.{shown}
use Rattle.cube_model.specs.Entries.{requests}
use Rattle.cube_admit.specs.Linking.{IsLinks, HeldJudged}
use Rattle.cube_admit.specs.States.{State, IsTableOf}
use Rattle.cube_admit.specs.Taking.{behind}
use Rattle.cube_admit.specs.declared.held.Held.{Held}
use Rattle.cube_admit.specs.declared.held.Held.TheVariants as held
use Rattle.cube_admit.proofs.Taking.{requests-behind, link_there, link_is_links, link_taken, link_stands}
use Rattle.cube_admit.proofs.state.State.take_link.Goals as goal

pub judge_at-requires-clause-measure : goal.judge_at-requires-clause-measure
judge_at-requires-clause-measure c =
    let was : c.self.inside.held.items ≡ c.args.self.now.held = ap (λ (s : State). s.held) c.self.view_is in
    subst (λ (hs : List Held). c.args.measure < length hs) (sym was) (link_there (shown c.args.core.now c.args.policy.now) c.args.self.now c.args.measure c.args.link c.requires.stands c.requires.allowed)

pub judge_at-requires-clause-links : goal.judge_at-requires-clause-links
judge_at-requires-clause-links c =
    let was : c.self.inside.held.items ≡ c.args.self.now.held = ap (λ (s : State). s.held) c.self.view_is in
    subst (λ (hs : List Held). IsLinks (get_or hs c.args.measure held.Open) c.in_ok-links.links) (sym was) (link_is_links (shown c.args.core.now c.args.policy.now) c.args.self.now c.args.measure c.args.link c.in_ok-links.links c.requires.stands c.requires.none c.requires.allowed c.in_ok-links.ensures)

pub invariant_of-self-2 : goal.invariant_of-self-2
invariant_of-self-2 c =
    let empty : c.self.inside.pending ≡ None = ap (λ (s : State). s.pending) c.self.view_is ∙ c.requires.none in
    let count = λ (h : List Entry). length (requests h) in
    (ap count c.enter_taken.ensures ∙ requests-behind c.reserve.new.self.items c.args.measure c.args.link c.taken_by-taken.result ∙ ap count c.reserve.ensures.items ∙ c.self.invariant.0, c.self.invariant.1, rw empty tt)

pub returns-clause-taken : goal.returns-clause-taken
returns-clause-taken c =
    let was : c.self.inside.held.items ≡ c.args.self.now.held = ap (λ (s : State). s.held) c.self.view_is in
    let new = get_or c.judge_at.new.held.items c.args.measure held.Open in
    let given : Verdict × Option ℕ = (c.in_ok-verdict.verdict, c.in_ok-verdict._mark) in
    c.taken_by-taken.ensures ∙ link_taken (shown c.args.core.now c.args.policy.now) c.args.self.now c.args.measure c.args.link c.in_ok-links.links new c.in_ok-verdict.verdict c.in_ok-verdict._mark c.requires.stands c.requires.none c.requires.allowed c.in_ok-links.ensures
    (subst (λ (hs : List Held). HeldJudged (get_or hs c.args.measure held.Open) new 0 c.in_ok-links.links given) was c.in_ok-verdict.ensures.judged)

pub returns-clause-stands : goal.returns-clause-stands
returns-clause-stands c =
    let was : c.self.inside.held.items ≡ c.args.self.now.held = ap (λ (s : State). s.held) c.self.view_is in
    let new = get_or c.judge_at.new.held.items c.args.measure held.Open in
    let given : Verdict × Option ℕ = (c.in_ok-verdict.verdict, c.in_ok-verdict._mark) in
    let entry = Linked c.args.measure c.args.link in
    let before : c.reserve.new.self.items ≡ c.args.self.now.history = c.reserve.ensures.items ∙ ap (λ (s : State). s.history) c.self.view_is in
    link_stands (shown c.args.core.now c.args.policy.now) c.args.self.now _ c.args.measure c.args.link c.in_ok-links.links new c.in_ok-verdict.verdict c.in_ok-verdict._mark c.requires.stands c.requires.none c.requires.allowed c.in_ok-links.ensures
    (subst (λ (hs : List Held). HeldJudged (get_or hs c.args.measure held.Open) new 0 c.in_ok-links.links given) was c.in_ok-verdict.ensures.judged)
    (c.enter_taken.ensures ∙ ap (λ (h : List Entry). behind h entry c.taken_by-taken.result) before ∙ ap (behind c.args.self.now.history entry) c.taken_by-taken.ensures)
    (c.judge_at.ensures.others ∙ ap (λ (hs : List Held). set hs c.args.measure new) was)
    (ap (λ (s : State). s.pending) c.self.view_is ∙ c.requires.none) (subst (λ (s : State). IsTableOf (shown c.args.core.now c.args.policy.now) s.table) (sym c.self.view_is) c.requires.stands.table)
