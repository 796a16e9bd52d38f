use Rattle.std.proofs.Common.{◌≡◌, ℕ, [], List, length, sym, ap, ◌∙◌, subst, arith, flat_map, get_or, set, Option}
use Rattle.cube_model.specs.declared.answer.Row.{Row}
use Rattle.cube_model.specs.declared.link.Link.{Link}
use Rattle.cube_model.specs.declared.policy.Policy.{Policy}
use Rattle.cube_model.specs.declared.request.Request.{Request}
use Rattle.cube_model.specs.declared.verdict.Verdict.{Verdict}
use Rattle.cube_model.specs.Entries.{requests}
use Rattle.cube_model.specs.Cores.{shown}
use Rattle.cube_model.specs.Links.{linked, links}
use Rattle.cube_admit.specs.declared.held.Held.{Held}
use Rattle.cube_admit.specs.declared.held.Held.TheVariants as held
use Rattle.cube_admit.specs.Linking.{IsLinks, HeldJudged, marked}
use Rattle.cube_admit.specs.States.{State}
use Rattle.cube_admit.proofs.Few.{links_few}
use Rattle.cube_admit.proofs.state.State.judge_links.Goals as goal

abbrev none : Policy
none = record { methods = []; objects = [] }

pub judge_at-requires-clause-links : goal.judge_at-requires-clause-links
unfolding links
judge_at-requires-clause-links c =
    let said : c.in_ok-links.links ≡ links (shown c.args.core.now none) c.args.request.now = c.in_ok-links.ensures.links ∙ ap (flat_map (λ (row : Row). linked row.places)) (c.in_ok-rows.ensures.rows none) in
    let at = subst (λ (s : State). IsLinks (get_or s.held c.args.measure held.Open) (links (shown c.args.core.now none) c.args.request.now)) (sym c.self.view_is) (c.requires.links none) in
    subst (IsLinks (get_or c.self.inside.held.items c.args.measure held.Open)) (sym said) at

pub judge_at-requires-clause-few : goal.judge_at-requires-clause-few
unfolding links
judge_at-requires-clause-few c =
    let said : c.in_ok-links.links ≡ links (shown c.args.core.now none) c.args.request.now = c.in_ok-links.ensures.links ∙ ap (flat_map (λ (row : Row). linked row.places)) (c.in_ok-rows.ensures.rows none) in
    let few = links_few (shown c.args.core.now none) c.args.request.now in
    let small = c.dims-rules.ensures.rules.few_points in
    let long : length c.in_ok-links.links ≡ length (links (shown c.args.core.now none) c.args.request.now) = ap length said in
    omega (arith, few, small, long)

pub returns-clause-judged : goal.returns-clause-judged
unfolding links
returns-clause-judged c p =
    let said : c.in_ok-links.links ≡ links (shown c.args.core.now p) c.args.request.now = c.in_ok-links.ensures.links ∙ ap (flat_map (λ (row : Row). linked row.places)) (c.in_ok-rows.ensures.rows p) in
    let asked : c.self.inside.asked ≡ length (requests c.args.self.now.history) = sym c.self.invariant.0 ∙ ap (λ (s : State). length (requests s.history)) c.self.view_is in
    let was : c.self.inside.held.items ≡ c.args.self.now.held = ap (λ (s : State). s.held) c.self.view_is in
    let new = get_or c.judge_at.new.held.items c.args.measure held.Open in
    let given : Verdict × Option ℕ = (c.in_ok-verdict.verdict, c.in_ok-verdict.mark) in
    record {
      mark = c.in_ok-verdict.mark;
      history = c.reserve.ensures.items ∙ ap (λ (s : State). s.history) c.self.view_is;
      others = c.judge_at.ensures.others ∙ ap (λ (hs : List Held). set hs c.args.measure new) was;
      judged = subst (λ (hs : List Held). HeldJudged (get_or hs c.args.measure held.Open) new (length (requests c.args.self.now.history)) (links (shown c.args.core.now p) c.args.request.now) given) was (subst (λ (n : ℕ). HeldJudged (get_or c.self.inside.held.items c.args.measure held.Open) new n (links (shown c.args.core.now p) c.args.request.now) given) asked (subst (λ (ls : List Link). HeldJudged (get_or c.self.inside.held.items c.args.measure held.Open) new c.self.inside.asked ls given) said c.in_ok-verdict.ensures.judged));
      waits = c.wait.ensures ∙ ap (λ (r : Request). marked r c.args.measure c.in_ok-verdict.mark) c.in_ok-request.ensures;
      table = ap (λ (s : State). s.table) c.self.view_is;
    }
