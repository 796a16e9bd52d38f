use Rattle.std.proofs.Common.{rules, ◌<◌, length, subst}
use Rattle.cube_reason.specs.Found.{EndsAt}
use Rattle.cube_reason.specs.declared.searching.Visit.{Visit}
use Rattle.cube_reason.proofs.walking.walk_by.Goals as goal

pub unreachable-requires : goal.unreachable-requires
unreachable-requires c = c.requires.some (c.first_end.ensures.none c.in-None.is)

pub returns : goal.returns
returns c =
    let below : c.in-Some.number < length c.args.visits.now = search rules in
    record {
      number = c.in-Some.number;
      below = below;
      leads = c.in_ok-steps-in-Some.ensures;
      ends = subst (λ (v : Visit). EndsAt c.args.start c.args.singles.now v c.end_at-end.result) c.visit_with-visit.ensures c.end_at-end.ensures;
    }
