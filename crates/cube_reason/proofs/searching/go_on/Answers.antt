use Rattle.std.proofs.Common.{◌≡◌, List, get_or, [], not, ap, ◌∙◌}
use Rattle.cube_reason.specs.Searched.{visit_at}
use Rattle.cube_reason.specs.declared.searching.Visit.{Visit}
use Rattle.cube_reason.proofs.Searches.{here_is, going_below, going_step, going_end}
use Rattle.cube_reason.proofs.searching.go_on.Goals as goal

pub visit_once-requires : goal.visit_once-requires
visit_once-requires c =
    let from : c.visit_with-from.result ≡ visit_at c.args.visits.now.items c.args.at = c.visit_with-from.ensures ∙ ap (λ (vs : List Visit). visit_at vs c.args.at) c.as_slice.ensures.value in
    let here : c.as_slice-here.result.now ≡ get_or c.args.joints.now (visit_at c.args.visits.now.items c.args.at).place [] = here_is c.args.joints.now c.args.visits.now.items c.args.seen.now.items c.args.at c.visit_with-from.result c.index-joints-from.result c.as_slice-here.result.now c.requires.search c.requires.at from c.index-joints-from.is c.as_slice-here.ensures in
    going_below c.args.joints.now c.args.at c.joints.joint-index c.args.visits.now.items c.joints.visits.items c.joints.seen.items c.as_slice-here.result.now _ (not c.visit_with-from.result.odd) c.requires.within here c.joints-test.true c.joints.invariant

pub joints-preserved : goal.joints-preserved
joints-preserved c =
    let from : c.visit_with-from.result ≡ visit_at c.args.visits.now.items c.args.at = c.visit_with-from.ensures ∙ ap (λ (vs : List Visit). visit_at vs c.args.at) c.as_slice.ensures.value in
    let here : c.as_slice-here.result.now ≡ get_or c.args.joints.now (visit_at c.args.visits.now.items c.args.at).place [] = here_is c.args.joints.now c.args.visits.now.items c.args.seen.now.items c.args.at c.visit_with-from.result c.index-joints-from.result c.as_slice-here.result.now c.requires.search c.requires.at from c.index-joints-from.is c.as_slice-here.ensures in
    going_step c.args.joints.now c.args.at c.joints.joint-index c.args.visits.now.items c.joints.visits.items c.visit_once.new.visits.items c.joints.seen.items c.visit_once.new.seen.items c.as_slice-here.result.now _ c.visit_with-from.result from c.requires.within c.requires.at here c.joints-test.true c.in_ok-visit_once.ensures.visits c.in_ok-visit_once.ensures.seen c.joints.invariant

pub returns : goal.returns
returns c =
    let from : c.visit_with-from.result ≡ visit_at c.args.visits.now.items c.args.at = c.visit_with-from.ensures ∙ ap (λ (vs : List Visit). visit_at vs c.args.at) c.as_slice.ensures.value in
    let here : c.as_slice-here.result.now ≡ get_or c.args.joints.now (visit_at c.args.visits.now.items c.args.at).place [] = here_is c.args.joints.now c.args.visits.now.items c.args.seen.now.items c.args.at c.visit_with-from.result c.index-joints-from.result c.as_slice-here.result.now c.requires.search c.requires.at from c.index-joints-from.is c.as_slice-here.ensures in
    going_end c.args.joints.now c.args.at c.joints.joint-index c.args.visits.now.items c.joints.visits.items c.joints.seen.items c.as_slice-here.result.now c.requires.at here c.joints-test.false c.joints.invariant
