use Rattle.std.proofs.Common.{◌≡◌, true, List, length, Option, sym, subst}
use Rattle.std.proofs.lemmas.Result.{IfOk-weaker}
use Rattle.cube_model.specs.Cores.{shown}
use Rattle.cube_model.specs.Cubes.{IsIn}
use Rattle.cube_model.specs.LinkLaws.{IsOfPlaces}
use Rattle.cube_model.specs.Reasons.{is_walk}
use Rattle.cube_reason.specs.Found.{AreSingles, WalksTo}
use Rattle.cube_reason.specs.Searched.{HasSearched}
use Rattle.cube_reason.specs.Views.{steps_view, end_view}
use Rattle.cube_reason.specs.declared.reasons.End.{End}
use Rattle.cube_reason.specs.declared.reasons.WalkStep.{WalkStep}
use Rattle.cube_reason.proofs.Together.{gathered, gathered_start, gathered_within, can_walk, walks}
use Rattle.cube_reason.proofs.walking.find_walk.Goals as goal

pub joints_of-requires : goal.joints_of-requires
joints_of-requires c = λ t k. subst (λ n. IsOfPlaces n t.link) (sym c.len-many.ensures.len) (c.in_ok-ties.ensures.places t (subst (IsIn t) c.as_slice-all.ensures.value k))

pub search-requires-clause-within : goal.search-requires-clause-within
search-requires-clause-within c =
    let g = shown c.args.case.now.core.now c.args.case.now.policy.now in
    gathered_within g c.args.case.now.history.now c.args.case.now.request.now c.args.measure _ _ (gathered g c.args.case.now.history.now c.args.case.now.request.now c.args.measure _ _ _ _ _ c.in_ok-ties.ensures.ties c.in_ok-ties.ensures.places c.len-many.ensures.len c.as_slice-all.ensures.value c.in_ok-joints.ensures c.as_slice-pairs.ensures.value)

pub search-requires-clause-start : goal.search-requires-clause-start
search-requires-clause-start c =
    let g = shown c.args.case.now.core.now c.args.case.now.policy.now in
    gathered_start g c.args.case.now.history.now c.args.case.now.request.now c.args.measure c.args.place _ _ (gathered g c.args.case.now.history.now c.args.case.now.request.now c.args.measure _ _ _ _ _ c.in_ok-ties.ensures.ties c.in_ok-ties.ensures.places c.len-many.ensures.len c.as_slice-all.ensures.value c.in_ok-joints.ensures c.as_slice-pairs.ensures.value) c.requires.walk

pub singles_of-requires : goal.singles_of-requires
singles_of-requires c = λ t k. subst (λ n. IsOfPlaces n t.link) (sym c.len-many.ensures.len) (c.in_ok-ties.ensures.places t (subst (IsIn t) c.as_slice-all.ensures.value k))

pub walk_by-requires : goal.walk_by-requires
walk_by-requires c =
    let g = shown c.args.case.now.core.now c.args.case.now.policy.now in
    let h = c.args.case.now.history.now in
    let r = c.args.case.now.request.now in
    let m = c.args.measure in
    let a = gathered g h r m _ _ _ _ _ c.in_ok-ties.ensures.ties c.in_ok-ties.ensures.places c.len-many.ensures.len c.as_slice-all.ensures.value c.in_ok-joints.ensures c.as_slice-pairs.ensures.value in
    let alone : AreSingles (length g.shape.points) c.as_slice-all.result.now c.as_slice-2.result.now = subst (AreSingles (length g.shape.points) c.as_slice-all.result.now) (sym c.as_slice-2.ensures.value) (subst (λ n. AreSingles n c.as_slice-all.result.now c.in_ok-singles.singles.items) c.len-many.ensures.len c.in_ok-singles.ensures) in
    let found : HasSearched c.as_slice-pairs.result.now c.args.place c.as_slice.result.now = subst (HasSearched c.as_slice-pairs.result.now c.args.place) (sym c.as_slice.ensures.value) c.in_ok-visits.ensures in
    can_walk g h r m c.args.place c.as_slice-all.result.now c.as_slice-pairs.result.now c.as_slice.result.now c.as_slice-2.result.now a.are a.of_ties a.joint alone found c.requires.walk

pub returns : goal.returns
returns c =
    let g = shown c.args.case.now.core.now c.args.case.now.policy.now in
    let h = c.args.case.now.history.now in
    let r = c.args.case.now.request.now in
    let m = c.args.measure in
    let a = gathered g h r m _ _ _ _ _ c.in_ok-ties.ensures.ties c.in_ok-ties.ensures.places c.len-many.ensures.len c.as_slice-all.ensures.value c.in_ok-joints.ensures c.as_slice-pairs.ensures.value in
    let alone : AreSingles (length g.shape.points) c.as_slice-all.result.now c.as_slice-2.result.now = subst (AreSingles (length g.shape.points) c.as_slice-all.result.now) (sym c.as_slice-2.ensures.value) (subst (λ n. AreSingles n c.as_slice-all.result.now c.in_ok-singles.singles.items) c.len-many.ensures.len c.in_ok-singles.ensures) in
    let found : HasSearched c.as_slice-pairs.result.now c.args.place c.as_slice.result.now = subst (HasSearched c.as_slice-pairs.result.now c.args.place) (sym c.as_slice.ensures.value) c.in_ok-visits.ensures in
    IfOk-weaker c.walk_by.result
    (λ (w : List WalkStep × Option End). WalksTo c.as_slice.result.now c.as_slice-2.result.now c.args.place w.0 w.1)
    (λ (w : List WalkStep × Option End). is_walk g h r m c.args.place (steps_view w.0) (end_view w.1) ≡ true)
    (λ w e. walks g h r m c.args.place c.as_slice-all.result.now c.as_slice-pairs.result.now c.as_slice.result.now c.as_slice-2.result.now a.are a.of_ties a.joint alone found w.0 w.1 c.requires.walk e) c.walk_by.ensures
