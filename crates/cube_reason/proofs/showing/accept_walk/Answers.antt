use Rattle.std.proofs.Common.{◌≡◌, ◌^◌, ◌<◌, ◌↔◌, Bool, true, false, List, length, sym, subst, arith}
use Rattle.std.proofs.lemmas.Result.{IfOk-weaker}
use Rattle.cube_model.specs.declared.link.Link.{Link}
use Rattle.cube_model.specs.Cores.{shown}
use Rattle.cube_model.specs.Cubes.{IsIn}
use Rattle.cube_model.specs.Links.{links}
use Rattle.cube_model.specs.LinkLaws.{IsOfPlaces}
use Rattle.cube_model.specs.Reasons as said
use Rattle.cube_model.specs.Reasons.{links_by}
use Rattle.cube_source.specs.Blocks.{bare}
use Rattle.cube_reason.specs.Read.{GoesOn}
use Rattle.cube_reason.specs.Showing.{HasLines}
use Rattle.cube_reason.specs.Tied.{AreTies}
use Rattle.cube_reason.proofs.Few.{links_few}
use Rattle.cube_reason.proofs.Following.{few_of}
use Rattle.cube_reason.proofs.Only.{shown_walk, walk_shown}
use Rattle.cube_reason.proofs.Refusals.{walk_there}
use Rattle.cube_reason.proofs.Together.{walk_start}
use Rattle.cube_reason.proofs.showing.accept_walk.Goals as goal

pub joints_of-requires : goal.joints_of-requires
joints_of-requires c = λ t k. subst (λ n. IsOfPlaces n t.link) (sym c.len.ensures.len) (c.in_ok-ties.ensures.places t (subst (IsIn t) c.as_slice-all.ensures.value k))

pub reads_walk-requires-clause-start : goal.reads_walk-requires-clause-start
reads_walk-requires-clause-start c =
    let g = shown c.args.case.now.core.now c.args.case.now.policy.now in
    walk_start g c.args.case.now.history.now c.args.case.now.request.now c.args.measure c.args.place (walk_there g c.args.case.now.history.now c.args.case.now.request.now c.args.measure c.args.verdict.now c.args.place c.requires.judged.admissible c.requires.what c.requires.judged.verdict c.requires.place).has

pub reads_walk-requires-clause-places : goal.reads_walk-requires-clause-places
reads_walk-requires-clause-places c = λ t k. c.in_ok-ties.ensures.places t (subst (IsIn t) c.as_slice-all.ensures.value k)

pub reads_walk-requires-clause-few : goal.reads_walk-requires-clause-few
reads_walk-requires-clause-few c = λ t k.
    let g = shown c.args.case.now.core.now c.args.case.now.policy.now in
    let few = links_few g c.args.case.now.request.now in
    let points = c.len.ensures.rules.few_points in
    let own : length (links g c.args.case.now.request.now) < 2 ^ 64 = omega (arith, few, points) in
    let is = c.count-many.ensures in
    let fits = c.count-many.type_inv in
    let many : length c.args.case.now.history.now < 2 ^ 64 = omega (arith, is, fits) in
    few_of g c.args.case.now.history.now c.args.case.now.request.now c.args.measure many own t.by t.link (c.in_ok-ties.ensures.ties.sound t (subst (IsIn t) c.as_slice-all.ensures.value k))

pub returns : goal.returns
returns c =
    let core = c.args.case.now.core.now in
    let g = shown core c.args.case.now.policy.now in
    let h = c.args.case.now.history.now in
    let r = c.args.case.now.request.now in
    let m = c.args.measure in
    IfOk-weaker c.reads_walk.result
    (λ (taken : Bool). (named : said.Origin → List Link) → AreTies named c.as_slice-all.result.now → (taken ≡ true) ↔ GoesOn core.dims (bare core) named c.args.place false c.args.place c.args.lines.now)
    (λ (taken : Bool). (taken ≡ true) ↔ HasLines core.dims g h r c.args.verdict.now c.args.lines.now)
    (λ taken f.
    let w = f (links_by g h r m) (subst (AreTies (links_by g h r m)) (sym c.as_slice-all.ensures.value) c.in_ok-ties.ensures.ties) in (
      λ t. walk_shown core c.args.case.now.policy.now h r m c.args.verdict.now c.args.place c.args.lines.now c.requires.judged.admissible c.requires.what c.requires.judged.verdict c.requires.place (w.0 t),
      λ x. w.1 (shown_walk core c.args.case.now.policy.now h r m c.args.verdict.now c.args.place c.args.lines.now c.requires.judged.admissible c.requires.what c.requires.judged.verdict c.requires.place x),
    )) c.reads_walk.ensures
