use Rattle.std.specs.Prelude.{IfSome, Option}
use Rattle.std.specs.List.{list_any}
use Rattle.std.proofs.Common.{◌≡◌, ◌↔◌, ℕ, Bool, true, false, not, List, [], ◌∷◌, ◌++◌, length, drop, get_or, refl, sym, ap, ◌∙◌, subst, arith, eqb}
use Rattle.std.proofs.lemmas.Bool.{false≢true, eqb-true}
use Rattle.std.proofs.lemmas.Result.{IfOk-weaker}
use Rattle.cube_model.specs.declared.link.Link.{Link}
use Rattle.cube_model.specs.Cubes.{IsIn}
use Rattle.cube_model.specs.Reasons as said
use Rattle.cube_source.specs.Blocks.{bare}
use Rattle.cube_reason.specs.declared.joints.Joint.{Joint}
use Rattle.cube_reason.specs.Read.{BeginsWith, BeginsWithNone, GoesOn, ends_by, step_by}
use Rattle.cube_reason.specs.ReasonText.{step_line}
use Rattle.cube_reason.specs.Tied.{AreTies}
use Rattle.cube_reason.proofs.Following.{at_end, at_last, back, behind_short, front_short, further, same_default}
use Rattle.cube_reason.proofs.Lines.{some_step}
use Rattle.cube_reason.proofs.Together.{joints_within}
use Rattle.cube_reason.proofs.reading.reads_walk.Goals as goal

no_bytes : (t : List ℕ) → eqb (length t) 0 ≡ true → t ≡ []
no_bytes [] e = refl
no_bytes (b ∷ t) e = let z = eqb-true (length (b ∷ t)) 0 e in absurd (omega (arith, z))

pub find_step-requires-clause-within : goal.find_step-requires-clause-within
find_step-requires-clause-within c = λ x k.
    let long = c.requires.joints.long in
    let here = c.steps.invariant.below in
    let e = c.as_slice.ensures ∙ c.index-joints-at.is ∙ same_default c.args.joints.now c.steps.at c.index-joints-at.result [] (omega (arith, long, here)) in
    let b = joints_within (length c.args.core.now.shape.points) c.args.ties.now c.args.joints.now c.requires.places c.requires.joints c.steps.at x (subst (IsIn x) e k) in
    omega (arith, b, long)

pub returns-in_default : goal.returns-in_default
returns-in_default c =
    let core = c.args.core.now in
    let long = c.requires.joints.long in
    let below = c.steps.invariant.below in
    let e = c.as_slice.ensures ∙ c.index-joints-at.is ∙ same_default c.args.joints.now c.steps.at c.index-joints-at.result [] (omega (arith, long, below)) in
    let none = subst (λ (js : List Joint). BeginsWithNone core.dims (bare core) js c.steps.at c.steps.rest.now) e (c.in_ok-to.ensures.none c.in_default.is) in
    IfOk-weaker c.has_end.result
    (λ (found : Bool). found ≡ list_any (ends_by core.dims (bare core) c.steps.at c.steps.rest.now) c.args.ties.now)
    (λ (taken : Bool). (named : said.Origin → List Link) → AreTies named c.args.ties.now → (taken ≡ true) ↔ GoesOn core.dims (bare core) named c.args.start false c.args.start c.args.lines.now)
    (λ taken is named are.
    let last = at_last core c.dims-rules.ensures.rules named c.args.start c.args.ties.now c.args.joints.now are c.requires.places c.requires.joints c.requires.few c.steps.odd c.steps.at c.steps.rest.now
    (λ nothing. false≢true (sym c.steps-test.true ∙ c.is_empty.ensures ∙ ap (λ (t : List ℕ). eqb (length t) 0) nothing)) none in
    let read = c.steps.invariant.read named are in
    (λ t. read.0 (last.0 (sym is ∙ t)), λ w. is ∙ last.1 (read.1 w))) c.has_end.ensures

pub after-rest-requires : goal.after-rest-requires
after-rest-requires c =
    let core = c.args.core.now in
    let b : BeginsWith core.dims (bare core) c.as_slice.result.now c.steps.at c.steps.rest.now c.in-Some.to c.in-Some.long = subst (λ (o : Option (ℕ × ℕ)). IfSome o (λ s. BeginsWith core.dims (bare core) c.as_slice.result.now c.steps.at c.steps.rest.now s.0 s.1)) c.in-Some.is c.in_ok-to.ensures.found in
    let short = front_short (step_line core.dims (bare core) (step_by c.steps.at b.joint)) (drop c.in-Some.long c.steps.rest.now) c.steps.rest.now b.front in
    let size = b.size in
    omega (arith, short, size)

pub steps-preserved : goal.steps-preserved
steps-preserved c =
    let core = c.args.core.now in
    let long = c.requires.joints.long in
    let below = c.steps.invariant.below in
    let e = c.as_slice.ensures ∙ c.index-joints-at.is ∙ same_default c.args.joints.now c.steps.at c.index-joints-at.result [] (omega (arith, long, below)) in
    let b : BeginsWith core.dims (bare core) c.as_slice.result.now c.steps.at c.steps.rest.now c.in-Some.to c.in-Some.long = subst (λ (o : Option (ℕ × ℕ)). IfSome o (λ s. BeginsWith core.dims (bare core) c.as_slice.result.now c.steps.at c.steps.rest.now s.0 s.1)) c.in-Some.is c.in_ok-to.ensures.found in
    let among : IsIn b.joint (get_or c.args.joints.now c.steps.at []) = subst (IsIn b.joint) e b.among in
    let there = joints_within (length core.shape.points) c.args.ties.now c.args.joints.now c.requires.places c.requires.joints c.steps.at b.joint among in
    let leads = b.leads in
    let begins : c.steps.rest.now ≡ step_line core.dims (bare core) (step_by c.steps.at b.joint) ++ c.after-rest.result.now = b.front ∙ ap (λ (t : List ℕ). step_line core.dims (bare core) (step_by c.steps.at b.joint) ++ t) (sym c.after-rest.ensures) in
    record {
      below = omega (arith, there, long, leads);
      read = λ named are.
          let read = c.steps.invariant.read named are in (
            λ w. read.0 (back core c.dims-rules.ensures.rules named c.args.start c.args.ties.now c.args.joints.now are c.requires.places c.requires.joints c.requires.few c.steps.odd c.steps.at b.joint c.steps.rest.now c.after-rest.result.now among below begins
                (subst (λ n. GoesOn core.dims (bare core) named c.args.start (not c.steps.odd) n c.after-rest.result.now) b.leads w)),
            λ w. subst (λ n. GoesOn core.dims (bare core) named c.args.start (not c.steps.odd) n c.after-rest.result.now) (sym b.leads)
                (further core c.dims-rules.ensures.rules named c.args.start c.args.ties.now c.args.joints.now are c.requires.places c.requires.joints c.requires.few c.steps.odd c.steps.at b.joint c.steps.rest.now c.after-rest.result.now among below begins (read.1 w)),
          );
    }

pub steps-smaller : goal.steps-smaller
steps-smaller c =
    let core = c.args.core.now in
    let b : BeginsWith core.dims (bare core) c.as_slice.result.now c.steps.at c.steps.rest.now c.in-Some.to c.in-Some.long = subst (λ (o : Option (ℕ × ℕ)). IfSome o (λ s. BeginsWith core.dims (bare core) c.as_slice.result.now c.steps.at c.steps.rest.now s.0 s.1)) c.in-Some.is c.in_ok-to.ensures.found in
    let begins : c.steps.rest.now ≡ step_line core.dims (bare core) (step_by c.steps.at b.joint) ++ c.after-rest.result.now = b.front ∙ ap (λ (t : List ℕ). step_line core.dims (bare core) (step_by c.steps.at b.joint) ++ t) (sym c.after-rest.ensures) in
    behind_short (step_line core.dims (bare core) (step_by c.steps.at b.joint)) c.after-rest.result.now c.steps.rest.now begins (some_step core (step_by c.steps.at b.joint))

pub returns : goal.returns
returns c = λ named are.
    let core = c.args.core.now in
    let nothing : c.steps.rest.now ≡ [] = no_bytes c.steps.rest.now (sym c.is_empty.ensures ∙ c.steps-test.false) in
    let last = at_end core c.dims-rules.ensures.rules named c.args.start c.args.ties.now c.args.joints.now are c.requires.places c.requires.joints c.requires.few c.steps.odd c.steps.at in
    let read = c.steps.invariant.read named are in
    (λ t. read.0 (subst (GoesOn core.dims (bare core) named c.args.start c.steps.odd c.steps.at) (sym nothing) (last.0 (sym c.is_back.ensures ∙ t))), λ w. c.is_back.ensures ∙ last.1 (subst (GoesOn core.dims (bare core) named c.args.start c.steps.odd c.steps.at) nothing (read.1 w)))
