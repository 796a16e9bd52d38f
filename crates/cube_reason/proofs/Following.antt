-- What is read of the lines of a walk, step by step.
use Rattle.std.specs.List.{list_any, flat_map}
use Rattle.std.specs.Prelude.{Option, Some, None}
use Rattle.std.specs.Str.{bytes_eq}
use Rattle.std.proofs.Common.{◌≡◌, ℕ, ◌+◌, ◌^◌, ◌<◌, ◌≤◌, ◌↔◌, Bool, true, false, not, ◌&&◌, List, [], ◌∷◌, ◌++◌, length, take, get_or, zero, suc, refl, sym, ap, ap₂, ◌∙◌, subst, arith, eqb, append_assoc, length-append, ⊎_elim}
use Rattle.std.proofs.lemmas.Bool.{false≢true, and_parts, and_from, eq-eqb, eqb-true}
use Rattle.std.proofs.Math.Seq.{take-suc}
use Rattle.std.proofs.lemmas.Slice.Eq.{bytes_eq-Decides}
use Rattle.cube_model.specs.declared.link.Link.{Link}
use Rattle.cube_model.specs.declared.link.Link.TheVariants.{Pair, Single}
use Rattle.cube_model.specs.Cores.{Core, IsCore}
use Rattle.cube_model.specs.declared.entry.Entry.{Entry}
use Rattle.cube_model.specs.declared.request.Request.{Request}
use Rattle.cube_model.specs.Cubes.{Public, IsIn}
use Rattle.cube_model.specs.Dims.{Dims}
use Rattle.cube_model.specs.Links.{links}
use Rattle.cube_model.specs.Reasons as said
use Rattle.cube_model.specs.Reasons.{joins, is_at, are_steps, led_to, is_odd, links_by}
use Rattle.cube_model.proofs.Members.{IsIn-append}
use Rattle.cube_model.proofs.Walks.{any_from, any_has}
use Rattle.cube_source.specs.Blocks.{bare}
use Rattle.cube_reason.specs.declared.joints.Joint.{Joint}
use Rattle.cube_reason.specs.declared.reasons.End.{End}
use Rattle.cube_reason.specs.declared.reasons.Origin.{Origin}
use Rattle.cube_reason.specs.declared.reasons.Origin.TheVariants as origins
use Rattle.cube_reason.specs.declared.reasons.WalkStep.{WalkStep}
use Rattle.cube_reason.specs.declared.ties.Bringer.{Bringer}
use Rattle.cube_reason.specs.declared.ties.Bringer.TheVariants as bringers
use Rattle.cube_reason.specs.declared.ties.Tie.{Tie}
use Rattle.cube_reason.specs.Read.{IsFew, AreFew, step_by, end_by, ends_by, BeginsWithNone, differ, ends_behind, GoesOn}
use Rattle.cube_reason.specs.ReasonText.{step_line, end_line}
use Rattle.cube_reason.specs.Tied.{tied, bringer_view, bringer_of, AreTies, OfPlaces, AreJoints}
use Rattle.cube_reason.specs.Views.{origin_by, origin_view, steps_view}
use Rattle.cube_reason.proofs.Lines.{IsSmall, step_told, no_step_nothing, no_step_ends, no_end_nothing}
use Rattle.cube_reason.proofs.Numbers.{brought, own_at, within}
use Rattle.cube_reason.proofs.Steps.{joint_to, joint_named, joint_there}
use Rattle.cube_reason.proofs.Together.{joints_within, joint_tie}

by_view : (b : Bringer) → origin_view (origin_by b) ≡ bringer_view b
by_view (bringers.Entry n) = refl
by_view (bringers.Own k) = refl

by_again : (o : Origin) → origin_by (bringer_of (origin_view o)) ≡ o
by_again (origins.Entry n) = refl
by_again (origins.Own k) = refl

few_small : (b : Bringer) → IsFew b → IsSmall (origin_by b)
few_small (bringers.Entry n) few = few
few_small (bringers.Own k) few = few

differ_back : (a b : Bool) → differ a (not b) ≡ differ (not a) b
differ_back true true = refl
differ_back true false = refl
differ_back false true = refl
differ_back false false = refl

differ_none : (odd : Bool) → differ odd false ≡ odd
differ_none true = refl
differ_none false = refl

module _ (c : Core) (ok : IsCore c) (named : said.Origin → List Link) (start : ℕ) (ties : List Tie) (joints : List (List Joint))
    (are : AreTies named ties) (of_ties : OfPlaces (length c.shape.points) ties) (joint : AreJoints (length c.shape.points) ties joints) (few : AreFew ties) where
  abbrev pub Goes : Bool → ℕ → List ℕ → Type 0
  Goes odd at lines = GoesOn c.dims (bare c) named start odd at lines

  -- a step that origins name is one along a joint
  along : (s : WalkStep) → list_any (joins s.from s.to) (named (origin_view s.by)) ≡ true → IsIn (joint_to s.to (bringer_of (origin_view s.by))) (get_or joints s.from [])
  along s e = joint_there named (length c.shape.points) ties joints are of_ties joint s.from s.to (origin_view s.by) e

  joint_below : (a : ℕ) (x : Joint) → IsIn x (get_or joints a []) → x.to < length c.shape.points
  joint_below a x k = let b = joints_within (length c.shape.points) ties joints of_ties joint a x k in let long = joint.long in omega (arith, b, long)

  joint_few : (a : ℕ) (x : Joint) → IsIn x (get_or joints a []) → IsSmall (origin_by x.by)
  joint_few a x k = let t = joint_tie (length c.shape.points) ties joints of_ties joint a x k in few_small x.by (subst IsFew (sym t.by) (few t.tie t.among))

  step_few : (s : WalkStep) → list_any (joins s.from s.to) (named (origin_view s.by)) ≡ true → IsSmall s.by
  step_few s e = subst IsSmall (by_again s.by) (joint_few s.from (joint_to s.to (bringer_of (origin_view s.by))) (along s e))

  -- one step more or fewer
  turned : (odd : Bool) (s : WalkStep) (steps : List WalkStep) (e : Option End) (at : ℕ) → ends_behind named start odd at (s ∷ steps) e ≡ ends_behind named start (not odd) s.to steps e
  turned odd s steps None at = ap (λ (b : Bool). b && eqb (led_to s.to (steps_view steps)) start) (differ_back odd (is_odd (steps_view steps)))
  turned odd s steps (Some e) at = refl

  module _ (odd : Bool) (at : ℕ) (x : Joint) (lines rest : List ℕ) (among : IsIn x (get_or joints at [])) (below : at < length c.shape.points) (begins : lines ≡ step_line c.dims (bare c) (step_by at x) ++ rest) where
    pub further : Goes odd at lines → Goes (not odd) x.to rest
    further w = go w.steps w.end w.are w.ends (sym begins ∙ w.lines_are)
      where
        go : (steps : List WalkStep) (e : Option End) → are_steps named at (steps_view steps) ≡ true → ends_behind named start odd at steps e ≡ true
            → step_line c.dims (bare c) (step_by at x) ++ rest ≡ flat_map (step_line c.dims (bare c)) steps ++ end_line c.dims (bare c) e → GoesOn c.dims (bare c) named start (not odd) x.to rest
        go [] None a z e = absurd (no_step_nothing c (step_by at x) rest e)
        go [] (Some y) a z e = absurd (no_step_ends c (step_by at x) y rest e)
        go (s ∷ steps) y a z e =
            let p = and_parts (eqb s.from at && list_any (joins s.from s.to) (named (origin_view s.by))) (are_steps named s.to (steps_view steps)) a in
            let q = and_parts (eqb s.from at) (list_any (joins s.from s.to) (named (origin_view s.by))) p.0 in
            let from : at ≡ s.from = sym (eqb-true s.from at q.0) in
            let told = step_told c ok (step_by at x) s rest (flat_map (step_line c.dims (bare c)) steps ++ end_line c.dims (bare c) y) below (joint_below at x among)
            (joint_below s.from (joint_to s.to (bringer_of (origin_view s.by))) (along s q.1)) (joint_few at x among) (step_few s q.1) from
            (e ∙ append_assoc (step_line c.dims (bare c) s) (flat_map (step_line c.dims (bare c)) steps) (end_line c.dims (bare c) y)) in
            let to : s.to ≡ x.to = sym (ap (λ (w : WalkStep). w.to) told.0) in
            record {
              steps = steps;
              end = y;
              are = subst (λ n. are_steps named n (steps_view steps) ≡ true) to p.1;
              ends = subst (λ n. ends_behind named start (not odd) n steps y ≡ true) to (sym (turned odd s steps y at) ∙ z);
              lines_are = told.1;
            }

    pub back : Goes (not odd) x.to rest → Goes odd at lines
    back w =
        let named_so : list_any (joins at x.to) (named (origin_view (origin_by x.by))) ≡ true = subst (λ o. list_any (joins at x.to) (named o) ≡ true) (sym (by_view x.by)) (joint_named named (length c.shape.points) ties joints are of_ties joint at x among) in
        record {
          steps = step_by at x ∷ w.steps;
          end = w.end;
          are = and_from (eqb at at && list_any (joins at x.to) (named (origin_view (origin_by x.by)))) (are_steps named x.to (steps_view w.steps)) (and_from (eqb at at) (list_any (joins at x.to) (named (origin_view (origin_by x.by)))) (eq-eqb at at refl) named_so) w.are;
          ends = turned odd (step_by at x) w.steps w.end at ∙ w.ends;
          lines_are = begins ∙ ap (λ (t : List ℕ). step_line c.dims (bare c) (step_by at x) ++ t) w.lines_are ∙ sym (append_assoc (step_line c.dims (bare c) (step_by at x)) (flat_map (step_line c.dims (bare c)) w.steps) (end_line c.dims (bare c) w.end));
        }

  -- ---- where the lines end

  -- nothing is left
  pub at_end : (odd : Bool) (at : ℕ) → ((odd && eqb at start) ≡ true) ↔ Goes odd at []
  at_end odd at = (
    (λ e. record { steps = []; end = None; are = refl; ends = ap (λ (b : Bool). b && eqb at start) (differ_none odd) ∙ e; lines_are = refl }),
    (λ w. go w.steps w.end w.ends w.lines_are),
  )
    where
      go : (steps : List WalkStep) (e : Option End) → ends_behind named start odd at steps e ≡ true → [] ≡ flat_map (step_line c.dims (bare c)) steps ++ end_line c.dims (bare c) e → (odd && eqb at start) ≡ true
      go [] None z e = sym (ap (λ (b : Bool). b && eqb at start) (differ_none odd)) ∙ z
      go [] (Some y) z e = absurd (no_end_nothing c y e)
      go (s ∷ steps) y z e = absurd (no_step_nothing c s (flat_map (step_line c.dims (bare c)) steps ++ end_line c.dims (bare c) y) (sym (e ∙ append_assoc (step_line c.dims (bare c) s) (flat_map (step_line c.dims (bare c)) steps) (end_line c.dims (bare c) y))))

  at_single : (at : ℕ) (l : Link) → is_at at l ≡ true → l ≡ Single at
  at_single at (Pair i j) e = absurd (false≢true e)
  at_single at (Single i) e = ap Single (eqb-true i at e)

  -- what is left is no step's line
  pub at_last : (odd : Bool) (at : ℕ) (lines : List ℕ) → (lines ≡ [] → ⊥) → BeginsWithNone c.dims (bare c) (get_or joints at []) at lines
      → (list_any (ends_by c.dims (bare c) at lines) ties ≡ true) ↔ Goes odd at lines
  at_last odd at lines some none = (
    (λ e.
        let t = any_from (ends_by c.dims (bare c) at lines) ties e in
        let p = and_parts (is_at at t.0.link) (bytes_eq lines (end_line c.dims (bare c) (Some (end_by at t.0.by)))) t.2 in
        let l : IsIn (Single at) (named (bringer_view t.0.by)) = subst (λ x. IsIn x (named (bringer_view t.0.by))) (at_single at t.0.link p.0) (are.sound t.0 t.1) in
        record {
          steps = [];
          end = Some (end_by at t.0.by);
          are = refl;
          ends = and_from (eqb at at) (list_any (is_at at) (named (origin_view (origin_by t.0.by)))) (eq-eqb at at refl) (subst (λ o. list_any (is_at at) (named o) ≡ true) (sym (by_view t.0.by)) (any_has (is_at at) (Single at) (named (bringer_view t.0.by)) l (eq-eqb at at refl)));
          lines_are = (bytes_eq-Decides lines (end_line c.dims (bare c) (Some (end_by at t.0.by)))).0 p.1;
        }),
    (λ w. go w.steps w.end w.are w.ends w.lines_are),
  )
    where
      go : (steps : List WalkStep) (e : Option End) → are_steps named at (steps_view steps) ≡ true → ends_behind named start odd at steps e ≡ true → lines ≡ flat_map (step_line c.dims (bare c)) steps ++ end_line c.dims (bare c) e
          → list_any (ends_by c.dims (bare c) at lines) ties ≡ true
      go [] None a z e = absurd (some e)
      go [] (Some y) a z e =
          let p = and_parts (eqb y.place at) (list_any (is_at y.place) (named (origin_view y.by))) z in
          let place : y.place ≡ at = eqb-true y.place at p.0 in
          let l = any_from (is_at y.place) (named (origin_view y.by)) p.1 in
          let one : is_at at l.0 ≡ true = subst (λ n. is_at n l.0 ≡ true) place l.2 in
          let t : Tie = tied l.0 (bringer_of (origin_view y.by)) in
          let text : end_line c.dims (bare c) (Some y) ≡ end_line c.dims (bare c) (Some (end_by at (bringer_of (origin_view y.by)))) =
          ap₂ (λ (n : ℕ) (o : Origin). end_line c.dims (bare c) (Some (record { place = n; by = o }))) place (sym (by_again y.by)) in
          any_has (ends_by c.dims (bare c) at lines) t ties (are.complete (origin_view y.by) l.0 l.1)
          (and_from (is_at at l.0) (bytes_eq lines (end_line c.dims (bare c) (Some (end_by at (bringer_of (origin_view y.by)))))) one ((bytes_eq-Decides lines (end_line c.dims (bare c) (Some (end_by at (bringer_of (origin_view y.by)))))).1 (e ∙ text)))
      go (s ∷ steps) y a z e =
          let p = and_parts (eqb s.from at && list_any (joins s.from s.to) (named (origin_view s.by))) (are_steps named s.to (steps_view steps)) a in
          let q = and_parts (eqb s.from at) (list_any (joins s.from s.to) (named (origin_view s.by))) p.0 in
          let from : s.from ≡ at = eqb-true s.from at q.0 in
          let here : IsIn (joint_to s.to (bringer_of (origin_view s.by))) (get_or joints at []) = subst (λ n. IsIn (joint_to s.to (bringer_of (origin_view s.by))) (get_or joints n [])) from (along s q.1) in
          let same : s ≡ step_by at (joint_to s.to (bringer_of (origin_view s.by))) = ap₂ (λ (n : ℕ) (o : Origin). record { from = n; to = s.to; by = o }) from (sym (by_again s.by)) in
          absurd (none (joint_to s.to (bringer_of (origin_view s.by))) (flat_map (step_line c.dims (bare c)) steps ++ end_line c.dims (bare c) y) here
          (e ∙ append_assoc (step_line c.dims (bare c) s) (flat_map (step_line c.dims (bare c)) steps) (end_line c.dims (bare c) y) ∙ ap (λ (w : WalkStep). step_line c.dims (bare c) w ++ (flat_map (step_line c.dims (bare c)) steps ++ end_line c.dims (bare c) y)) same))

-- ---- what is read one after another

-- no line is that of one of the joints so far, nor that of the next
pub none_more : (s : Dims) (g : Public) (joints : List Joint) (i from : ℕ) (d : Joint) (lines : List ℕ) → i < length joints → ((rest : List ℕ) → lines ≡ step_line s g (step_by from (get_or joints i d)) ++ rest → ⊥)
    → BeginsWithNone s g (take i joints) from lines → BeginsWithNone s g (take (i + 1) joints) from lines
none_more s g joints i from d lines l here before x rest k is =
    let one : i + 1 ≡ suc i = omega arith in
    let split : take (i + 1) joints ≡ take i joints ++ get_or joints i d ∷ [] = ap (λ n. take n joints) one ∙ take-suc joints i d l in
    ⊎_elim
    (λ old. before x rest old is)
    (λ new. ⊎_elim (λ same. here rest (is ∙ ap (λ (y : Joint). step_line s g (step_by from y) ++ rest) (sym same))) (λ none. none) new)
    (IsIn-append x (take i joints) (get_or joints i d ∷ []) (subst (IsIn x) split k))

pub same_default : {X : Type 0} (xs : List X) (i : ℕ) (d e : X) → i < length xs → get_or xs i d ≡ get_or xs i e
same_default [] i d e l = absurd (omega (arith, l))
same_default (x ∷ xs) zero d e l = refl
same_default (x ∷ xs) (suc i) d e l = same_default xs i d e (omega (arith, l))

-- a line that a text begins with is no longer than the text
pub front_short : (x rest lines : List ℕ) → lines ≡ x ++ rest → length x ≤ length lines
front_short x rest lines e = let f = ap length e in let a = length-append x rest in omega (arith, f, a)

pub behind_short : (x rest lines : List ℕ) → lines ≡ x ++ rest → 0 < length x → length rest < length lines
behind_short x rest lines e some = let f = ap length e in let a = length-append x rest in omega (arith, f, a, some)

-- a number that names a link is one of a machine word
pub few_of : (g : Public) (h : List Entry) (r : Request) (m : ℕ) → length h < 2 ^ 64 → length (links g r) < 2 ^ 64 → (b : Bringer) (l : Link) → IsIn l (links_by g h r m (bringer_view b)) → IsFew b
few_of g h r m a o (bringers.Entry n) l k = let b = brought g h m n l k in let w = within h n b.entry b.at in omega (arith, a, w)
few_of g h r m a o (bringers.Own n) l k = let w = within (links g r) n l (own_at (links g r) n l k).at in omega (arith, o, w)
