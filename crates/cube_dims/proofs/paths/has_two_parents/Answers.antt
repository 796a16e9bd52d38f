use Rattle.std.proofs.Common.{◌≡◌, ℕ, suc, ◌+◌, ◌-◌, ◌<◌, ◌≤◌, Bool, true, false, not, List, [], get_or, ap, ltb, length, subst, ◌∙◌, sym, refl, arith}
use Rattle.std.specs.Str.{bytes_eq}
use Rattle.std.proofs.lemmas.Bool.{ltb-true, ltb-false}
use Rattle.std.proofs.lemmas.Slice.Eq.{bytes_eq-Decides}
use Rattle.cube_model.specs.Cubes.{names_at, place_of}
use Rattle.cube_model.specs.Dims.{NamedDimension, plain, ancestor_names}
use Rattle.cube_model.proofs.Members.{tested}
use Rattle.cube_model.proofs.DimsFacts.{length-ancestor_names, members_read, length-names_at}
use Rattle.cube_dims.proofs.Hierarchy.{Behind, name_at, first_at, parts_with_first, agrees_with_first}
use Rattle.cube_dims.proofs.paths.has_two_parents.Goals as goal

-- the levels that are compared are those of the dimension
pub record Compared (d : NamedDimension) (kept : List (List (List ℕ))) (level : ℕ) (below above : List (List ℕ)) : Type 0 where
  pub lower : below ≡ names_at (plain d) (level - 1)
  pub upper : above ≡ names_at (plain d) level
  pub named : level < length d.levels

compared : (d : NamedDimension) (kept : List (List (List ℕ))) (level : ℕ) (below above : List (List ℕ)) → kept ≡ ancestor_names d → level < length kept → below ≡ get_or kept (level - 1) below → above ≡ get_or kept level above → Compared d kept level below above
compared d kept level below above k l b a =
    let long = ap length k in
    let levels = length-ancestor_names d in
    record {
      lower = members_read d kept (level - 1) below k (omega (arith, long, levels, l)) b;
      upper = members_read d kept level above k (omega (arith, long, levels, l)) a;
      named = omega (arith, long, levels, l);
    }

-- what the comparison at a level says of the names
told : (d : NamedDimension) (kept : List (List (List ℕ))) (level leaf : ℕ) (below above : List (List ℕ)) (b : Bool) → Compared d kept level below above
    → b ≡ not (bytes_eq (get_or above leaf []) (get_or above (place_of (get_or below leaf []) below) []))
    → not (bytes_eq (name_at d level leaf) (name_at d level (first_at d (level - 1) leaf))) ≡ b
told d kept level leaf below above b s h = sym (h
    ∙ ap (λ (names : List (List ℕ)). not (bytes_eq (get_or names leaf []) (get_or names (place_of (get_or below leaf []) below) []))) s.upper
    ∙ ap (λ (names : List (List ℕ)). not (bytes_eq (name_at d level leaf) (name_at d level (place_of (get_or names leaf []) names)))) s.lower)

not_true : (b : Bool) → not b ≡ true → b ≡ false
not_true true h = sym h
not_true false h = refl

not_false : (b : Bool) → not b ≡ false → b ≡ true
not_false true h = refl
not_false false h = sym h

one_more : (d : NamedDimension) (level leaf : ℕ) → 1 ≤ level → name_at d level leaf ≡ name_at d level (first_at d (level - 1) leaf)
    → ((k : ℕ) → suc k < level → name_at d (suc k) leaf ≡ name_at d (suc k) (first_at d k leaf))
    → (k : ℕ) → suc k < level + 1 → name_at d (suc k) leaf ≡ name_at d (suc k) (first_at d k leaf)
one_more d level leaf one here before k l =
    tested (ltb (suc k) level) (λ t. before k (ltb-true (suc k) level t))
    (λ f. let last = ltb-false (suc k) level f in
    let same : level ≡ suc k = omega (arith, last, l) in
    let under : level - 1 ≡ k = omega (arith, last, l) in
    subst (λ (n : ℕ). name_at d (suc k) leaf ≡ name_at d (suc k) (first_at d n leaf)) under
    (subst (λ (n : ℕ). name_at d n leaf ≡ name_at d n (first_at d (level - 1) leaf)) same here))

pub has_other_parent-requires-clause-below : goal.has_other_parent-requires-clause-below
has_other_parent-requires-clause-below c =
    let s = compared c.args.parts.now c.args.members.now c.loop-level.level c.index-members-level.result c.index-members-level-in-loop-level.result c.requires.members c.loop-level-test.true c.index-members-level.is c.index-members-level-in-loop-level.is in
    let a = ap length s.lower in
    let b = length-names_at c.args.parts.now (c.loop-level.level - 1) in
    omega (arith, a, b, c.requires.leaf)

pub has_other_parent-requires-clause-above : goal.has_other_parent-requires-clause-above
has_other_parent-requires-clause-above c =
    let s = compared c.args.parts.now c.args.members.now c.loop-level.level c.index-members-level.result c.index-members-level-in-loop-level.result c.requires.members c.loop-level-test.true c.index-members-level.is c.index-members-level-in-loop-level.is in
    ap length s.upper ∙ length-names_at c.args.parts.now c.loop-level.level ∙ sym (ap length s.lower ∙ length-names_at c.args.parts.now (c.loop-level.level - 1))

pub returns-then-has_other_parent : goal.returns-then-has_other_parent
returns-then-has_other_parent c =
    let d = c.args.parts.now in
    let level = c.loop-level.level in
    let at : level ≡ suc (level - 1) = omega arith in
    let s = compared d c.args.members.now level c.index-members-level.result c.index-members-level-in-loop-level.result c.requires.members c.loop-level-test.true c.index-members-level.is c.index-members-level-in-loop-level.is in
    let named : suc (level - 1) < length d.levels = subst (λ (n : ℕ). n < length d.levels) at s.named in
    let differs = not_true _ (told d c.args.members.now level c.args.leaf c.index-members-level.result c.index-members-level-in-loop-level.result c.has_other_parent.result s c.has_other_parent.ensures ∙ c.if-has_other_parent.true) in
    let behind : Behind d c.args.leaf = record { below = c.requires.leaf; even = c.requires.even; earlier = c.requires.earlier } in
    sym (parts_with_first d c.args.leaf (level - 1) behind named
    (subst (λ (n : ℕ). bytes_eq (name_at d n c.args.leaf) (name_at d n (first_at d (level - 1) c.args.leaf)) ≡ false) at differs))

pub loop-level-preserved : goal.loop-level-preserved
loop-level-preserved c =
    let d = c.args.parts.now in
    let level = c.loop-level.level in
    let s = compared d c.args.members.now level c.index-members-level.result c.index-members-level-in-loop-level.result c.requires.members c.loop-level-test.true c.index-members-level.is c.index-members-level-in-loop-level.is in
    let same = not_false _ (told d c.args.members.now level c.args.leaf c.index-members-level.result c.index-members-level-in-loop-level.result c.has_other_parent.result s c.has_other_parent.ensures ∙ c.if-has_other_parent.false) in
    one_more d level c.args.leaf (omega arith) ((bytes_eq-Decides _ _).0 same) c.loop-level.invariant

pub returns : goal.returns
returns c =
    let d = c.args.parts.now in
    let behind : Behind d c.args.leaf = record { below = c.requires.leaf; even = c.requires.even; earlier = c.requires.earlier } in
    let long = ap length c.requires.members in
    let levels = length-ancestor_names d in
    sym (agrees_with_first d c.args.leaf behind (λ l named. c.loop-level.invariant l (omega (arith, long, levels, named, c.loop-level-test.false))))
