-- The cells of an object that an earlier one contains.
use Rattle.std.specs.List.{list_any, list_all, flat_map}
use Rattle.std.proofs.Common.{◌≡◌, ℕ, ◌+◌, ◌<◌, ◌≤◌, inl, inr, Bool, true, false, cond, ◌&&◌, List, [], ◌∷◌, ◌++◌, length, find, take, get_or, Option, Some, None, refl, sym, ap, ap₂, ◌∙◌, subst, arith, eqb, eqb-true}
use Rattle.std.proofs.lemmas.Bool.{false≢true, and_parts, and_from, leb-true, ltb-true, lt-ltb}
use Rattle.cube_model.specs.declared.cell.Cell.{Cell}
use Rattle.cube_model.specs.declared.policy.Object.{Object}
use Rattle.cube_model.specs.declared.policy.Within.{Within}
use Rattle.cube_model.specs.Cubes.{Public, up, point, is_finer, cuboids_below, IsIn}
use Rattle.cube_model.specs.Protection.{listed, no_dimension, is_within, in_slice, facts_in, has_fewer, touched, under}
use Rattle.cube_model.proofs.Finer.{is_finer_trans}
use Rattle.cube_model.proofs.Members.{filter_has, IsIn-flat_map, flat_map_has}
use Rattle.cube_model.proofs.Objects.{below_finer, finer_below, touched_is, touched_has}
use Rattle.cube_model.proofs.Walks.{any_from, listed_from}
use Rattle.cube_source.specs.Containing.{lists_fewer, is_narrower, is_wider, is_contained}
use Rattle.cube_source.specs.Objects.{of_measure}
use Rattle.cube_source.proofs.Growing.{passed_more, failed_more, flat_last}

all_has : {X : Type 0} (p : X → Bool) (xs : List X) (x : X) → list_all p xs ≡ true → IsIn x xs → p x ≡ true
all_has p [] x e m = absurd m
all_has p (y ∷ ys) x e (inl q) = ap p (sym q) ∙ (and_parts (p y) (list_all p ys) e).0
all_has p (y ∷ ys) x e (inr m) = all_has p ys x (and_parts (p y) (list_all p ys) e).1 m

all_from : {X : Type 0} (p : X → Bool) (xs : List X) → ((x : X) → IsIn x xs → p x ≡ true) → list_all p xs ≡ true
all_from p [] h = refl
all_from p (x ∷ xs) h = and_from (p x) (list_all p xs) (h x (inl refl)) (all_from p xs (λ y m. h y (inr m)))

-- a place in a list is in each that lists as much
within_wider : (g : Public) (i : ℕ) (w v : Within) → lists_fewer w v ≡ true → is_within g i v ≡ true → is_within g i w ≡ true
within_wider g i w v e h =
    let a = and_parts (eqb v.dimension w.dimension && eqb v.level w.level) (list_all (λ x. listed x w.members) v.members) e in
    let b = and_parts (eqb v.dimension w.dimension) (eqb v.level w.level) a.0 in
    let member = λ (d l : ℕ). up (get_or g.dimensions d no_dimension) l (get_or (point g i) d 0) in
    ap₂ (λ (d l : ℕ). listed (member d l) w.members) (sym (eqb-true v.dimension w.dimension b.0)) (sym (eqb-true v.level w.level b.1))
    ∙ all_has (λ x. listed x w.members) v.members (member v.dimension v.level) a.1 (listed_from (member v.dimension v.level) v.members h)

slice_wider : (g : Public) (o e : Object) (i : ℕ) → is_narrower o.slice e.slice ≡ true → in_slice g o i ≡ true → in_slice g e i ≡ true
slice_wider g o e i n h = all_from (is_within g i) e.slice (λ w m.
    let v = any_from (lists_fewer w) o.slice (all_has (λ w. list_any (lists_fewer w) o.slice) e.slice w n m) in
    within_wider g i w v.0 v.2 (all_has (is_within g i) o.slice v.0 h v.1))

-- what has few enough facts for one number has for a greater one
few_wider : (g : Public) (few wide : Option ℕ) (t : Cell) → is_wider few wide ≡ true → has_fewer g few t ≡ true → has_fewer g wide t ≡ true
few_wider g few None t w h = refl
few_wider g None (Some n) t w h = absurd (false≢true w)
few_wider g (Some m) (Some n) t w h = let a : m ≤ n = leb-true m n w in let b : facts_in g t < m = ltb-true (facts_in g t) m h in lt-ltb (facts_in g t) n (omega (arith, a, b))

under_wider : (g : Public) (o e : Object) (t : Cell) → is_finer o.levels e.levels ≡ true → is_narrower o.slice e.slice ≡ true → is_wider o.fewer e.fewer ≡ true → IsIn t (under g o) → IsIn t (under g e)
under_wider g o e t f n w h =
    let c = IsIn-flat_map (touched g o) t (cuboids_below o.levels) h in
    let d = touched_is g o c.0 t c.2 in
    let finer = subst (λ (ls : List ℕ). is_finer ls o.levels ≡ true) d.0 (below_finer o.levels c.0 c.1) in
    flat_map_has (touched g e) t.levels t (cuboids_below e.levels) (finer_below e.levels t.levels (is_finer_trans t.levels o.levels e.levels finer f))
    (touched_has g e t d.1.1.0 (few_wider g o.fewer e.fewer t w d.1.0) d.1.1.1 (slice_wider g o e d.1.1.0 n d.1.1.2) d.1.1.3)

-- ---- searches that find nothing

none_at : {X : Type 0} (p : X → Bool) (xs : List X) (x : X) → find p xs ≡ None → IsIn x xs → p x ≡ false
none_at p [] x e m = absurd m
none_at p (y ∷ ys) x e m = go (p y) refl e m (λ q k. none_at p ys x q k)
  where
    go : (b : Bool) → p y ≡ b → cond b (Some y) (find p ys) ≡ None → IsIn x (y ∷ ys) → (find p ys ≡ None → IsIn x ys → p x ≡ false) → p x ≡ false
    go true q r k again = absurd (cc)
    go false q r (inl s) again = ap p (sym s) ∙ q
    go false q r (inr k) again = again r k

pub none_from : {X : Type 0} (p : X → Bool) (xs : List X) → ((x : X) → IsIn x xs → p x ≡ false) → find p xs ≡ None
none_from p [] h = refl
none_from p (x ∷ xs) h = ap₂ (λ (b : Bool) (r : Option _). cond b (Some x) r) (h x (inl refl)) (none_from p xs (λ y m. h y (inr m)))

none_append : {X : Type 0} (p : X → Bool) (xs ys : List X) → find p xs ≡ None → find p ys ≡ None → find p (xs ++ ys) ≡ None
none_append p [] ys e f = f
none_append p (x ∷ xs) ys e f = go (p x) e (λ q. none_append p xs ys q f)
  where
    go : (b : Bool) → cond b (Some x) (find p xs) ≡ None → (find p xs ≡ None → find p (xs ++ ys) ≡ None) → cond b (Some x) (find p (xs ++ ys)) ≡ None
    go true q r = absurd (cc)
    go false q r = r q

-- where a search finds none of the cells of earlier objects, it finds none of an object that one of these contains
pub none_contained : (g : Public) (p : Cell → Bool) (earlier : List Object) (o : Object) → is_contained earlier o ≡ true → find p (flat_map (under g) (of_measure o.measure earlier)) ≡ None → find p (under g o) ≡ None
none_contained g p earlier o e none =
    let a = any_from (λ (x : Object). ((eqb x.measure o.measure && is_finer o.levels x.levels) && is_narrower o.slice x.slice) && is_wider o.fewer x.fewer) earlier e in
    let w = and_parts ((eqb a.0.measure o.measure && is_finer o.levels a.0.levels) && is_narrower o.slice a.0.slice) (is_wider o.fewer a.0.fewer) a.2 in
    let b = and_parts (eqb a.0.measure o.measure && is_finer o.levels a.0.levels) (is_narrower o.slice a.0.slice) w.0 in
    let d = and_parts (eqb a.0.measure o.measure) (is_finer o.levels a.0.levels) b.0 in
    none_from p (under g o) (λ t m. none_at p (flat_map (under g) (of_measure o.measure earlier)) t none
    (flat_map_has (under g) a.0 t (of_measure o.measure earlier) (filter_has (λ (x : Object). eqb x.measure o.measure) a.0 earlier d.0 a.1) (under_wider g o a.0 t d.1 b.1 w.1 m)))

-- one object more
pub none_more : (g : Public) (p : Cell → Bool) (m : ℕ) (os : List Object) (i : ℕ) (o : Object) → i < length os → o ≡ get_or os i o → eqb o.measure m ≡ true → find p (under g o) ≡ None
    → find p (flat_map (under g) (of_measure m (take i os))) ≡ None → find p (flat_map (under g) (of_measure m (take (i + 1) os))) ≡ None
none_more g p m os i o l is e own none =
    ap (λ (xs : List Object). find p (flat_map (under g) xs)) (passed_more (λ (x : Object). eqb x.measure m) os i o l is e)
    ∙ ap (find p) (flat_last (under g) (of_measure m (take i os)) o)
    ∙ none_append p (flat_map (under g) (of_measure m (take i os))) (under g o) none own

pub none_other : (g : Public) (p : Cell → Bool) (m : ℕ) (os : List Object) (i : ℕ) (o : Object) → i < length os → o ≡ get_or os i o → eqb o.measure m ≡ false
    → find p (flat_map (under g) (of_measure m (take i os))) ≡ None → find p (flat_map (under g) (of_measure m (take (i + 1) os))) ≡ None
none_other g p m os i o l is e none = ap (λ (xs : List Object). find p (flat_map (under g) xs)) (failed_more (λ (x : Object). eqb x.measure m) os i o l is e) ∙ none
