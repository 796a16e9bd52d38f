-- The protected cells of a lattice measure stand by object, cuboid number and key.
use Rattle.std.specs.List.{list_all, list_any}
use Rattle.std.specs.Prelude.{⊤}
use Rattle.std.proofs.Common.{◌≡◌, ℕ, zero, suc, ◌+◌, ◌*◌, ◌<◌, ◌≤◌, inl, inr, Bool, true, false, cond, not, ◌&&◌, List, [], ◌∷◌, ◌++◌, map, filter, flat_map, refl, sym, ap, ap₂, ◌∙◌, subst, arith, eqb, ltb, leb, ⊎_elim}
use Rattle.std.proofs.Math.Nat.{mul-le-mul_right, suc-mul}
use Rattle.std.proofs.lemmas.Bool.{false≢true, and_parts, and_from, or_left, or_right, or_cases, eqb-true, ltb-true, lt-ltb, eq-eqb, leb-true, le-leb, not-true}
use Rattle.cube_model.specs.declared.cell.Cell.{Cell}
use Rattle.cube_model.specs.declared.policy.Object.{Object}
use Rattle.cube_model.specs.Cubes.{Dimension, Public, before, in_order, key_at, places, cuboids_below, cuboid_count, cuboid_number, are_levels, count_from, is_finer, same, IsIn, Each, IsIncreasing}
use Rattle.cube_model.specs.Protection.{guards, touched, under, same_cell, each_once, objects_of, protected_by, protected}
use Rattle.cube_model.specs.Meanings.{first_at, rank, ProtectedInOrder}
use Rattle.cube_model.proofs.Members.{tested, IsIn-filter, IsIn-map, IsIn-append, IsIn-flat_map, IsIn-count_from, same_refl}
use Rattle.cube_model.proofs.Numbers.{number_below}
use Rattle.cube_model.proofs.Objects.{below_finer, same_cell_eq}
use Rattle.cube_model.proofs.Orders.{in_order_increasing}
use Rattle.cube_model.proofs.Sources.{IsIn-each_once}
use Rattle.cube_model.proofs.Walks.{any_from, any_has}

-- each element is related to all later ones
abbrev Rising : {X : Type 0} → (X → X → Bool) → List X → Type 0
Rising r [] = ⊤
Rising {X} r (x ∷ xs) = ((y : X) → IsIn y xs → r x y ≡ true) × Rising r xs

rising_append : {X : Type 0} (r : X → X → Bool) (xs ys : List X) → Rising r xs → Rising r ys → ((x y : X) → IsIn x xs → IsIn y ys → r x y ≡ true) → Rising r (xs ++ ys)
rising_append r [] ys a b c = b
rising_append r (x ∷ xs) ys a b c = ((λ y k. ⊎_elim (λ z. a.0 y z) (λ z. c x y (inl refl) z) (IsIn-append y xs ys k)), rising_append r xs ys a.1 b (λ u y k z. c u y (inr k) z))

rising_map : {X Y : Type 0} (f : X → Y) (r : Y → Y → Bool) (xs : List X) → Rising (λ a b. r (f a) (f b)) xs → Rising r (map f xs)
rising_map f r [] a = tt
rising_map f r (x ∷ xs) a = ((λ y k. let z = IsIn-map f y xs k in subst (λ w. r (f x) w ≡ true) z.2 (a.0 z.0 z.1)), rising_map f r xs a.1)

rising_weaken : {X : Type 0} (r q : X → X → Bool) (xs : List X) → ((x y : X) → IsIn x xs → IsIn y xs → r x y ≡ true → q x y ≡ true) → Rising r xs → Rising q xs
rising_weaken r q [] w a = tt
rising_weaken r q (x ∷ xs) w a = ((λ y k. w x y (inl refl) (inr k) (a.0 y k)), rising_weaken r q xs (λ u y k z. w u y (inr k) (inr z)) a.1)

rising_filter : {X : Type 0} (r : X → X → Bool) (p : X → Bool) (xs : List X) → Rising r xs → Rising r (filter p xs)
rising_filter r p [] a = tt
rising_filter r p (x ∷ xs) a = go (p x) (rising_filter r p xs a.1)
  where
    go : (b : Bool) → Rising r (filter p xs) → Rising r (cond b (x ∷ filter p xs) (filter p xs))
    go true again = ((λ y k. a.0 y (IsIn-filter p y xs k).1), again)
    go false again = again

rising_flat_map : {X Y : Type 0} (f : X → List Y) (q : X → X → Bool) (r : Y → Y → Bool) (xs : List X) → Rising q xs → ((x : X) → IsIn x xs → Rising r (f x)) → ((x y : X) (u v : Y) → IsIn x xs → IsIn y xs → q x y ≡ true → IsIn u (f x) → IsIn v (f y) → r u v ≡ true) → Rising r (flat_map f xs)
rising_flat_map f q r [] a b c = tt
rising_flat_map f q r (x ∷ xs) a b c = rising_append r (f x) (flat_map f xs) (b x (inl refl))
    (rising_flat_map f q r xs a.1 (λ y k. b y (inr k)) (λ y z u v k l e s t. c y z u v (inr k) (inr l) e s t))
    (λ u v k l. let z = IsIn-flat_map f v xs l in c x z.0 u v (inl refl) (inr z.1) (a.0 z.0 z.1) k z.2)

rising_count : (s n : ℕ) → Rising ltb (count_from s n)
rising_count s zero = tt
rising_count s (suc n) = ((λ y k. let l : suc s ≤ y = (IsIn-count_from y (suc s) n k).0 in lt-ltb s y (omega arith)), rising_count (suc s) n)

-- ---- keys
from_increasing : (ks : List (List ℕ)) → IsIncreasing ks → Rising before ks
from_increasing [] i = tt
from_increasing (k ∷ ks) i = ((λ y h. at y ks i.0 h), from_increasing ks i.1)
  where
    at : (y : List ℕ) (xs : List (List ℕ)) → list_all (before k) xs ≡ true → IsIn y xs → before k y ≡ true
    at y [] e h = absurd h
    at y (x ∷ xs) e (inl q) = subst (λ z. before k z ≡ true) q (and_parts (before k x) (list_all (before k) xs) e).0
    at y (x ∷ xs) e (inr h) = at y xs (and_parts (before k x) (list_all (before k) xs) e).1 h

to_increasing : (k : Cell → List ℕ) (ts : List Cell) → Rising (λ s t. before (k s) (k t)) ts → IsIncreasing (map k ts)
to_increasing k [] a = tt
to_increasing k (t ∷ ts) a = (all ts a.0, to_increasing k ts a.1)
  where
    all : (us : List Cell) → ((y : Cell) → IsIn y us → before (k t) (k y) ≡ true) → list_all (before (k t)) (map k us) ≡ true
    all [] h = refl
    all (u ∷ us) h = and_from (before (k t) (k u)) (list_all (before (k t)) (map k us)) (h u (inl refl)) (all us (λ y z. h y (inr z)))

before_less : (a b : ℕ) (x y : List ℕ) → ltb a b ≡ true → before (a ∷ x) (b ∷ y) ≡ true
before_less a b x y e = or_left (ltb a b) (eqb a b && before x y) e

before_same : (a : ℕ) (x y : List ℕ) → before x y ≡ true → before (a ∷ x) (a ∷ y) ≡ true
before_same a x y e = or_right (ltb a a) (eqb a a && before x y) (and_from (eqb a a) (before x y) (eq-eqb a a refl) e)

before_suc : (a b : ℕ) (x y : List ℕ) → before (a ∷ x) (b ∷ y) ≡ true → before (suc a ∷ x) (suc b ∷ y) ≡ true
before_suc a b x y e = ⊎_elim
    (λ l. let q : a < b = ltb-true a b l in before_less (suc a) (suc b) x y (lt-ltb (suc a) (suc b) (omega arith)))
    (λ r. let p = and_parts (eqb a b) (before x y) r in subst (λ c. before (suc a ∷ x) (suc c ∷ y) ≡ true) (eqb-true a b p.0) (before_same (suc a) x y p.1))
    (or_cases (ltb a b) (eqb a b && before x y) e)

-- ---- cuboids
pub finer_levels : (ds : List Dimension) (c ls : List ℕ) → is_finer c ls ≡ true → are_levels ds ls ≡ true → are_levels ds c ≡ true
finer_levels [] [] ls f e = refl
finer_levels [] (x ∷ c) [] f e = absurd (false≢true f)
finer_levels [] (x ∷ c) (l ∷ ls) f e = absurd (false≢true e)
finer_levels (d ∷ ds) [] [] f e = absurd (false≢true e)
finer_levels (d ∷ ds) [] (l ∷ ls) f e = absurd (false≢true f)
finer_levels (d ∷ ds) (x ∷ c) [] f e = absurd (false≢true f)
finer_levels (d ∷ ds) (x ∷ c) (l ∷ ls) f e =
    let p = and_parts (leb x l) (is_finer c ls) f in
    let q = and_parts (leb l d.levels) (are_levels ds ls) e in
    let a : x ≤ l = leb-true x l p.0 in
    let b : l ≤ d.levels = leb-true l d.levels q.0 in
    and_from (leb x d.levels) (are_levels ds c) (le-leb x d.levels (omega arith)) (finer_levels ds c ls p.1 q.1)

abbrev lesser_number : List Dimension → List ℕ → List ℕ → Bool
lesser_number ds c k = ltb (cuboid_number ds c) (cuboid_number ds k)

rising_cuboids : (ds : List Dimension) (ls : List ℕ) → are_levels ds ls ≡ true → Rising (lesser_number ds) (cuboids_below ls)
rising_cuboids [] [] e = ((λ y k. absurd k), tt)
rising_cuboids [] (l ∷ ls) e = absurd (false≢true e)
rising_cuboids (d ∷ ds) [] e = absurd (false≢true e)
rising_cuboids (d ∷ ds) (l ∷ ls) e = rising_flat_map (λ a. map (λ rest. a ∷ rest) (cuboids_below ls)) ltb (lesser_number (d ∷ ds)) (count_from 0 (suc l)) (rising_count 0 (suc l))
    (λ a k. rising_map (λ rest. a ∷ rest) (lesser_number (d ∷ ds)) (cuboids_below ls)
    (rising_weaken (lesser_number ds) (λ c k. lesser_number (d ∷ ds) (a ∷ c) (a ∷ k)) (cuboids_below ls)
    (λ c k u v p. more (a * cuboid_count ds) (cuboid_number ds c) (cuboid_number ds k) p)
    (rising_cuboids ds ls rest)))
    (λ a b u v k l q s t. cross a b u v q s t)
  where
    rest : are_levels ds ls ≡ true
    rest = (and_parts (leb l d.levels) (are_levels ds ls) e).1

    more : (w a b : ℕ) → ltb a b ≡ true → ltb (w + a) (w + b) ≡ true
    more w a b p = let q : a < b = ltb-true a b p in lt-ltb (w + a) (w + b) (omega arith)

    apart : (a b c w n k : ℕ) → c ≤ b → c ≡ a + w → n < w → ltb (a + n) (b + k) ≡ true
    apart a b c w n k p r q = lt-ltb (a + n) (b + k) (omega arith)

    cross : (a b : ℕ) (u v : List ℕ) → ltb a b ≡ true → IsIn u (map (λ rest. a ∷ rest) (cuboids_below ls)) → IsIn v (map (λ rest. b ∷ rest) (cuboids_below ls)) → lesser_number (d ∷ ds) u v ≡ true
    cross a b u v q s t =
        let x = IsIn-map (λ rest. a ∷ rest) u (cuboids_below ls) s in
        let y = IsIn-map (λ rest. b ∷ rest) v (cuboids_below ls) t in
        let levels : are_levels ds x.0 ≡ true = finer_levels ds x.0 ls (below_finer ls x.0 x.1) rest in
        let ab : suc a ≤ b = ltb-true a b q in
        let wide : suc a * cuboid_count ds ≤ b * cuboid_count ds = mul-le-mul_right (cuboid_count ds) ab in
        let one_more : suc a * cuboid_count ds ≡ a * cuboid_count ds + cuboid_count ds = suc-mul a (cuboid_count ds) in
        subst (λ z. lesser_number (d ∷ ds) z v ≡ true) x.2 (subst (λ z. lesser_number (d ∷ ds) (a ∷ x.0) z ≡ true) y.2
        (apart (a * cuboid_count ds) (b * cuboid_count ds) (suc a * cuboid_count ds) (cuboid_count ds) (cuboid_number ds x.0) (cuboid_number ds y.0) wide one_more (number_below ds x.0 levels)))

-- ---- one object
place : Public → Cell → List ℕ
place g t = cuboid_number g.dimensions t.levels ∷ t.key

cell : List ℕ → List ℕ → Cell
cell c k = record { levels = c; key = k }

levels_in : (g : Public) (o : Object) (c : List ℕ) (t : Cell) → IsIn t (touched g o c) → c ≡ t.levels
unfolding cell
levels_in g o c t h = ap (λ s. s.levels) (IsIn-map (cell c) t (in_order (map (key_at g c) (filter (guards g o c) (places g)))) h).2

rising_under : (g : Public) (o : Object) → are_levels g.dimensions o.levels ≡ true → Rising (λ s t. before (place g s) (place g t)) (under g o)
unfolding place cell
rising_under g o e = rising_flat_map (touched g o) (lesser_number g.dimensions) (λ s t. before (place g s) (place g t)) (cuboids_below o.levels) (rising_cuboids g.dimensions o.levels e)
    (λ c k. rising_map (cell c) (λ s t. before (place g s) (place g t)) (in_order (map (key_at g c) (filter (guards g o c) (places g))))
    (rising_weaken before (λ x y. before (place g (cell c x)) (place g (cell c y))) (in_order (map (key_at g c) (filter (guards g o c) (places g))))
    (λ x y u v p. before_same (cuboid_number g.dimensions c) x y p)
    (from_increasing (in_order (map (key_at g c) (filter (guards g o c) (places g)))) (in_order_increasing (map (key_at g c) (filter (guards g o c) (places g)))))))
    (λ c k s t u v p a b. before_less (cuboid_number g.dimensions s.levels) (cuboid_number g.dimensions t.levels) s.key t.key
    (subst (λ z. lesser_number g.dimensions z t.levels ≡ true) (levels_in g o c s a) (subst (λ z. lesser_number g.dimensions c z ≡ true) (levels_in g o k t b) p)))

-- ---- all objects
filter_twice : (p q : Cell → Bool) (ts : List Cell) → filter p (filter q ts) ≡ filter (λ t. p t && q t) ts
filter_twice p q [] = refl
filter_twice p q (t ∷ ts) = go (q t) (p t) refl refl (filter_twice p q ts)
  where
    go : (b a : Bool) → q t ≡ b → p t ≡ a → filter p (filter q ts) ≡ filter (λ t. p t && q t) ts → filter p (cond b (t ∷ filter q ts) (filter q ts)) ≡ cond (a && b) (t ∷ filter (λ t. p t && q t) ts) (filter (λ t. p t && q t) ts)
    go true true e f r = ap (λ z. cond z (t ∷ filter p (filter q ts)) (filter p (filter q ts))) f ∙ ap (λ z. t ∷ z) r
    go true false e f r = ap (λ z. cond z (t ∷ filter p (filter q ts)) (filter p (filter q ts))) f ∙ r
    go false true e f r = r
    go false false e f r = r

is_under : Public → Cell → Object → Bool
is_under g t o = list_any (same_cell t) (under g o)

under_has : (g : Public) (o : Object) (t : Cell) → IsIn t (under g o) → is_under g t o ≡ true
unfolding is_under
under_has g o t h = any_has (same_cell t) t (under g o) h (and_from (same t.levels t.levels) (same t.key t.key) (same_refl t.levels) (same_refl t.key))

has_under : (g : Public) (o : Object) (t : Cell) → is_under g t o ≡ true → IsIn t (under g o)
unfolding is_under
has_under g o t e = let a = any_from (same_cell t) (under g o) e in subst (λ s. IsIn s (under g o)) (sym (same_cell_eq t a.0 a.2)) a.1

-- the rank of a cell that the first object protects, and of one that it doesn't
rank_here : (g : Public) (o : Object) (os : List Object) (t : Cell) → is_under g t o ≡ true → rank g (o ∷ os) t ≡ 0 ∷ place g t
unfolding is_under place
rank_here g o os t e = ap (λ b. cond b 0 (suc (first_at (λ o. list_any (same_cell t) (under g o)) os)) ∷ cuboid_number g.dimensions t.levels ∷ t.key) e

rank_later : (g : Public) (o : Object) (os : List Object) (t : Cell) → is_under g t o ≡ false → rank g (o ∷ os) t ≡ suc (first_at (λ o. list_any (same_cell t) (under g o)) os) ∷ place g t
unfolding is_under place
rank_later g o os t e = ap (λ b. cond b 0 (suc (first_at (λ o. list_any (same_cell t) (under g o)) os)) ∷ cuboid_number g.dimensions t.levels ∷ t.key) e

abbrev ranked : Public → List Object → Cell → Cell → Bool
ranked g os s t = before (rank g os s) (rank g os t)

both_here : (g : Public) (o : Object) (os : List Object) (s t : Cell) → is_under g s o ≡ true → is_under g t o ≡ true → before (place g s) (place g t) ≡ true → ranked g (o ∷ os) s t ≡ true
both_here g o os s t a b e = ap₂ before (rank_here g o os s a) (rank_here g o os t b) ∙ before_same 0 (place g s) (place g t) e

here_later : (g : Public) (o : Object) (os : List Object) (s t : Cell) → is_under g s o ≡ true → is_under g t o ≡ false → ranked g (o ∷ os) s t ≡ true
here_later g o os s t a b = ap₂ before (rank_here g o os s a) (rank_later g o os t b) ∙ before_less 0 (suc (first_at (λ o. list_any (same_cell t) (under g o)) os)) (place g s) (place g t) (lt-ltb 0 (suc (first_at (λ o. list_any (same_cell t) (under g o)) os)) (omega arith))

both_later : (g : Public) (o : Object) (os : List Object) (s t : Cell) → is_under g s o ≡ false → is_under g t o ≡ false → ranked g os s t ≡ true → ranked g (o ∷ os) s t ≡ true
unfolding place
both_later g o os s t a b e = ap₂ before (rank_later g o os s a) (rank_later g o os t b) ∙ before_suc (first_at (λ o. list_any (same_cell s) (under g o)) os) (first_at (λ o. list_any (same_cell t) (under g o)) os) (place g s) (place g t) e

-- the cells of the first object, then those that it doesn't protect
rising_once : (g : Public) (o : Object) (os : List Object) (ys : List Cell) → Rising (ranked g os) (each_once ys)
    → (xs : List Cell) → Rising (λ s t. before (place g s) (place g t)) xs → ((t : Cell) → IsIn t xs → is_under g t o ≡ true)
    → (p : Cell → Bool) → ((t : Cell) → IsIn t ys → p t ≡ true → is_under g t o ≡ true → IsIn t xs)
    → Rising (ranked g (o ∷ os)) (filter p (each_once (xs ++ ys)))
rising_once g o os ys later [] up all p only = rising_weaken (ranked g os) (ranked g (o ∷ os)) (filter p (each_once ys))
    (λ s t a b e. both_later g o os s t (out s a) (out t b) e) (rising_filter (ranked g os) p (each_once ys) later)
  where
    out : (t : Cell) → IsIn t (filter p (each_once ys)) → is_under g t o ≡ false
    out t h = let a = IsIn-filter p t (each_once ys) h in tested (is_under g t o) (λ e. absurd (only t (IsIn-each_once t ys a.1) a.0 e)) (λ e. e)
rising_once g o os ys later (x ∷ xs) up all p only = go (p x) (tail (rising_once g o os ys later xs up.1 (λ t h. all t (inr h)) (λ t. p t && not (same_cell x t)) fewer))
  where
    fewer : (t : Cell) → IsIn t ys → (p t && not (same_cell x t)) ≡ true → is_under g t o ≡ true → IsIn t xs
    fewer t h e k = let a = and_parts (p t) (not (same_cell x t)) e in ⊎_elim
        (λ z. absurd (false≢true (sym (not-true (same_cell x t) a.1) ∙ ap (same_cell x) (sym z) ∙ and_from (same x.levels x.levels) (same x.key x.key) (same_refl x.levels) (same_refl x.key))))
        (λ z. z) (only t h a.0 k)

    tail : Rising (ranked g (o ∷ os)) (filter (λ t. p t && not (same_cell x t)) (each_once (xs ++ ys))) → Rising (ranked g (o ∷ os)) (filter p (filter (λ t. not (same_cell x t)) (each_once (xs ++ ys))))
    tail r = subst (Rising (ranked g (o ∷ os))) (sym (filter_twice p (λ t. not (same_cell x t)) (each_once (xs ++ ys)))) r

    first : (t : Cell) → IsIn t (filter p (filter (λ t. not (same_cell x t)) (each_once (xs ++ ys)))) → ranked g (o ∷ os) x t ≡ true
    first t h =
        let a = IsIn-filter p t (filter (λ t. not (same_cell x t)) (each_once (xs ++ ys))) h in
        let b = IsIn-filter (λ t. not (same_cell x t)) t (each_once (xs ++ ys)) a.1 in
        let within : IsIn t xs → ranked g (o ∷ os) x t ≡ true = λ z. both_here g o os x t (all x (inl refl)) (all t (inr z)) (up.0 t z) in
        ⊎_elim within
        (λ z. tested (is_under g t o) (λ e. within (fewer t z (and_from (p t) (not (same_cell x t)) a.0 b.0) e)) (λ e. here_later g o os x t (all x (inl refl)) e))
        (IsIn-append t xs ys (IsIn-each_once t (xs ++ ys) b.1))

    go : (b : Bool) → Rising (ranked g (o ∷ os)) (filter p (filter (λ t. not (same_cell x t)) (each_once (xs ++ ys)))) → Rising (ranked g (o ∷ os)) (cond b (x ∷ filter p (filter (λ t. not (same_cell x t)) (each_once (xs ++ ys)))) (filter p (filter (λ t. not (same_cell x t)) (each_once (xs ++ ys)))))
    go true r = (first, r)
    go false r = r

filter_all : (ts : List Cell) → filter (λ t. true) ts ≡ ts
filter_all [] = refl
filter_all (t ∷ ts) = ap (λ z. t ∷ z) (filter_all ts)

rising_objects : (g : Public) (os : List Object) → Each (λ o. are_levels g.dimensions o.levels ≡ true) os → Rising (ranked g os) (each_once (flat_map (under g) os))
rising_objects g [] a = tt
rising_objects g (o ∷ os) a = subst (Rising (ranked g (o ∷ os))) (filter_all (each_once (under g o ++ flat_map (under g) os)))
    (rising_once g o os (flat_map (under g) os) (rising_objects g os a.1) (under g o) (rising_under g o a.0) (λ t h. under_has g o t h) (λ t. true) (λ t h e k. has_under g o t k))

pub protected_in_order : ProtectedInOrder
unfolding protected
protected_in_order g m way a = subst (λ k. IsIncreasing (map (rank g (objects_of g m)) (protected_by k g m))) (sym way) (to_increasing (rank g (objects_of g m)) (each_once (flat_map (under g) (objects_of g m))) (rising_objects g (objects_of g m) a))
