-- Sums of counts, over cuboids and over measures.
use Rattle.std.specs.List.{sum_by, list_any}
use Rattle.std.proofs.Common.{◌≡◌, ℕ, ◌+◌, Bool, true, false, cond, ◌&&◌, ◌||◌, List, [], ◌∷◌, length, filter, map, get_or, refl, sym, ap, ◌∙◌, arith, eqb}
use Rattle.std.proofs.lemmas.Bool.{false≢true}
use Rattle.std.proofs.lemmas.List.{length-map}
use Rattle.std.proofs.lemmas.List.Concat.{length-flat_map}
use Rattle.std.proofs.lemmas.List.Sums.{sum_by-cons, sum_by_push}
use Rattle.cube_model.specs.declared.policy.Method.{Method}
use Rattle.cube_model.specs.declared.policy.Method.TheVariants.{Plain, Lattice, Parity}
use Rattle.cube_model.specs.declared.policy.Object.{Object}
use Rattle.cube_model.specs.declared.policy.Policy.{Policy}
use Rattle.cube_model.specs.Cores.{Core, shown}
use Rattle.cube_model.specs.Cubes.{Public, Each, is_finer, cuboids_below, count_from, places}
use Rattle.cube_model.specs.Dims.{Dims, plains}
use Rattle.cube_model.specs.Protection.{is_lattice, is_guarded, core_cell, protected}
use Rattle.cube_source.specs.Blocks.{bare}
use Rattle.cube_source.specs.Counts.{protected_count, has_source, unless, other_count, under_count, count_over}
use Rattle.cube_source.specs.Objects.{IsPlaced, of_measure, cells_over}
use Rattle.cube_source.proofs.Among.{of_method, lattice_all, parity_all}
use Rattle.cube_source.proofs.Counted.{no_cells, all_counted}
use Rattle.cube_source.proofs.Growing.{number_last}

pub sum_alike : {X : Type 0} (f g : X → ℕ) (xs : List X) → ((x : X) → f x ≡ g x) → sum_by f xs ≡ sum_by g xs
sum_alike f g [] h = refl
sum_alike f g (x ∷ xs) h =
    let a = sum_by-cons f x xs in
    let b = sum_by-cons g x xs in
    let e = h x in
    let r = sum_alike f g xs h in
    omega (arith, a, b, e, r)

pub sum_zero : {X : Type 0} (f : X → ℕ) (xs : List X) → ((x : X) → f x ≡ 0) → sum_by f xs ≡ 0
sum_zero f [] h = refl
sum_zero f (x ∷ xs) h =
    let a = sum_by-cons f x xs in
    let e = h x in
    let r = sum_zero f xs h in
    omega (arith, a, e, r)

sum_two : {X : Type 0} (f g : X → ℕ) (xs : List X) → sum_by (λ x. f x + g x) xs ≡ sum_by f xs + sum_by g xs
sum_two f g [] = refl
sum_two f g (x ∷ xs) =
    let a = sum_by-cons (λ y. f y + g y) x xs in
    let b = sum_by-cons f x xs in
    let c = sum_by-cons g x xs in
    let r = sum_two f g xs in
    omega (arith, a, b, c, r)

-- a sum of sums, in the other order
pub sums_swapped : {X Y : Type 0} (f : X → Y → ℕ) (xs : List X) (ys : List Y) → sum_by (λ x. sum_by (f x) ys) xs ≡ sum_by (λ y. sum_by (λ x. f x y) xs) ys
sums_swapped f [] ys = sym (sum_zero (λ y. sum_by (λ x. f x y) []) ys (λ y. refl))
sums_swapped f (x ∷ xs) ys =
    let a = sum_by-cons (λ z. sum_by (f z) ys) x xs in
    let r = sums_swapped f xs ys in
    let b = sum_two (f x) (λ y. sum_by (λ z. f z y) xs) ys in
    let c = sum_alike (λ y. sum_by (λ z. f z y) (x ∷ xs)) (λ y. f x y + sum_by (λ z. f z y) xs) ys (λ y. sum_by-cons (λ z. f z y) x xs) in
    omega (arith, a, r, b, c)

-- those that pass, and the others
pub sum_split : {X : Type 0} (p : X → Bool) (f : X → ℕ) (xs : List X) → sum_by f xs ≡ sum_by f (filter p xs) + sum_by (λ x. unless (p x) (f x)) xs
sum_split p f [] = refl
sum_split p f (x ∷ xs) = go (p x) refl (sum_split p f xs)
  where
    go : (b : Bool) → p x ≡ b → sum_by f xs ≡ sum_by f (filter p xs) + sum_by (λ x. unless (p x) (f x)) xs → sum_by f (x ∷ xs) ≡ sum_by f (filter p (x ∷ xs)) + sum_by (λ x. unless (p x) (f x)) (x ∷ xs)
    go true e r =
        let a = sum_by-cons f x xs in
        let b = sum_by-cons (λ x. unless (p x) (f x)) x xs in
        let c = sum_by-cons f x (filter p xs) in
        let d = ap (λ (q : Bool). sum_by f (cond q (x ∷ filter p xs) (filter p xs))) e in
        let u = ap (λ (q : Bool). unless q (f x)) e in
        omega (arith, a, b, c, d, u, r)
    go false e r =
        let a = sum_by-cons f x xs in
        let b = sum_by-cons (λ x. unless (p x) (f x)) x xs in
        let d = ap (λ (q : Bool). sum_by f (cond q (x ∷ filter p xs) (filter p xs))) e in
        let u = ap (λ (q : Bool). unless q (f x)) e in
        omega (arith, a, b, d, u, r)

-- the sum over one
pub sum_one : {X : Type 0} (f : X → ℕ) (x : X) → sum_by f (x ∷ []) ≡ f x
sum_one f x = let a = sum_by-cons f x [] in let z : sum_by f [] ≡ 0 = refl in omega (arith, a, z)

-- numbers in order, and one more
pub sum_next : (f : ℕ → ℕ) (k : ℕ) → sum_by f (count_from 0 (k + 1)) ≡ sum_by f (count_from 0 k) + f k
sum_next f k = ap (sum_by f) (number_last k) ∙ sum_by_push f (count_from 0 k) k

-- where no object of one of the measures stands at or above a cuboid, none of its cells is protected
pub none_counted : (g : Public) (os : List Object) (ms : List ℕ) (c : List ℕ) → list_any (λ m. list_any (λ (o : Object). eqb o.measure m && is_finer c o.levels) os) ms ≡ false → 0 ≡ count_over g os ms c
none_counted g os [] c e = refl
none_counted g os (m ∷ ms) c e =
    let p = neither (list_any (λ (o : Object). eqb o.measure m && is_finer c o.levels) os) (list_any (λ m. list_any (λ (o : Object). eqb o.measure m && is_finer c o.levels) os) ms) e in
    let a = sum_by-cons (λ m. length (cells_over g os m c)) m ms in
    let own = no_cells g os m c p.0 in
    let r = none_counted g os ms c p.1 in
    omega (arith, a, own, r)
  where
    neither : (a b : Bool) → (a || b) ≡ false → (a ≡ false) × (b ≡ false)
    neither true b e = absurd (cc)
    neither false b e = (refl, e)

-- the cells of all cuboids, counted cuboid by cuboid for all measures
pub cuboids_counted : (g : Public) (s : Dims) (os : List Object) (ms : List ℕ) → Each (IsPlaced s) os
    → sum_by (count_over g os ms) (cuboids_below (map (λ d. d.levels) (plains s))) ≡ sum_by (under_count g os) ms
cuboids_counted g s os ms placed =
    sums_swapped (λ c m. length (cells_over g os m c)) (cuboids_below (map (λ d. d.levels) (plains s))) ms
    ∙ sum_alike (λ m. sum_by (λ c. length (cells_over g os m c)) (cuboids_below (map (λ d. d.levels) (plains s)))) (under_count g os) ms
    (λ m. sym (length-flat_map (cells_over g os m) (cuboids_below (map (λ d. d.levels) (plains s)))) ∙ all_counted g s os m placed)

-- ---- the measures of a policy

sum_passed : {X : Type 0} (p : X → Bool) (f g : X → ℕ) (xs : List X) → ((x : X) → p x ≡ true → f x ≡ g x) → sum_by f (filter p xs) ≡ sum_by g (filter p xs)
sum_passed p f g [] h = refl
sum_passed p f g (x ∷ xs) h = go (p x) (h x) (sum_passed p f g xs h)
  where
    go : (b : Bool) → (b ≡ true → f x ≡ g x) → sum_by f (filter p xs) ≡ sum_by g (filter p xs) → sum_by f (cond b (x ∷ filter p xs) (filter p xs)) ≡ sum_by g (cond b (x ∷ filter p xs) (filter p xs))
    go true e r =
        let a = sum_by-cons f x (filter p xs) in
        let b = sum_by-cons g x (filter p xs) in
        let own = e refl in
        omega (arith, a, b, own, r)
    go false e r = r

source_is : (w : Method) → is_lattice w ≡ true → w ≡ Lattice
source_is Plain e = absurd (false≢true e)
source_is Lattice e = refl
source_is Parity e = absurd (false≢true e)

pub other_plain : (c : Core) (p : Policy) (m : ℕ) → get_or p.methods m Plain ≡ Plain → 0 ≡ other_count c p m
other_plain c p m e = sym (ap (λ (w : Method). unless (is_lattice w) (length (protected (shown c p) m))) e ∙ ap length (of_method c p m Plain e))

pub other_lattice : (c : Core) (p : Policy) (m : ℕ) → get_or p.methods m Plain ≡ Lattice → 0 ≡ other_count c p m
other_lattice c p m e = sym (ap (λ (w : Method). unless (is_lattice w) (length (protected (shown c p) m))) e)

pub other_parity : (c : Core) (p : Policy) (m : ℕ) → get_or p.methods m Plain ≡ Parity → length (filter (is_guarded (bare c) (of_measure m p.objects)) (places (bare c))) ≡ other_count c p m
other_parity c p m e =
    sym (length-map (filter (is_guarded (bare c) (of_measure m p.objects)) (places (bare c))) (core_cell (bare c)))
    ∙ ap length (parity_all c p m e)
    ∙ sym (ap (λ (w : Method). unless (is_lattice w) (length (protected (shown c p) m))) e)

-- the cells under the source rule and the others are all
pub protected_all : (c : Core) (p : Policy) → sum_by (under_count (bare c) p.objects) (filter (has_source p) (count_from 0 (length p.methods))) + sum_by (other_count c p) (count_from 0 (length p.methods)) ≡ protected_count c p
protected_all c p =
    let ns = count_from 0 (length p.methods) in
    let all = λ (m : ℕ). length (protected (shown c p) m) in
    let own : sum_by (under_count (bare c) p.objects) (filter (has_source p) ns) ≡ sum_by all (filter (has_source p) ns) = sum_passed (has_source p) (under_count (bare c) p.objects) all ns (λ m e. ap length (lattice_all c p m (source_is (get_or p.methods m Plain) e))) in
    let both = sum_split (has_source p) all ns in
    omega (arith, own, both)
