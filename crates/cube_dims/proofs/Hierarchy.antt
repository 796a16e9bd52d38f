-- Paths that agree: what one look at the first leaf of each member tells.
use Rattle.std.proofs.Common.{◌≡◌, ℕ, zero, suc, ◌<◌, ◌≤◌, ◌≢◌, Bool, true, false, not, ◌&&◌, ◌||◌, List, [], ◌∷◌, length, get_or, take, refl, sym, ap, subst, ◌∙◌, ltb, arith}
use Rattle.std.specs.List.{list_any}
use Rattle.std.specs.Str.{bytes_eq}
use Rattle.std.proofs.lemmas.Bool.{false≢true, or_left, or_right, ltb-true, ltb-false}
use Rattle.std.proofs.lemmas.List.{get_or-take, length-take-le, get_or-map}
use Rattle.std.proofs.lemmas.Slice.Eq.{bytes_eq-Decides}
use Rattle.cube_model.specs.Cubes.{names_at, place_of}
use Rattle.cube_model.specs.Dims.{NamedDimension, plain}
use Rattle.cube_model.proofs.Members.{tested}
use Rattle.cube_model.proofs.DimsFacts.{has_at, get_or-place_of, place_of-le, length-names_at}
use Rattle.cube_dims.specs.DimsFile.{parts_ways, AreHierarchy}

bytes_eq_refl : (x : List ℕ) → bytes_eq x x ≡ true
bytes_eq_refl x = (bytes_eq-Decides x x).1 refl

or_false : (a b : Bool) → (a || b) ≡ false → (a ≡ false) × (b ≡ false)
or_false true b h = absurd (false≢true (sym h))
or_false false b h = (refl, h)

pub none_by_index : {X : Type 0} (p : X → Bool) (xs : List X) (d : X) → ((j : ℕ) → j < length xs → p (get_or xs j d) ≡ false) → list_any p xs ≡ false
none_by_index p [] d h = refl
none_by_index p (x ∷ xs) d h = rw (h zero (omega arith)) (none_by_index p xs d (λ j l. h (suc j) (omega (arith, l))))

pub none_at : {X : Type 0} (p : X → Bool) (xs : List X) (d : X) (j : ℕ) → j < length xs → list_any p xs ≡ false → p (get_or xs j d) ≡ false
none_at p [] d j l h = absurd (omega (arith, l))
none_at p (x ∷ xs) d zero l h = (or_false (p x) (list_any p xs) h).0
none_at p (x ∷ xs) d (suc j) l h = none_at p xs d j (omega (arith, l)) (or_false (p x) (list_any p xs) h).1

pub any_at : {X : Type 0} (p : X → Bool) (xs : List X) (d : X) (j : ℕ) → j < length xs → p (get_or xs j d) ≡ true → list_any p xs ≡ true
any_at p [] d j l h = absurd (omega (arith, l))
any_at p (x ∷ xs) d zero l h = or_left (p x) (list_any p xs) h
any_at p (x ∷ xs) d (suc j) l h = or_right (p x) (list_any p xs) (any_at p xs d j (omega (arith, l)) h)

-- ---- two paths

-- paths that do not part ways have one parent for a member of both
pub same_parent : (p q : List (List ℕ)) (l : ℕ) → parts_ways p q ≡ false → suc l < length p → suc l < length q → get_or p l [] ≡ get_or q l [] → get_or p (suc l) [] ≡ get_or q (suc l) []
same_parent [] q l h a b e = absurd (omega (arith, a))
same_parent (x ∷ []) q l h a b e = absurd (omega (arith, a))
same_parent (x ∷ x' ∷ p) [] l h a b e = absurd (omega (arith, b))
same_parent (x ∷ x' ∷ p) (y ∷ []) l h a b e = absurd (omega (arith, b))
same_parent (x ∷ x' ∷ p) (y ∷ y' ∷ q) zero h a b e =
    let k = (or_false (bytes_eq x y && not (bytes_eq x' y')) (parts_ways (x' ∷ p) (y' ∷ q)) h).0 in
    tested (bytes_eq x' y') (λ t. (bytes_eq-Decides x' y').0 t) (λ t. absurd (false≢true (sym k ∙ rw ((bytes_eq-Decides x y).1 e, t) refl)))
same_parent (x ∷ x' ∷ p) (y ∷ y' ∷ q) (suc l) h a b e = same_parent (x' ∷ p) (y' ∷ q) l (or_false (bytes_eq x y && not (bytes_eq x' y')) (parts_ways (x' ∷ p) (y' ∷ q)) h).1 (omega (arith, a)) (omega (arith, b)) e

-- and paths that have it do not part ways
goes_on : (p q : List (List ℕ)) → ((l : ℕ) → suc l < length p → suc l < length q → get_or p l [] ≡ get_or q l [] → get_or p (suc l) [] ≡ get_or q (suc l) []) → parts_ways p q ≡ false
goes_on [] q h = refl
goes_on (x ∷ []) q h = refl
goes_on (x ∷ x' ∷ p) [] h = refl
goes_on (x ∷ x' ∷ p) (y ∷ []) h = refl
goes_on (x ∷ x' ∷ p) (y ∷ y' ∷ q) h =
    let rest : parts_ways (x' ∷ p) (y' ∷ q) ≡ false = goes_on (x' ∷ p) (y' ∷ q) (λ l a b e. h (suc l) (omega (arith, a)) (omega (arith, b)) e) in
    tested (bytes_eq x y)
    (λ t. let up : x' ≡ y' = h zero (omega arith) (omega arith) ((bytes_eq-Decides x y).0 t) in rw (t, (bytes_eq-Decides x' y').1 up, rest) refl)
    (λ f. rw (f, rest) refl)

-- ---- a path behind paths that agree

-- the name of a leaf's ancestor
abbrev pub name_at : NamedDimension → ℕ → ℕ → List ℕ
name_at d l i = get_or (names_at (plain d) l) i []

-- the first leaf with the same ancestor
abbrev pub first_at : NamedDimension → ℕ → ℕ → ℕ
first_at d l i = place_of (name_at d l i) (names_at (plain d) l)

pub name_of_path : (d : NamedDimension) (l i : ℕ) → i < length d.paths → name_at d l i ≡ get_or (get_or d.paths i []) l []
name_of_path d l i h = get_or-map (λ path. get_or path l []) d.paths i [] [] h

pub in_range : (d : NamedDimension) (l i : ℕ) → i < length d.paths → i < length (names_at (plain d) l)
in_range d l i h = let k = length-names_at d l in omega (arith, h, k)

-- the ancestor of the first leaf is the ancestor
first_name : (d : NamedDimension) (l i : ℕ) → i < length d.paths → name_at d l (first_at d l i) ≡ name_at d l i
first_name d l i h = get_or-place_of (name_at d l i) (names_at (plain d) l) (has_at (names_at (plain d) l) i (in_range d l i h))

first_le : (d : NamedDimension) (l i j : ℕ) → j < length d.paths → name_at d l j ≡ name_at d l i → first_at d l i ≤ j
first_le d l i j h e = place_of-le (name_at d l i) (names_at (plain d) l) j (in_range d l j h) e

pub record Behind (d : NamedDimension) (i : ℕ) : Type 0 where
  pub below : i < length d.paths
  pub even : length (get_or d.paths i []) ≡ length d.levels
  pub earlier : AreHierarchy (length d.levels) (take i d.paths)

even_before : (d : NamedDimension) (i j : ℕ) → Behind d i → j < i → length (get_or d.paths j []) ≡ length d.levels
even_before d i j s l =
    let long = length-take-le i d.paths (let b = s.below in omega (arith, b)) in
    ap length (sym (get_or-take i d.paths j [] l)) ∙ s.earlier.even j (omega (arith, long, l))

-- where the parent of some member is another than that of its first leaf, the path parts ways with that leaf's
pub parts_with_first : (d : NamedDimension) (i l : ℕ) → Behind d i → suc l < length d.levels → bytes_eq (name_at d (suc l) i) (name_at d (suc l) (first_at d l i)) ≡ false → list_any (parts_ways (get_or d.paths i [])) (take i d.paths) ≡ true
parts_with_first d i l s h differs =
    let within = s.below in
    let f = first_at d l i in
    let not_later : first_at d l i ≤ i = first_le d l i i s.below refl in
    let other : first_at d l i ≢ i = λ same. false≢true (sym differs ∙ ap (λ (n : ℕ). bytes_eq (name_at d (suc l) i) (name_at d (suc l) n)) same ∙ bytes_eq_refl (name_at d (suc l) i)) in
    let before : first_at d l i < i = omega arith in
    let long = length-take-le i d.paths (omega arith) in
    let even = even_before d i (first_at d l i) s before in
    let even_i = s.even in
    let here : get_or (get_or d.paths i []) l [] ≡ get_or (get_or d.paths (first_at d l i) []) l [] =
    sym (name_of_path d l i s.below) ∙ sym (first_name d l i s.below) ∙ name_of_path d l (first_at d l i) (omega arith) in
    any_at (parts_ways (get_or d.paths i [])) (take i d.paths) [] (first_at d l i) (omega (arith, long, before))
    (ap (parts_ways (get_or d.paths i [])) (get_or-take i d.paths (first_at d l i) [] before)
    ∙ tested (parts_ways (get_or d.paths i []) (get_or d.paths (first_at d l i) []))
    (λ t. t)
    (λ n. absurd (false≢true (sym differs ∙ (bytes_eq-Decides (name_at d (suc l) i) (name_at d (suc l) (first_at d l i))).1
    (name_of_path d (suc l) i s.below
    ∙ same_parent (get_or d.paths i []) (get_or d.paths (first_at d l i) []) l n (omega (arith, even_i, h)) (omega (arith, even, h)) here
    ∙ sym (name_of_path d (suc l) (first_at d l i) (omega arith)))))))

-- the parent at an earlier leaf of a member is that at the member's first leaf
to_first : (d : NamedDimension) (i j l : ℕ) → Behind d i → j < i → suc l < length d.levels → name_at d l j ≡ name_at d l i → name_at d (suc l) j ≡ name_at d (suc l) (first_at d l i)
to_first d i j l s before named alike =
    let within = s.below in
    let not_later : first_at d l i ≤ j = first_le d l i j (omega arith) alike in
    tested (ltb (first_at d l i) j)
    (λ t. let sooner : first_at d l i < j = ltb-true (first_at d l i) j t in
    let long = length-take-le i d.paths (omega arith) in
    let even_j = even_before d i j s before in
    let even_f = even_before d i (first_at d l i) s (omega arith) in
    let agree = subst (λ p. parts_ways p (get_or (take i d.paths) (first_at d l i) []) ≡ false) (get_or-take i d.paths j [] before) (s.earlier.agree (first_at d l i) j sooner (omega (arith, long, before))) in
    let agree' = subst (λ p. parts_ways (get_or d.paths j []) p ≡ false) (get_or-take i d.paths (first_at d l i) [] (omega arith)) agree in
    name_of_path d (suc l) j (omega arith)
    ∙ same_parent (get_or d.paths j []) (get_or d.paths (first_at d l i) []) l agree' (omega (arith, even_j, named)) (omega (arith, even_f, named))
    (sym (name_of_path d l j (omega arith)) ∙ alike ∙ sym (first_name d l i s.below) ∙ name_of_path d l (first_at d l i) (omega arith))
    ∙ sym (name_of_path d (suc l) (first_at d l i) (omega arith)))
    (λ f. let same : j ≡ first_at d l i = (let le = ltb-false (first_at d l i) j f in omega (arith, le, not_later)) in ap (λ (n : ℕ). name_at d (suc l) n) same)

-- where each parent is that of the first leaf, it parts ways with none
pub agrees_with_first : (d : NamedDimension) (i : ℕ) → Behind d i → ((l : ℕ) → suc l < length d.levels → name_at d (suc l) i ≡ name_at d (suc l) (first_at d l i)) → list_any (parts_ways (get_or d.paths i [])) (take i d.paths) ≡ false
agrees_with_first d i s agrees =
    let within = s.below in
    let long = length-take-le i d.paths (omega arith) in
    let even_i = s.even in
    none_by_index (parts_ways (get_or d.paths i [])) (take i d.paths) []
    (λ j k. let before : j < i = omega (arith, k, long) in
    let even_j = even_before d i j s before in
    ap (parts_ways (get_or d.paths i [])) (get_or-take i d.paths j [] before)
    ∙ goes_on (get_or d.paths i []) (get_or d.paths j []) (λ l a b e.
    let named : suc l < length d.levels = omega (arith, a, even_i) in
    let alike : name_at d l j ≡ name_at d l i = name_of_path d l j (omega arith) ∙ sym e ∙ sym (name_of_path d l i s.below) in
    sym (name_of_path d (suc l) i s.below) ∙ agrees l named
    ∙ sym (to_first d i j l s before named alike)
    ∙ name_of_path d (suc l) j (omega arith)))
