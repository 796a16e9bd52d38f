-- One dimension of the old cube, and the one of the new cube that has its name.
use Rattle.std.specs.List.{list_all, list_any}
use Rattle.std.proofs.Common.{◌≡◌, ℕ, zero, suc, ◌<◌, ◌≤◌, ◌⊎◌, ◌↔◌, inl, inr, true, List, [], ◌∷◌, length, map, get_or, refl, sym, ap, ap₂, ◌∙◌, subst, arith, eq-eqb}
use Rattle.std.proofs.lemmas.Bool.{false≢true, and_parts}
use Rattle.std.proofs.lemmas.List.{get_or-map}
use Rattle.std.proofs.lemmas.Slice.Eq.{bytes_eq-Decides}
use Rattle.cube_model.specs.Cubes.{up, same, distinct, place_of, names_at, IsIn, Each}
use Rattle.cube_model.specs.Dims.{NamedDimension, AreDistinct, plain, members}
use Rattle.cube_model.proofs.DimsFacts.{Has, has_at, place_of-own, get_or-place_of, up-named, up-all, length-names_at, list_any-distinct, same_number}
use Rattle.cube_model.proofs.Members.{same_eq}
use Rattle.cube_model.proofs.Parities.{all_at}
use Rattle.cube_model.proofs.Sources.{Each-get_or}
use Rattle.cube_model.proofs.Walks.{any_from}
use Rattle.cube_carry.specs.Names.{carried_member}
use Rattle.cube_carry.specs.Continues.{same_texts}
use Rattle.cube_model.proofs.Bases.{below_or}

-- ---- lists
pub texts_eq : (xs ys : List (List ℕ)) → same_texts xs ys ≡ true → xs ≡ ys
texts_eq [] [] e = refl
texts_eq [] (y ∷ ys) e = absurd (false≢true e)
texts_eq (x ∷ xs) [] e = absurd (false≢true e)
texts_eq (x ∷ xs) (y ∷ ys) e = let p = and_parts (same x y) (same_texts xs ys) e in ap₂ (λ z zs. z ∷ zs) (same_eq x y p.0) (texts_eq xs ys p.1)

-- an element stands somewhere
pub stands : {X : Type 0} (x d : X) (xs : List X) → IsIn x xs → (i : ℕ) × (i < length xs) × (get_or xs i d ≡ x)
stands x d [] h = absurd h
stands x d (y ∷ ys) (inl e) = (0, omega arith, e)
stands x d (y ∷ ys) (inr k) = let r = stands x d ys k in let l : r.0 < length ys = r.1 in (suc r.0, omega arith, r.2)

pub in_at : {X : Type 0} (d : X) (xs : List X) (i : ℕ) → i < length xs → IsIn (get_or xs i d) xs
in_at d [] i l = absurd (omega (arith, l))
in_at d (x ∷ xs) zero l = inl refl
in_at d (x ∷ xs) (suc i) l = inr (in_at d xs i (omega (arith, l)))

-- ---- one dimension
-- what a dimension of a world keeps to
pub record IsPlain (d : NamedDimension) : Type 0 where
  pub named : 0 < length d.levels
  pub even : Each (λ path. length path ≡ length d.levels) d.paths
  pub once : AreDistinct (names_at (plain d) 0)

-- the name at a level of a leaf
abbrev pub name_of : NamedDimension → ℕ → ℕ → List ℕ
name_of d l x = get_or (get_or d.paths x []) l []

pub name_at_is : (d : NamedDimension) (l x : ℕ) → x < length d.paths → get_or (names_at (plain d) l) x [] ≡ name_of d l x
name_at_is d l x h = get_or-map (λ path. get_or path l []) d.paths x [] [] h

pub beyond : {X : Type 0} (xs : List X) (i : ℕ) (d : X) → length xs ≤ i → get_or xs i d ≡ d
beyond [] i d h = refl
beyond (x ∷ xs) zero d h = absurd (omega (arith, h))
beyond (x ∷ xs) (suc i) d h = beyond xs i d (omega (arith, h))

-- behind the named levels each leaf has the empty name
no_name : (d : NamedDimension) (l x : ℕ) → IsPlain d → x < length d.paths → length d.levels ≤ l → name_of d l x ≡ []
no_name d l x ok h k = let e : length (get_or d.paths x []) ≡ length d.levels = Each-get_or (λ path. length path ≡ length d.levels) d.paths x [] ok.even h in beyond (get_or d.paths x []) l [] (omega (arith, e, k))

-- the number at a level is that of the name, at `all` too
pub up_is : (d : NamedDimension) (l x : ℕ) → IsPlain d → x < length d.paths → up (plain d) l x ≡ place_of (name_of d l x) (members d l)
up_is d l x ok h = cases (below_or l (length d.levels))
  where
    first_place : (ps : List (List (List ℕ))) → ps ≡ d.paths → 0 < length ps → length d.levels ≤ l → place_of [] (distinct (map (λ path. get_or path l []) ps)) ≡ 0
    first_place [] e b k = absurd (omega (arith, b))
    first_place (p ∷ ps) e b k =
        let q : get_or p l [] ≡ [] = ap (λ qs. get_or (get_or qs 0 []) l []) e ∙ no_name d l 0 ok (subst (λ qs. 0 < length qs) e b) k in
        rw q refl

    cases : (l < length d.levels) ⊎ (length d.levels ≤ l) → up (plain d) l x ≡ place_of (name_of d l x) (members d l)
    cases (inl k) = up-named d l x ok.once k h ∙ ap (λ z. place_of z (members d l)) (name_at_is d l x h)
    cases (inr k) = up-all d l x k ∙ sym (ap (λ z. place_of z (members d l)) (no_name d l x ok h k) ∙ first_place d.paths refl (omega (arith, h)) k)

-- two leaves have one member at a level exactly where they have one name there
pub up_names : (d : NamedDimension) (l x y : ℕ) → IsPlain d → x < length d.paths → y < length d.paths → (up (plain d) l x ≡ up (plain d) l y) ↔ (name_of d l x ≡ name_of d l y)
up_names d l x y ok a b = (
  (λ e. sym (name_at_is d l x a) ∙ (bytes_eq-Decides (get_or names x []) (get_or names y [])).0 (sym (same_number names x y (omega (arith, long, a)) (omega (arith, long, b))) ∙ eq-eqb (place_of (get_or names x []) (distinct names)) (place_of (get_or names y []) (distinct names)) (sym (here x a) ∙ e ∙ here y b)) ∙ name_at_is d l y b),
  (λ e. up_is d l x ok a ∙ ap (λ z. place_of z (members d l)) e ∙ sym (up_is d l y ok b)),
)
  where
    names : List (List ℕ)
    names = names_at (plain d) l

    long : length names ≡ length d.paths
    long = length-names_at d l

    here : (z : ℕ) → z < length d.paths → up (plain d) l z ≡ place_of (get_or names z []) (distinct names)
    here z h = up_is d l z ok h ∙ ap (λ n. place_of n (distinct names)) (sym (name_at_is d l z h))

-- ---- the dimension of that name in the other cube
-- the new one has the levels and each path of the old one
pub record Grows (d e : NamedDimension) : Type 0 where
  pub old : IsPlain d
  pub new : IsPlain e
  pub levels : d.levels ≡ e.levels
  pub paths : list_all (λ path. list_any (same_texts path) e.paths) d.paths ≡ true

abbrev pub leaf : NamedDimension → NamedDimension → ℕ → ℕ
leaf d e x = carried_member d e 0 x

-- the leaf with the same name has the same path
pub leaf_path : (d e : NamedDimension) (x : ℕ) → Grows d e → x < length d.paths → (leaf d e x < length e.paths) × (get_or e.paths (leaf d e x) [] ≡ get_or d.paths x [])
leaf_path d e x ok h = (subst (λ z. z < length e.paths) (sym is_y) y.1, ap (λ z. get_or e.paths z []) is_y ∙ y.2 ∙ sym same_path)
  where
    path : List (List ℕ)
    path = get_or d.paths x []

    found : (q : List (List ℕ)) × (IsIn q e.paths) × (same_texts path q ≡ true)
    found = any_from (same_texts path) e.paths (all_at (λ p. list_any (same_texts p) e.paths) path d.paths ok.paths (in_at [] d.paths x h))

    same_path : path ≡ found.0
    same_path = texts_eq path found.0 found.2

    y : (i : ℕ) × (i < length e.paths) × (get_or e.paths i [] ≡ found.0)
    y = stands found.0 [] e.paths found.1

    old_name : get_or (members d 0) x [] ≡ name_of d 0 x
    old_name = ap (λ ns. get_or ns x []) ok.old.once ∙ name_at_is d 0 x h

    new_name : get_or (names_at (plain e) 0) y.0 [] ≡ name_of d 0 x
    new_name = name_at_is e 0 y.0 y.1 ∙ ap (λ p. get_or p 0 []) (y.2 ∙ sym same_path)

    is_y : leaf d e x ≡ y.0
    is_y = ap (λ n. place_of n (members e 0)) (old_name ∙ sym new_name) ∙ ap (place_of (get_or (names_at (plain e) 0) y.0 [])) ok.new.once ∙ place_of-own (names_at (plain e) 0) ok.new.once y.0 (let l = length-names_at e 0 in let b : y.0 < length e.paths = y.1 in omega (arith, l, b))

pub leaf_name : (d e : NamedDimension) (l x : ℕ) → Grows d e → x < length d.paths → name_of e l (leaf d e x) ≡ name_of d l x
leaf_name d e l x ok h = ap (λ p. get_or p l []) (leaf_path d e x ok h).1

-- leaves have one member at a level in both or in none
pub leaves_alike : (d e : NamedDimension) (l x y : ℕ) → Grows d e → x < length d.paths → y < length d.paths → (up (plain d) l x ≡ up (plain d) l y) ↔ (up (plain e) l (leaf d e x) ≡ up (plain e) l (leaf d e y))
leaves_alike d e l x y ok a b = (
  (λ p. (up_names e l (leaf d e x) (leaf d e y) ok.new (leaf_path d e x ok a).0 (leaf_path d e y ok b).0).1 (leaf_name d e l x ok a ∙ (up_names d l x y ok.old a b).0 p ∙ sym (leaf_name d e l y ok b))),
  (λ p. (up_names d l x y ok.old a b).1 (sym (leaf_name d e l x ok a) ∙ (up_names e l (leaf d e x) (leaf d e y) ok.new (leaf_path d e x ok a).0 (leaf_path d e y ok b).0).0 p ∙ leaf_name d e l y ok b)),
)

-- the member above a leaf is found by its name
pub member_above : (d e : NamedDimension) (l x : ℕ) → Grows d e → x < length d.paths → carried_member d e l (up (plain d) l x) ≡ up (plain e) l (leaf d e x)
member_above d e l x ok h = ap (λ n. place_of n (members e l)) (ap (λ z. get_or (members d l) z []) (up_is d l x ok.old h) ∙ get_or-place_of (name_of d l x) (members d l) among ∙ sym (leaf_name d e l x ok h)) ∙ sym (up_is e l (leaf d e x) ok.new (leaf_path d e x ok h).0)
  where
    among : Has (name_of d l x) (members d l)
    among = list_any-distinct (name_of d l x) (names_at (plain d) l) ∙ subst (λ n. Has n (names_at (plain d) l)) (name_at_is d l x h) (has_at (names_at (plain d) l) x (let k = length-names_at d l in omega (arith, k, h)))
