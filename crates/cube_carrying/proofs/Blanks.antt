-- The one member of `all`, which has no name.
use Rattle.std.specs.List.{list_all}
use Rattle.std.proofs.Common.{◌≡◌, ℕ, zero, suc, ◌≤◌, ◌⊎◌, inl, inr, true, false, not, ◌==◌, List, [], ◌∷◌, length, map, filter, get_or, refl, sym, ap, ap₂, ◌∙◌, arith, eqb, eqb-true}
use Rattle.std.proofs.lemmas.Bool.{false≢true, and_parts}
use Rattle.cube_model.specs.Cubes.{same, distinct, place_of}
use Rattle.cube_model.specs.Dims.{NamedDimension, IsDimension, members}
use Rattle.cube_model.proofs.DimsFacts.{length-distinct, length-names_at}
use Rattle.cube_carry.proofs.Dimensions.{beyond}
use Rattle.cube_carrying.proofs.Found.{place_within}

-- the empty name stands once where each name is empty
blank_first : (x : List ℕ) (xs : List (List ℕ)) → x ≡ [] → (xs ≡ []) ⊎ (distinct xs ≡ [] ∷ []) → distinct (x ∷ xs) ≡ [] ∷ []
blank_first x xs e (inl q) = ap₂ (λ (y : List ℕ) (ys : List (List ℕ)). distinct (y ∷ ys)) e q
blank_first x xs e (inr q) = ap₂ (λ (y : List ℕ) (zs : List (List ℕ)). y ∷ filter (λ z. not (same y z)) zs) e q

blanks : (n l : ℕ) (ps : List (List (List ℕ))) → list_all (λ path. length path == n) ps ≡ true → n ≤ l → (map (λ path. get_or path l []) ps ≡ []) ⊎ (distinct (map (λ path. get_or path l []) ps) ≡ [] ∷ [])
blanks n l [] e k = inl refl
blanks n l (p ∷ ps) e k =
    let parts = and_parts (eqb (length p) n) (list_all (λ path. eqb (length path) n) ps) e in
    let long = eqb-true (length p) n parts.0 in
    inr (blank_first (get_or p l []) (map (λ path. get_or path l []) ps) (beyond p l [] (omega (arith, long, k))) (blanks n l ps parts.1 k))

pub members_beyond : (d : NamedDimension) (l : ℕ) → IsDimension d → length d.levels ≤ l → members d l ≡ [] ∷ []
members_beyond d l ok k = go d.paths ok.has_leaves (blanks (length d.levels) l d.paths ok.even k)
  where
    go : (ps : List (List (List ℕ))) → 1 ≤ length ps → (map (λ path. get_or path l []) ps ≡ []) ⊎ (distinct (map (λ path. get_or path l []) ps) ≡ [] ∷ []) → distinct (map (λ path. get_or path l []) ps) ≡ [] ∷ []
    go [] b h = absurd (omega (arith, b))
    go (p ∷ ps) b (inl q) = absurd (cc)
    go (p ∷ ps) b (inr q) = q

blank_at : (x : ℕ) → get_or {A = List ℕ} ([] ∷ []) x [] ≡ []
blank_at zero = refl
blank_at (suc x) = refl

pub name_beyond : (d : NamedDimension) (l x : ℕ) → IsDimension d → length d.levels ≤ l → [] ≡ get_or (members d l) x []
name_beyond d l x ok k = sym (ap (λ (ns : List (List ℕ)). get_or ns x []) (members_beyond d l ok k) ∙ blank_at x)

pub unnamed_beyond : (d : NamedDimension) (l : ℕ) (name : List ℕ) → IsDimension d → length d.levels ≤ l → (length name == 0) ≡ true → 0 ≡ place_of name (members d l)
unnamed_beyond d l [] ok k e = sym (ap (place_of []) (members_beyond d l ok k))
unnamed_beyond d l (x ∷ xs) ok k e = let z = eqb-true (length (x ∷ xs)) 0 e in absurd (omega (arith, z))

pub named_beyond : (d : NamedDimension) (l : ℕ) (name : List ℕ) → IsDimension d → length d.levels ≤ l → (length name == 0) ≡ false → 1 ≡ place_of name (members d l)
named_beyond d l [] ok k e = absurd (false≢true (sym e))
named_beyond d l (x ∷ xs) ok k e = sym (ap (place_of (x ∷ xs)) (members_beyond d l ok k))

-- the number of a member, or how many there are, is small
pub few_members : (d : NamedDimension) (l n : ℕ) (name : List ℕ) → IsDimension d → n ≡ place_of name (members d l) → n ≤ 65536
few_members d l n name ok e =
    let within = place_within name (members d l) in
    let few = length-distinct (map (λ path. get_or path l []) d.paths) in
    let leaves = length-names_at d l in
    omega (arith, e, within, few, leaves, ok.few_leaves)
