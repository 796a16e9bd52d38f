-- Keys, dimension by dimension.
use Rattle.std.proofs.Common.{◌≡◌, ℕ, zero, suc, ◌+◌, ◌<◌, ◌≤◌, inl, inr, Bool, true, false, ◌&&◌, List, [], ◌∷◌, ◌++◌, length, map, drop, get_or, None, refl, sym, ap, ap₂, ◌∙◌, subst, arith, eqb, leb}
use Rattle.std.proofs.lemmas.Bool.{false≢true, and_parts, and_from, leb-true, le-leb, eq-eqb}
use Rattle.std.proofs.lemmas.Bool.Decides.{nat_tests}
use Rattle.std.proofs.lemmas.List.{append_assoc, drop_more, length-map}
use Rattle.cube_model.specs.Cores.{Core, IsCore}
use Rattle.cube_model.specs.Cubes.{Dimension, up, same, ancestors, are_levels, is_finer, cuboids_below, key_at, IsIn, IsPoint}
use Rattle.cube_model.specs.Dims.{NamedDimension, plain, plains, no_dimension, dimension_at}
use Rattle.cube_model.specs.Requests.{fits}
use Rattle.cube_model.proofs.Objects.{below_finer}
use Rattle.cube_model.proofs.Sources.{Each-get_or}
use Rattle.cube_core.proofs.Fitting.{ancestors_more, ancestors_all}
use Rattle.cube_core.proofs.Points.{length-point}
use Rattle.cube_source.specs.Blocks.{bare}
use Rattle.cube_source.specs.Keys.{key_from}

-- there is a level for each dimension
pub length-levels : (ds : List NamedDimension) (ls : List ℕ) → are_levels (map plain ds) ls ≡ true → length ls ≡ length ds
length-levels [] [] e = refl
length-levels [] (l ∷ ls) e = absurd (false≢true e)
length-levels (d ∷ ds) [] e = absurd (false≢true e)
length-levels (d ∷ ds) (l ∷ ls) e = ap suc (length-levels ds ls (and_parts (leb l (length d.levels)) (are_levels (map plain ds) ls) e).1)

-- and it is one of its levels
level_of : (ds : List NamedDimension) (ls : List ℕ) (k : ℕ) → are_levels (map plain ds) ls ≡ true → k < length ls → get_or ls k 0 ≤ length (get_or ds k no_dimension).levels
level_of ds [] k e l = absurd (omega (arith, l))
level_of [] (x ∷ ls) k e l = absurd (false≢true e)
level_of (d ∷ ds) (x ∷ ls) zero e l = leb-true x (length d.levels) (and_parts (leb x (length d.levels)) (are_levels (map plain ds) ls) e).0
level_of (d ∷ ds) (x ∷ ls) (suc k) e l = level_of ds ls k (and_parts (leb x (length d.levels)) (are_levels (map plain ds) ls) e).1 (omega (arith, l))

-- a level can be read
pub record IsReadable (c : Core) (ls : List ℕ) (k : ℕ) : Type 0 where
  pub dimension : k < length c.dims.dimensions
  pub level : get_or ls k 0 ≤ length (dimension_at c.dims k).levels
  pub small : k < 8

pub readable : (c : Core) (ls : List ℕ) (k : ℕ) → IsCore c → are_levels (plains c.dims) ls ≡ true → k < length ls → IsReadable c ls k
readable c ls k ok e l =
    let size = length-levels c.dims.dimensions ls e in
    let few = ok.dims.few_dimensions in
    record { dimension = omega (arith, size, l); level = level_of c.dims.dimensions ls k e l; small = omega (arith, size, l, few) }

-- what `key_at` reads is the key's next member
pub from_more : (c : Core) (ls : List ℕ) (i k x : ℕ) → IsCore c → i < length c.shape.points → are_levels (plains c.dims) ls ≡ true → k < length ls
    → x ≡ up (plain (dimension_at c.dims k)) (get_or ls k 0) (get_or (get_or c.shape.points i []) k 0) → key_from c ls i k ≡ x ∷ key_from c ls i (k + 1)
unfolding key_from
from_more c ls i k x ok l e m is =
    let size = length-levels c.dims.dimensions ls e in
    let long = length-point c.dims.dimensions (get_or c.shape.points i []) (Each-get_or (IsPoint (plains c.dims)) c.shape.points i [] ok.points l) in
    ancestors_more c.dims.dimensions ls (get_or c.shape.points i []) k (omega (arith, size, m)) m (omega (arith, size, long, m))
    ∙ ap (λ (y : ℕ). y ∷ key_from c ls i (k + 1)) (sym is)

pub from_end : (c : Core) (ls : List ℕ) (i k : ℕ) → are_levels (plains c.dims) ls ≡ true → length ls ≤ k → key_from c ls i k ≡ []
unfolding key_from
from_end c ls i k e m =
    let size = length-levels c.dims.dimensions ls e in
    ancestors_all c.dims.dimensions ls (get_or c.shape.points i []) k (omega (arith, size, m))

pub from_start : (c : Core) (ls : List ℕ) (i : ℕ) → key_from c ls i 0 ≡ key_at (bare c) ls i
unfolding key_from key_at
from_start c ls i = refl

-- the step of a comparison with a key
pub key_more : (ks key js : List ℕ) (k x : ℕ) → k < length key → ks ≡ x ∷ js → same ks (drop k key) ≡ (eqb x (get_or key k 0) && same js (drop (k + 1) key))
key_more ks key js k x l e = ap₂ same e (drop_more key k 0 l)

-- the step of a key that is written
pub written_more : (key key' ks js all : List ℕ) (x : ℕ) → ks ≡ x ∷ js → key' ≡ key ++ x ∷ [] → key ++ ks ≡ all → key' ++ js ≡ all
written_more key key' ks js all x e new whole = ap (λ (ks : List ℕ). ks ++ js) new ∙ append_assoc key (x ∷ []) js ∙ ap (λ (ks : List ℕ). key ++ ks) (sym e) ∙ whole

pub not_equal : (x y : ℕ) → (x ≡ y → ⊥) → eqb x y ≡ false
not_equal x y d = grind (arith, nat_tests)

-- a comparison goes on where the members are equal, and ends where they are not
pub goes_on : (x y : ℕ) (r all : Bool) → x ≡ y → (eqb x y && r) ≡ all → r ≡ all
goes_on x y r all e h = sym (ap (λ (b : Bool). b && r) (eq-eqb x y e)) ∙ h

pub ends : (x y : ℕ) (r all : Bool) → (x ≡ y → ⊥) → (eqb x y && r) ≡ all → false ≡ all
ends x y r all d h = sym (ap (λ (b : Bool). b && r) (not_equal x y d)) ∙ h

-- all members have been compared
pub compared : (ks js : List ℕ) → ks ≡ [] → js ≡ [] → same ks js ≡ true
compared ks js p q = ap₂ same p q

pub zeros : (ds : List NamedDimension) → map {B = ℕ} (λ (d : NamedDimension). 0) ds ≡ map {B = ℕ} (λ (d : Dimension). 0) (map plain ds)
zeros [] = refl
zeros (d ∷ ds) = ap (λ (ls : List ℕ). 0 ∷ ls) (zeros ds)

-- a key has a member for each level
length-same : (ks js : List ℕ) → (length ks ≡ length js → ⊥) → same ks js ≡ false
length-same [] [] d = absurd (d refl)
length-same [] (y ∷ js) d = refl
length-same (x ∷ ks) [] d = refl
length-same (x ∷ ks) (y ∷ js) d = ap (λ (b : Bool). eqb x y && b) (length-same ks js (λ e. d (ap suc e))) ∙ none (eqb x y)
  where
    none : (b : Bool) → (b && false) ≡ false
    none true = refl
    none false = refl

length-ancestors : (ds : List Dimension) (ls xs : List ℕ) → length ls ≡ length ds → length xs ≡ length ds → length (ancestors ds ls xs) ≡ length ls
length-ancestors [] [] xs a b = refl
length-ancestors [] (l ∷ ls) xs a b = absurd (omega (arith, a))
length-ancestors (d ∷ ds) [] xs a b = refl
length-ancestors (d ∷ ds) (l ∷ ls) [] a b = absurd (omega (arith, b))
length-ancestors (d ∷ ds) (l ∷ ls) (x ∷ xs) a b = ap suc (length-ancestors ds ls xs (omega (arith, a)) (omega (arith, b)))

pub uneven : (c : Core) (ls key : List ℕ) (i a b : ℕ) → IsCore c → i < length c.shape.points → are_levels (plains c.dims) ls ≡ true → a ≡ length key → b ≡ length ls → (a ≡ b → ⊥) → eqb a b ≡ same (key_at (bare c) ls i) key
unfolding key_at
uneven c ls key i a b ok l e p q d =
    let size = length-levels c.dims.dimensions ls e in
    let plain_size : length (plains c.dims) ≡ length c.dims.dimensions = length-map c.dims.dimensions plain in
    let long = length-point c.dims.dimensions (get_or c.shape.points i []) (Each-get_or (IsPoint (plains c.dims)) c.shape.points i [] ok.points l) in
    let key_size = length-ancestors (plains c.dims) ls (get_or c.shape.points i []) (omega (arith, size, plain_size)) (omega (arith, long, plain_size)) in
    not_equal a b d ∙ sym (length-same (key_at (bare c) ls i) key (λ z. d (p ∙ sym z ∙ key_size ∙ sym q)))

-- the request of all places fits
pub whole_fits : (ds : List Dimension) (ls : List ℕ) → are_levels ds ls ≡ true → fits ds ls (map (λ (l : ℕ). None) ls) ≡ true
whole_fits [] [] e = refl
whole_fits [] (l ∷ ls) e = absurd (false≢true e)
whole_fits (d ∷ ds) [] e = absurd (false≢true e)
whole_fits (d ∷ ds) (l ∷ ls) e = let p = and_parts (leb l d.levels) (are_levels ds ls) e in and_from (leb l d.levels) (fits ds ls (map (λ (l : ℕ). None) ls)) p.0 (whole_fits ds ls p.1)

-- ---- levels

finer_levels : (ds : List Dimension) (c ls : List ℕ) → is_finer c ls ≡ true → are_levels ds ls ≡ true → are_levels ds c ≡ true
finer_levels [] [] ls f e = refl
finer_levels [] (x ∷ c) [] f e = absurd (false≢true f)
finer_levels [] (x ∷ c) (l ∷ ls) f e = absurd (false≢true e)
finer_levels (d ∷ ds) [] [] f e = absurd (false≢true e)
finer_levels (d ∷ ds) [] (l ∷ ls) f e = absurd (false≢true f)
finer_levels (d ∷ ds) (x ∷ c) [] f e = absurd (false≢true f)
finer_levels (d ∷ ds) (x ∷ c) (l ∷ ls) f e =
    let p = and_parts (leb x l) (is_finer c ls) f in
    let q = and_parts (leb l d.levels) (are_levels ds ls) e in
    let a : x ≤ l = leb-true x l p.0 in
    let b : l ≤ d.levels = leb-true l d.levels q.0 in
    and_from (leb x d.levels) (are_levels ds c) (le-leb x d.levels (omega arith)) (finer_levels ds c ls p.1 q.1)

pub read_in : {X : Type 0} (xs : List X) (i : ℕ) (x : X) → i < length xs → x ≡ get_or xs i x → IsIn x xs
read_in [] i x l e = absurd (omega (arith, l))
read_in (y ∷ ys) zero x l e = inl (sym e)
read_in (y ∷ ys) (suc i) x l e = inr (read_in ys i x (omega (arith, l)) e)

-- the cuboids below levels have levels
pub below_levels : (ds : List Dimension) (ls : List ℕ) (cuboids : List (List ℕ)) (i : ℕ) (c : List ℕ) → are_levels ds ls ≡ true → cuboids ≡ cuboids_below ls → i < length cuboids → c ≡ get_or cuboids i c → are_levels ds c ≡ true
below_levels ds ls cuboids i c e is l at = finer_levels ds c ls (below_finer ls c (subst (IsIn c) is (read_in cuboids i c l at))) e

-- the finest levels are levels
pub finest_levels : (ds : List Dimension) → are_levels ds (map {B = ℕ} (λ (d : Dimension). 0) ds) ≡ true
finest_levels [] = refl
finest_levels (d ∷ ds) = and_from (leb 0 d.levels) (are_levels ds (map {B = ℕ} (λ (d : Dimension). 0) ds)) (le-leb 0 d.levels (omega arith)) (finest_levels ds)
