-- Levels, cuboids and grains: what a finer cuboid has together, each coarser one has.
use Rattle.std.proofs.Common.{◌≡◌, ℕ, zero, suc, ◌<◌, ◌≤◌, ◌⊎◌, inl, inr, true, ◌&&◌, min, List, [], ◌∷◌, length, Option, Some, None, refl, ap₂, subst, arith, ltb, leb, eqb}
use Rattle.std.proofs.lemmas.Bool.{and_parts, leb-true, le-leb, ltb-true, false≢true, and_from, eqb-true}
use Rattle.std.proofs.lemmas.Bool.Decides.{nat_tests}
use Rattle.cube_model.specs.declared.request.Pick.{Pick}
use Rattle.cube_model.specs.Cubes.{Dimension, up, same, ancestors, is_finer, meet, IsPoint, IsHierarchy, Each}
use Rattle.cube_model.specs.Requests.{in_pick, in_picks, lesser, lesser_levels, fits, is_level}
use Rattle.cube_model.proofs.Members.{tested}

-- what is one member at a level is one at the next
up_step : (d : Dimension) (l x y : ℕ) → IsHierarchy d → x < length d.paths → y < length d.paths → up d l x ≡ up d l y → up d (suc l) x ≡ up d (suc l) y
unfolding up
up_step d l x y h a b e = tested (ltb (suc l) d.levels)
    (λ t. h l x y (ltb-true (suc l) d.levels t) a b e)
    (λ t. rw t refl)

-- and at each later one
pub up_later : (d : Dimension) (l k x y : ℕ) → IsHierarchy d → x < length d.paths → y < length d.paths → l ≤ k → up d l x ≡ up d l y → up d k x ≡ up d k y
up_later d l zero x y h a b le e = let z : l ≡ zero = omega arith in subst (λ n. up d n x ≡ up d n y) z e
up_later d l (suc k) x y h a b le e = go (λ m. up_later d l k x y h a b m e) (split l k le)
  where
    split : (l k : ℕ) → l ≤ suc k → (l ≡ suc k) ⊎ (l ≤ k)
    split l k le = grind arith

    go : (l ≤ k → up d k x ≡ up d k y) → (l ≡ suc k) ⊎ (l ≤ k) → up d (suc k) x ≡ up d (suc k) y
    go again (inl z) = subst (λ n. up d n x ≡ up d n y) z e
    go again (inr m) = up_step d k x y h a b (again m)

-- a request tells no two places apart that a cuboid as fine as its grain has together
pub alike : (ds : List Dimension) (c group : List ℕ) (picks : List (Option Pick)) (x y : List ℕ) → Each IsHierarchy ds → IsPoint ds x → IsPoint ds y → fits ds group picks ≡ true → is_finer c (lesser_levels group picks) ≡ true → same (ancestors ds c x) (ancestors ds c y) ≡ true → (ancestors ds group x ≡ ancestors ds group y) × (in_picks ds picks x ≡ in_picks ds picks y)
alike [] c group picks x y hs a b f r s = (refl, refl)
alike (d ∷ ds) c [] picks x y hs a b f r s = absurd (false≢true f)
alike (d ∷ ds) c (l ∷ ls) [] x y hs a b f r s = absurd (false≢true f)
alike (d ∷ ds) [] (l ∷ ls) (p ∷ ps) x y hs a b f r s = absurd (false≢true r)
alike (d ∷ ds) (k ∷ ks) (l ∷ ls) (p ∷ ps) [] y hs a b f r s = absurd a
alike (d ∷ ds) (k ∷ ks) (l ∷ ls) (p ∷ ps) (x ∷ xs) [] hs a b f r s = absurd b
alike (d ∷ ds) (k ∷ ks) (l ∷ ls) (p ∷ ps) (x ∷ xs) (y ∷ ys) hs a b f r s =
    let f2 = and_parts (is_level d p l) (fits ds ls ps) f in
    let r2 = and_parts (leb k (lesser l p)) (is_finer ks (lesser_levels ls ps)) r in
    let s2 = and_parts (eqb (up d k x) (up d k y)) (same (ancestors ds ks xs) (ancestors ds ks ys)) s in
    let ih = alike ds ks ls ps xs ys hs.1 a.1 b.1 f2.1 r2.1 s2.1 in
    let e : up d k x ≡ up d k y = eqb-true (up d k x) (up d k y) s2.0 in
    let le : k ≤ lesser l p = leb-true k (lesser l p) r2.0 in (
      ap₂ (λ m ms. m ∷ ms) (up_later d k l x y hs.0 a.0 b.0 (lesser_group l p le) e) ih.0,
      ap₂ (λ m n. m && n) (picks_alike p le e) ih.1,
    )
  where
    lesser_group : (l : ℕ) (p : Option Pick) → k ≤ lesser l p → k ≤ l
    lesser_group l None le = le
    lesser_group l (Some q) le = omega arith

    picks_alike : (p : Option Pick) → k ≤ lesser l p → up d k x ≡ up d k y → in_pick d p x ≡ in_pick d p y
    picks_alike None le e = refl
    picks_alike (Some q) le e = rw (up_later d k q.level x y hs.0 a.0 b.0 (omega arith) e) refl

-- the order of cuboids
pub is_finer_refl : (c : List ℕ) → is_finer c c ≡ true
is_finer_refl [] = refl
is_finer_refl (l ∷ ls) = grind (arith, nat_tests, is_finer_refl ls)

pub is_finer_trans : (a b c : List ℕ) → is_finer a b ≡ true → is_finer b c ≡ true → is_finer a c ≡ true
is_finer_trans [] [] c p q = q
is_finer_trans [] (y ∷ ys) c p q = absurd (false≢true p)
is_finer_trans (x ∷ xs) [] c p q = absurd (false≢true p)
is_finer_trans (x ∷ xs) (y ∷ ys) [] p q = absurd (false≢true q)
is_finer_trans (x ∷ xs) (y ∷ ys) (z ∷ zs) p q =
    let p2 = and_parts (leb x y) (is_finer xs ys) p in
    let q2 = and_parts (leb y z) (is_finer ys zs) q in
    let xy : x ≤ y = leb-true x y p2.0 in
    let yz : y ≤ z = leb-true y z q2.0 in
    and_from (leb x z) (is_finer xs zs) (le-leb x z (omega arith)) (is_finer_trans xs ys zs p2.1 q2.1)

pub meet_left : (a b : List ℕ) → length a ≡ length b → is_finer (meet a b) a ≡ true
meet_left [] [] e = refl
meet_left [] (y ∷ ys) e = absurd (omega arith)
meet_left (x ∷ xs) [] e = absurd (omega arith)
meet_left (x ∷ xs) (y ∷ ys) e = and_from (leb (min x y) x) (is_finer (meet xs ys) xs) (le-leb (min x y) x (omega arith)) (meet_left xs ys (omega arith))

pub meet_right : (a b : List ℕ) → length a ≡ length b → is_finer (meet a b) b ≡ true
meet_right [] [] e = refl
meet_right [] (y ∷ ys) e = absurd (omega arith)
meet_right (x ∷ xs) [] e = absurd (omega arith)
meet_right (x ∷ xs) (y ∷ ys) e = and_from (leb (min x y) y) (is_finer (meet xs ys) ys) (le-leb (min x y) y (omega arith)) (meet_right xs ys (omega arith))

pub length-meet : (a b : List ℕ) → length a ≡ length b → length (meet a b) ≡ length a
length-meet [] b e = refl
length-meet (x ∷ xs) [] e = absurd (omega arith)
length-meet (x ∷ xs) (y ∷ ys) e = let i : length (meet xs ys) ≡ length xs = length-meet xs ys (omega arith) in omega arith

-- the meet is the greatest lower bound
pub meet_greatest : (a b c : List ℕ) → is_finer c a ≡ true → is_finer c b ≡ true → is_finer c (meet a b) ≡ true
meet_greatest [] b c p q = p
meet_greatest (x ∷ xs) [] [] p q = absurd (false≢true p)
meet_greatest (x ∷ xs) [] (z ∷ zs) p q = absurd (false≢true q)
meet_greatest (x ∷ xs) (y ∷ ys) [] p q = absurd (false≢true p)
meet_greatest (x ∷ xs) (y ∷ ys) (z ∷ zs) p q =
    let p2 = and_parts (leb z x) (is_finer zs xs) p in
    let q2 = and_parts (leb z y) (is_finer zs ys) q in
    let zx : z ≤ x = leb-true z x p2.0 in
    let zy : z ≤ y = leb-true z y q2.0 in
    and_from (leb z (min x y)) (is_finer zs (meet xs ys)) (le-leb z (min x y) (omega arith)) (meet_greatest xs ys zs p2.1 q2.1)

-- a grain has a level per dimension
pub length_grain : (ds : List Dimension) (group : List ℕ) (picks : List (Option Pick)) → fits ds group picks ≡ true → length (lesser_levels group picks) ≡ length ds
length_grain [] [] [] f = refl
length_grain [] [] (p ∷ ps) f = absurd (false≢true f)
length_grain [] (l ∷ ls) ps f = absurd (false≢true f)
length_grain (d ∷ ds) [] ps f = absurd (false≢true f)
length_grain (d ∷ ds) (l ∷ ls) [] f = absurd (false≢true f)
length_grain (d ∷ ds) (l ∷ ls) (p ∷ ps) f =
    let f2 = and_parts (is_level d p l) (fits ds ls ps) f in
    let i : length (lesser_levels ls ps) ≡ length ds = length_grain ds ls ps f2.1 in omega arith
