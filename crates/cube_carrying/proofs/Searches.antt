-- Keys in lexicographic order, and the place of one among them.
use Rattle.std.proofs.Common.{◌≡◌, ℕ, zero, suc, ◌+◌, ◌<◌, ◌≤◌, ◌||◌, ◌&&◌, Bool, true, false, List, [], ◌∷◌, length, drop, get_or, refl, sym, ap, ap₂, ◌∙◌, arith, eqb, ltb}
use Rattle.std.specs.List.Sorted.{IsPartitionedBy, IsPartitionPoint}
use Rattle.std.specs.Str.{bytes_eq}
use Rattle.std.proofs.lemmas.Bool.{false≢true, ltb-true, ltb-false}
use Rattle.std.proofs.lemmas.Bool.Decides.{nat_tests}
use Rattle.std.proofs.lemmas.List.{drop_more, drop_all, get_or_default}
use Rattle.cube_model.specs.Cubes.{same, before, place_of, IsIncreasing}
use Rattle.std.proofs.lemmas.List.Sums.{position_or_len_is}
use Rattle.cube_model.proofs.Boxes.{before_not_itself}
use Rattle.cube_model.proofs.DimsFacts.{same-bytes_eq, place_of-position}
use Rattle.cube_model.proofs.Members.{tested, same_eq, same_refl}
use Rattle.cube_model.proofs.Orders.{before_trans}
use Rattle.cube_model.proofs.Parities.{all_at}
use Rattle.cube_carry.proofs.Dimensions.{in_at}

-- ---- two keys, member by member

-- the rests of two keys begin with the members that are looked at
rests : (xs ys : List ℕ) (i x y : ℕ) → i < length xs → i < length ys → x ≡ get_or xs i x → y ≡ get_or ys i y
    → before (drop i xs) (drop i ys) ≡ (ltb x y || (eqb x y && before (drop (i + 1) xs) (drop (i + 1) ys)))
rests xs ys i x y l k p q = ap₂ before (drop_more xs i x l ∙ ap (λ z. z ∷ drop (i + 1) xs) (sym p)) (drop_more ys i y k ∙ ap (λ z. z ∷ drop (i + 1) ys) (sym q))

same_member : (x y : ℕ) (b : Bool) → x ≡ y → (ltb x y || (eqb x y && b)) ≡ b
same_member x y b e = grind (arith, nat_tests)

other_member : (x y : ℕ) (b : Bool) → (x ≡ y → ⊥) → (ltb x y || (eqb x y && b)) ≡ ltb x y
other_member x y b e = grind (arith, nat_tests)

pub before_on : (xs ys : List ℕ) (i x y : ℕ) → i < length xs → i < length ys → x ≡ get_or xs i x → y ≡ get_or ys i y → x ≡ y → before (drop i xs) (drop i ys) ≡ before (drop (i + 1) xs) (drop (i + 1) ys)
before_on xs ys i x y l k p q e = rests xs ys i x y l k p q ∙ same_member x y (before (drop (i + 1) xs) (drop (i + 1) ys)) e

pub before_here : (xs ys : List ℕ) (i x y : ℕ) → i < length xs → i < length ys → x ≡ get_or xs i x → y ≡ get_or ys i y → (x ≡ y → ⊥) → before (drop i xs) (drop i ys) ≡ ltb x y
before_here xs ys i x y l k p q e = rests xs ys i x y l k p q ∙ other_member x y (before (drop (i + 1) xs) (drop (i + 1) ys)) e

before_none : (x : ℕ) (xs : List ℕ) → before (x ∷ xs) [] ≡ false
before_none x xs = refl

pub before_short : (xs ys : List ℕ) (i : ℕ) → i < length xs → length ys ≤ i → before (drop i xs) (drop i ys) ≡ false
before_short xs ys i l k = ap₂ before (drop_more xs i 0 l) (drop_all i ys k) ∙ before_none (get_or xs i 0) (drop (i + 1) xs)

longer : (ys : List ℕ) (n : ℕ) → n ≤ length ys → before [] (drop n ys) ≡ ltb n (length ys)
longer ys n l = tested (ltb n (length ys))
    (λ t. let k = ltb-true n (length ys) t in ap (before []) (drop_more ys n 0 k) ∙ sym t)
    (λ f. let k = ltb-false n (length ys) f in ap (before []) (drop_all n ys k) ∙ sym f)

pub before_end : (xs ys : List ℕ) (i : ℕ) → i ≡ length xs → i ≤ length ys → before (drop i xs) (drop i ys) ≡ ltb (length xs) (length ys)
before_end xs ys i l k = ap (λ (zs : List ℕ). before zs (drop i ys)) (drop_all i xs (omega (arith, l))) ∙ longer ys i k ∙ ap (λ (n : ℕ). ltb n (length ys)) l

-- ---- the place of a key

other_key : (x y : List ℕ) → (y ≡ x → ⊥) → bytes_eq x y ≡ false
other_key x y h = tested (bytes_eq x y) (λ t. absurd (h (sym (same_eq x y (same-bytes_eq x y ∙ t))))) (λ f. f)

own_key : (x y : List ℕ) → y ≡ x → bytes_eq x y ≡ true
own_key x y h = sym (same-bytes_eq x y) ∙ ap (same x) h ∙ same_refl x

-- the place before which the key does not stand, and at which it stands if anything does
pub place_is : (x : List ℕ) (ks : List (List ℕ)) (i : ℕ) → i ≤ length ks → ((k : ℕ) → k < i → get_or ks k [] ≡ x → ⊥) → (i < length ks → get_or ks i [] ≡ x) → place_of x ks ≡ i
place_is x ks i l apart here = place_of-position x ks ∙ position_or_len_is (bytes_eq x) ks i [] l (λ k h. other_key x (get_or ks k []) (apart k h)) (λ h. own_key x (get_or ks i []) (here h))

pub increasing_at : (ks : List (List ℕ)) (i j : ℕ) → IsIncreasing ks → i < j → j < length ks → before (get_or ks i []) (get_or ks j []) ≡ true
increasing_at [] i j ok l k = absurd (omega (arith, k))
increasing_at (x ∷ ks) i zero ok l k = absurd (omega (arith, l))
increasing_at (x ∷ ks) zero (suc j) ok l k = all_at (before x) (get_or ks j []) ks ok.0 (in_at [] ks j (omega (arith, k)))
increasing_at (x ∷ ks) (suc i) (suc j) ok l k = increasing_at ks i j ok.1 (omega (arith, l)) (omega (arith, k))

-- what a binary search asks of keys in order
pub parted : (x : List ℕ) (ks : List (List ℕ)) → IsIncreasing ks → IsPartitionedBy (λ k. before k x) ks
parted x ks ok i j d l k t = tested (ltb i j)
    (λ u. let a = ltb-true i j u in before_trans (get_or ks i d) (get_or ks j d) x (ap₂ before (get_or_default ks i d [] (omega (arith, a, k))) (get_or_default ks j d [] k) ∙ increasing_at ks i j ok a k) t)
    (λ f. let b = ltb-false i j f in let q : i ≡ j = omega (arith, b, l) in ap (λ (n : ℕ). before (get_or ks n d) x) q ∙ t)

-- where it ends
pub record Ends (x : List ℕ) (ks : List (List ℕ)) (i : ℕ) : Type 0 where
  pub bound : i ≤ length ks
  pub below : (k : ℕ) → k < i → before (get_or ks k []) x ≡ true
  pub above : (k : ℕ) → i ≤ k → k < length ks → before (get_or ks k []) x ≡ false

pub ends : (x : List ℕ) (ks : List (List ℕ)) (i : ℕ) → i ≤ length ks → IsPartitionPoint (λ k. before k x ≡ true) (λ k. before k x ≡ false) ks i → Ends x ks i
ends x ks i l p = record { bound = l; below = λ k h. p.0 k [] (omega arith) h; above = λ k a h. p.1 k [] a h }

not_below : (x : List ℕ) (ks : List (List ℕ)) (i k : ℕ) → Ends x ks i → k < i → get_or ks k [] ≡ x → ⊥
not_below x ks i k e h q = before_not_itself x (ap (λ (y : List ℕ). before y x) (sym q) ∙ e.below k h)

pub found_there : (x y : List ℕ) (ks : List (List ℕ)) (i : ℕ) → Ends x ks i → i < length ks → y ≡ get_or ks i y → same y x ≡ true → i ≡ place_of x ks
found_there x y ks i e l is t = sym (place_is x ks i e.bound (λ k h. not_below x ks i k e h) (λ h. get_or_default ks i [] y l ∙ sym is ∙ same_eq y x t))

pub not_there : (x y : List ℕ) (ks : List (List ℕ)) (i : ℕ) → IsIncreasing ks → Ends x ks i → i < length ks → y ≡ get_or ks i y → same y x ≡ false → length ks ≡ place_of x ks
not_there x y ks i ok e l is f = sym (place_is x ks (length ks) (omega arith) apart (λ h. absurd (omega (arith, h))))
  where
    own : get_or ks i [] ≡ y
    own = get_or_default ks i [] y l ∙ sym is

    apart : (k : ℕ) → k < length ks → get_or ks k [] ≡ x → ⊥
    apart k h q = tested (ltb k i)
        (λ t. not_below x ks i k e (ltb-true k i t) q)
        (λ u. tested (ltb i k)
        (λ t. false≢true (sym (e.above i (omega arith) l) ∙ ap (before (get_or ks i [])) (sym q) ∙ increasing_at ks i k ok (ltb-true i k t) h))
        (λ v. let a = ltb-false k i u in let b = ltb-false i k v in let n : k ≡ i = omega (arith, a, b) in
        false≢true (sym f ∙ ap₂ same (sym own ∙ ap (λ (n : ℕ). get_or ks n []) (sym n) ∙ q) refl ∙ same_refl x)))

pub all_below : (x : List ℕ) (ks : List (List ℕ)) (i : ℕ) → Ends x ks i → length ks ≤ i → length ks ≡ place_of x ks
all_below x ks i e l = sym (place_is x ks (length ks) (omega arith) (λ k h. not_below x ks i k e (omega (arith, h, l))) (λ h. absurd (omega (arith, h))))
