-- Facts are made at few points.
use Rattle.std.proofs.Common.{◌≡◌, ℕ, suc, ◌+◌, ◌*◌, ◌-◌, ◌<◌, ◌≤◌, inl, inr, List, [], ◌∷◌, length, true, refl, sym, ap, ap₂, ◌∙◌, arith}
use Rattle.std.proofs.lemmas.Bool.Decides.{nat_tests}
use Rattle.cube_model.specs.Cubes.{before, in_order, IsIn, IsIncreasing}
use Rattle.cube_model.proofs.Members.{IsIn-in_order}
use Rattle.cube_model.proofs.Orders.{in_order_increasing}
use Rattle.cube_model.proofs.Parities.{all_at}

-- a branch, a month and a grade
pub record IsSpot (s : ℕ) (x : List ℕ) : Type 0 where
  pub branch : ℕ
  pub month : ℕ
  pub grade : ℕ
  pub in_branches : branch < 40 * s
  pub in_months : month < 12
  pub in_grades : grade < 6
  pub is : x ≡ branch ∷ month ∷ grade ∷ []

-- the number of a spot, in their order
abbrev number : List ℕ → ℕ
number [] = 0
number (a ∷ []) = 0
number (a ∷ b ∷ []) = 0
number (a ∷ b ∷ c ∷ more) = (a * 12 + b) * 6 + c

less : (a b c d e f : ℕ) → b < 12 → c < 6 → e < 12 → f < 6 → before (a ∷ b ∷ c ∷ []) (d ∷ e ∷ f ∷ []) ≡ true → (a * 12 + b) * 6 + c < (d * 12 + e) * 6 + f
less a b c d e f p q r t h = grind (arith, nat_tests)

numbered_before : (s : ℕ) (x y : List ℕ) → IsSpot s x → IsSpot s y → before x y ≡ true → number x < number y
numbered_before s x y p q h =
    let l = less p.branch p.month p.grade q.branch q.month q.grade p.in_months p.in_grades q.in_months q.in_grades (ap₂ before (sym p.is) (sym q.is) ∙ h) in
    let a : number x ≡ (p.branch * 12 + p.month) * 6 + p.grade = ap number p.is in
    let b : number y ≡ (q.branch * 12 + q.month) * 6 + q.grade = ap number q.is in
    omega (arith, l, a, b)

numbered_below : (s : ℕ) (x : List ℕ) → IsSpot s x → (0 ≤ number x) × (number x < 2880 * s)
numbered_below s x p =
    let a : number x ≡ (p.branch * 12 + p.month) * 6 + p.grade = ap number p.is in
    let l = p.in_branches in
    let m = p.in_months in
    let n = p.in_grades in
    (omega arith, omega (arith, a, l, m, n))

-- keys in order whose numbers rise and lie in a range are at most as many as the range has numbers
few : (f : List ℕ → ℕ) (xs : List (List ℕ)) (low high : ℕ) → IsIncreasing xs → ((x : List ℕ) → IsIn x xs → (low ≤ f x) × (f x < high)) → ((x y : List ℕ) → IsIn x xs → IsIn y xs → before x y ≡ true → f x < f y) → length xs ≤ high - low
few f [] low high rising within rise = omega arith
few f (x ∷ xs) low high rising within rise =
    let here = within x (inl refl) in
    let rest = few f xs (suc (f x)) high rising.1
    (λ y h. (rise x y (inl refl) (inr h) (all_at (before x) y xs rising.0 h), (within y (inr h)).1))
    (λ y z h k. rise y z (inr h) (inr k)) in
    omega (arith, here, rest)

-- the distinct ones of some spots
pub few_spots : (s : ℕ) (xs : List (List ℕ)) → ((x : List ℕ) → IsIn x xs → IsSpot s x) → length (in_order xs) ≤ 2880 * s
few_spots s xs h =
    let l = few number (in_order xs) 0 (2880 * s) (in_order_increasing xs)
    (λ x k. numbered_below s x (h x (IsIn-in_order x xs k)))
    (λ x y k m. numbered_before s x y (h x (IsIn-in_order x xs k)) (h y (IsIn-in_order y xs m))) in
    omega (arith, l)
