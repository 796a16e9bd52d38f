-- Shares of a value: each is one that a fact can carry, and together they are the value.
use Rattle.std.specs.Prelude.{unsigned_abs, nat_lt, if◌then◌else◌, min}
use Rattle.std.proofs.Common.{◌≡◌, ◌⊎◌, inl, inr, ℕ, zero, suc, ◌+◌, ◌-◌, ◌*◌, ◌/◌, ◌%◌, ◌<◌, ◌≤◌, List, [], ◌∷◌, ℤ, pos, negsuc, neg_ℤ, ◌+ℤ◌, refl, ap, ◌∙◌, arith}
use Rattle.std.proofs.Math.Nat.{mul-le-mul_left}
use Rattle.std.proofs.lemmas.Bool.{ltb-true, ltb-false}
use Rattle.std.proofs.lemmas.Int.{ints}
use Rattle.cube_model.specs.Cubes.{count_from}
use Rattle.cube_model.proofs.Members.{tested}
use Rattle.cube_witness.specs.Shares.{share}

-- ---- bounds

below : (q n T : ℕ) → n * q < T * n → q < T
below q n T h = go (either q T)
  where
    either : (x y : ℕ) → (x < y) ⊎ (y ≤ x)
    either x y = grind arith

    go : (q < T) ⊎ (T ≤ q) → q < T
    go (inl l) = l
    go (inr l) = let m = mul-le-mul_left n l in absurd (omega (arith, h, m))

-- a value of n facts divided by n, where a rest is left or not
up_to : (q n r T : ℕ) → 0 < n → 0 < r → n * q + r ≤ T * n → q + 1 ≤ T
up_to q n r T some rest h = let l = below q n T (omega (arith, h, rest)) in omega (arith, l)

at_most : (q n r T : ℕ) → 0 < n → n * q + r ≤ T * n → q ≤ T
at_most q n r T some h = let l = below q n (T + 1) (omega (arith, h, some)) in omega (arith, l)

one_less : (q : ℕ) → unsigned_abs (negsuc q +ℤ pos 1) ≡ q
one_less zero = refl
one_less (suc q) = let e : negsuc (suc q) +ℤ pos 1 ≡ negsuc q = omega (arith, ints) in rw e refl

within_pos : (a n k T : ℕ) → 0 < n → a ≤ T * n → unsigned_abs (share (pos a) n k) ≤ T
within_pos a n k T some h = tested (nat_lt k (a % n))
    (λ t. let r : k < a % n = ltb-true k (a % n) t in rw t (up_to (a / n) n (a % n) T some (omega (arith, r)) (omega (arith, h, some))))
    (λ f. rw f (at_most (a / n) n (a % n) T some (omega (arith, h, some))))

within_neg : (a n k T : ℕ) → 0 < n → suc a ≤ T * n → unsigned_abs (share (negsuc a) n k) ≤ T
within_neg a n k T some h =
    let low = below (a / n) n T (omega (arith, h, some)) in
    tested (nat_lt k (n - 1 - a % n))
    (λ t. rw (t, one_less (a / n)) (omega (arith, low)))
    (λ f. rw f (omega (arith, low)))

pub share_within : (v : ℤ) (n k T : ℕ) → 0 < n → unsigned_abs v ≤ T * n → unsigned_abs (share v n k) ≤ T
share_within (pos a) n k T some h = within_pos a n k T some h
share_within (negsuc a) n k T some h = within_neg a n k T some h

-- ---- sums

abbrev pub sums : (ℕ → ℤ) → List ℕ → ℤ
sums f [] = pos 0
sums f (k ∷ ks) = f k +ℤ sums f ks

times : ℕ → ℤ → ℤ
times zero q = pos 0
times (suc k) q = q +ℤ times k q

two_sums : (q : ℤ) (r s k : ℕ) → sums (λ j. if nat_lt j r then q +ℤ pos 1 else q) (count_from s k) ≡ times k q +ℤ pos (min (s + k) r - min s r)
unfolding times
two_sums q r s zero = let e : min (s + 0) r - min s r ≡ 0 = omega arith in rw e refl
two_sums q r s (suc k) =
    let again = two_sums q r (suc s) k in
    tested (nat_lt s r)
    (λ t. let l : s < r = ltb-true s r t in let e : min (s + suc k) r - min s r ≡ suc (min (suc s + k) r - min (suc s) r) = omega arith in rw (t, again, e) (shift q (times k q) (min (suc s + k) r - min (suc s) r)))
    (λ f. let l : r ≤ s = ltb-false s r f in let e : min (s + suc k) r - min s r ≡ min (suc s + k) r - min (suc s) r = omega arith in rw (f, again, e) (regroup q (times k q) (pos (min (suc s + k) r - min (suc s) r))))
  where
    shift : (q t : ℤ) (d : ℕ) → (q +ℤ pos 1) +ℤ (t +ℤ pos d) ≡ (q +ℤ t) +ℤ pos (suc d)
    shift q t d = omega (arith, ints)

    regroup : (q t d : ℤ) → q +ℤ (t +ℤ d) ≡ (q +ℤ t) +ℤ d
    regroup q t d = omega (arith, ints)

times_pos : (k q : ℕ) → times k (pos q) ≡ pos (k * q)
unfolding times
times_pos zero q = let e : 0 * q ≡ 0 = omega arith in rw e refl
times_pos (suc k) q = let again = times_pos k q in rw again (omega (arith, ints))

times_neg : (k q : ℕ) → times k (negsuc q) ≡ neg_ℤ (pos (k * suc q))
unfolding times
times_neg zero q = let e : 0 * suc q ≡ 0 = omega arith in rw e refl
times_neg (suc k) q = let again = times_neg k q in rw again (omega (arith, ints))

all_pos : (a n : ℕ) → 0 < n → sums (share (pos a) n) (count_from 0 n) ≡ pos a
all_pos a n some =
    let all = two_sums (pos (a / n)) (a % n) 0 n in
    let whole = times_pos n (a / n) in
    all ∙ ap (λ (x : ℤ). x +ℤ pos (min (0 + n) (a % n) - min 0 (a % n))) whole ∙ omega (arith, ints, some)

all_neg : (a n : ℕ) → 0 < n → sums (share (negsuc a) n) (count_from 0 n) ≡ negsuc a
all_neg a n some =
    let all = two_sums (negsuc (a / n)) (n - 1 - a % n) 0 n in
    let whole = times_neg n (a / n) in
    all ∙ ap (λ (x : ℤ). x +ℤ pos (min (0 + n) (n - 1 - a % n) - min 0 (n - 1 - a % n))) whole ∙ omega (arith, ints, some)

-- the shares of a value add up to it
pub shares_add_up : (v : ℤ) (n : ℕ) → 0 < n → sums (share v n) (count_from 0 n) ≡ v
shares_add_up (pos a) n some = all_pos a n some
shares_add_up (negsuc a) n some = all_neg a n some
