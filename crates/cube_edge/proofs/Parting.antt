-- Bytes that came are parted into a line and the rest.
use Rattle.std.proofs.Common.{◌≡◌, ◌≤◌, ◌+◌, ℕ, zero, suc, Bool, true, false, cond, not, nat_lt, List, [], ◌∷◌, length, take, position, Some, None, arith, length-take, refl, subst}
use Rattle.std.specs.List.{position_or_len}
use borrow.Author.Tests.{ltb-false}
use Rattle.cube_edge.specs.Lines.{is_feed, IsLine}

some_is : (b : Bool) (n at : ℕ) → cond b (Some n) None ≡ Some at → n ≡ at
some_is true n at h = cc
some_is false n at h = absurd (cc)

none_is : (b : Bool) (n : ℕ) → cond b (Some n) None ≡ None → b ≡ false
none_is true n h = absurd (cc)
none_is false n h = refl

step : (t : Bool) (m q q' : ℕ) → (m ≤ q → m ≤ q') → suc m ≤ cond (not t) (1 + q) 0 → suc m ≤ cond (not t) (1 + q') 0
step true m q q' h few = few
step false m q q' h few = let r = h (omega (arith, few)) in omega (arith, r)

-- in a front that goes one byte beyond so many bytes without a line feed, these have none
front : (bytes : List ℕ) (n : ℕ) → n ≤ position_or_len is_feed bytes → n ≤ position_or_len is_feed (take (suc n) bytes)
front [] n few = few
front (x ∷ xs) zero few = omega arith
front (x ∷ xs) (suc m) few = step (is_feed x) m (position_or_len is_feed xs) (position_or_len is_feed (take (suc m) xs)) (front xs m) few

-- up to the first line feed they are a line
pub line_at : (bytes : List ℕ) (at : ℕ) → position is_feed bytes ≡ Some at → IsLine (take (at + 1) bytes)
line_at bytes at h =
    let e : position_or_len is_feed bytes ≡ at = some_is (nat_lt (position_or_len is_feed bytes) (length bytes)) (position_or_len is_feed bytes) at h in
    let kept : at ≤ position_or_len is_feed (take (suc at) bytes) = front bytes at (omega (arith, e)) in
    let few : length (take (suc at) bytes) ≤ suc at = omega (arith, length-take (suc at) bytes) in
    let line : length (take (suc at) bytes) ≤ position_or_len is_feed (take (suc at) bytes) + 1 = omega (arith, kept, few) in
    let same : suc at ≡ at + 1 = omega arith in
    subst (λ (n : ℕ). IsLine (take n bytes)) same line

-- so are they all where there is none
pub line_whole : (bytes : List ℕ) → position is_feed bytes ≡ None → IsLine bytes
line_whole bytes h =
    let all = ltb-false (position_or_len is_feed bytes) (length bytes) (none_is (nat_lt (position_or_len is_feed bytes) (length bytes)) (position_or_len is_feed bytes) h) in
    omega (arith, all)
