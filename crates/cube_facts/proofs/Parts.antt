-- A line, part by part.
use Rattle.std.proofs.Common.{◌≡◌, ℕ, ◌+◌, List, [], ◌∷◌, length, take, drop, Bool, true, false, cond, Some, None, arith, refl, nat_lt, count_by, ◌==◌}
use Rattle.std.specs.List.{position, position_or_len}
use Rattle.std.proofs.lemmas.List.Splits.{slice_split_first, length-slice_split, slice_split_none}
use Rattle.std.proofs.lemmas.List.Sums.{fails_before_first}
use borrow.Author.Tests.{ltb-true, ltb-false}
use Rattle.cube_facts.specs.Flat.{parts}

pub count_of_parts : (line : List ℕ) → length (parts line) ≡ count_by (λ b. b == 44) line + 1
count_of_parts line = length-slice_split (λ b. b == 44) line

some_is : (b : Bool) (n at : ℕ) → cond b (Some n) None ≡ Some at → (b ≡ true) × (n ≡ at)
some_is true n at h = (refl, cc)
some_is false n at h = absurd (cc)

none_is : (b : Bool) (n : ℕ) → cond b (Some n) None ≡ None → b ≡ false
none_is true n h = absurd (cc)
none_is false n h = refl

pub parts_some : (rest : List ℕ) (at : ℕ) → position (λ b. b == 44) rest ≡ Some at → parts rest ≡ take at rest ∷ parts (drop (at + 1) rest)
parts_some rest at h =
    let e = some_is (nat_lt (position_or_len (λ b. b == 44) rest) (length rest)) (position_or_len (λ b. b == 44) rest) at h in
    let lt = ltb-true (position_or_len (λ b. b == 44) rest) (length rest) e.0 in
    rw (← e.1) (slice_split_first (λ b. b == 44) rest 0 lt)

pub parts_none : (rest : List ℕ) → position (λ b. b == 44) rest ≡ None → parts rest ≡ rest ∷ []
parts_none rest h =
    let e = none_is (nat_lt (position_or_len (λ b. b == 44) rest) (length rest)) (position_or_len (λ b. b == 44) rest) h in
    let all = ltb-false (position_or_len (λ b. b == 44) rest) (length rest) e in
    slice_split_none (λ b. b == 44) rest (λ k d lt. fails_before_first (λ b. b == 44) rest k d (omega (arith, all, lt)))
