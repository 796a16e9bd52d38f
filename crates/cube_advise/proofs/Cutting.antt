-- A text cut at its first line feed.
use Rattle.std.proofs.Common.{◌≡◌, ◌+◌, ◌-◌, ◌<◌, ℕ, Bool, true, false, cond, List, [], ◌∷◌, length, take, drop, position, nat_lt, eqb, Some, None, refl, sym, ap, ◌∙◌, subst, arith, length-drop}
use Rattle.std.specs.List.{slice_split, before_first, after_first, position_or_len}
use Rattle.std.specs.Str.Lines.{strip_carriage_return, lines_of_parts, lines}
use Rattle.std.proofs.lemmas.Bool.{ltb-true, ltb-false}
use Rattle.std.proofs.lemmas.Bool.Decides.{nat_tests}
use Rattle.std.proofs.lemmas.List.{take_all}
use Rattle.std.proofs.lemmas.List.Splits.{slice_split_none, slice_split_first, length-slice_split}
use Rattle.std.proofs.lemmas.List.Sums.{fails_before_first}
use Rattle.cube_advise.specs.Lines.{is_feed}

some_is : (b : Bool) (n at : ℕ) → cond b (Some n) None ≡ Some at → (b ≡ true) × (n ≡ at)
some_is true n at h = (refl, cc)
some_is false n at h = absurd (cc)

none_is : (b : Bool) (n : ℕ) → cond b (Some n) None ≡ None → b ≡ false
none_is true n h = absurd (cc)
none_is false n h = refl

more_parts : (x : List ℕ) (parts : List (List ℕ)) → 0 < length parts → lines_of_parts (x ∷ parts) ≡ strip_carriage_return x ∷ lines_of_parts parts
more_parts x [] l = absurd (omega arith)
more_parts x (y ∷ more) l = refl

-- what stands before the first line feed is a line, and the others are those of what stands behind it
pub lines_at : (bs : List ℕ) (at : ℕ) → position is_feed bs ≡ Some at → lines bs ≡ strip_carriage_return (take at bs) ∷ lines (take (length bs - (at + 1)) (drop (at + 1) bs))
lines_at bs at h =
    let e = some_is (nat_lt (position_or_len is_feed bs) (length bs)) (position_or_len is_feed bs) at h in
    let below = ltb-true (position_or_len is_feed bs) (length bs) e.0 in
    let all = take_all (length bs - (at + 1)) (drop (at + 1) bs) (omega (arith, length-drop (at + 1) bs)) in
    ap lines_of_parts (slice_split_first is_feed bs 0 below)
    ∙ more_parts (before_first is_feed bs) (slice_split is_feed (after_first is_feed bs)) (omega (arith, length-slice_split is_feed (after_first is_feed bs)))
    ∙ subst (λ (n : ℕ). (strip_carriage_return (before_first is_feed bs) ∷ lines (after_first is_feed bs)) ≡ strip_carriage_return (take n bs) ∷ lines (drop (n + 1) bs)) e.1 refl
    ∙ ap (λ (rest : List ℕ). strip_carriage_return (take at bs) ∷ lines rest) (sym all)

-- where there is no line feed, the text is one line, or none where it has no bytes
pub lines_whole : (bs : List ℕ) → position is_feed bs ≡ None → 0 < length bs → lines bs ≡ bs ∷ []
lines_whole [] h l = absurd (omega arith)
lines_whole (b ∷ bs) h l =
    let e = none_is (nat_lt (position_or_len is_feed (b ∷ bs)) (length (b ∷ bs))) (position_or_len is_feed (b ∷ bs)) h in
    let all = ltb-false (position_or_len is_feed (b ∷ bs)) (length (b ∷ bs)) e in
    ap lines_of_parts (slice_split_none is_feed (b ∷ bs) (λ k d lt. fails_before_first is_feed (b ∷ bs) k d (omega (arith, all, lt)))) ∙ some (eqb (length (b ∷ bs)) 0) (ne (b ∷ bs) l)
  where
    ne : (xs : List ℕ) → 0 < length xs → eqb (length xs) 0 ≡ false
    ne xs l = grind (arith, nat_tests)

    some : (t : Bool) → t ≡ false → cond t [] ((b ∷ bs) ∷ []) ≡ (b ∷ bs) ∷ []
    some t e = ap (λ (t : Bool). cond t [] ((b ∷ bs) ∷ [])) e
