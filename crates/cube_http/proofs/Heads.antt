-- A head that comes byte after byte.
use Rattle.std.proofs.Common.{◌≡◌, ◌≢◌, ◌⊎◌, inl, inr, ℕ, ◌+◌, ◌<◌, ◌≤◌, Bool, true, false, List, [], ◌∷◌, ◌++◌, length, take, get_or, refl, sym, ◌∙◌, ap, arith, append_assoc, length-append, Some, None, if◌then◌else◌}
use Rattle.std.specs.Prelude.{MatchBool, nat_eq, drop, ◌-◌}
use Rattle.std.specs.List.{ends_with}
use lib.Pointwise.{pointwise}
use Rattle.std.proofs.lemmas.Bool.{and_right}
use Rattle.std.proofs.lemmas.Bool.Decides.{nat_tests}
use Rattle.std.proofs.lemmas.List.{take_more, drop-append-le}
use Rattle.cube_http.specs.Head.{at_end, front, rest}
use Rattle.cube_http.specs.Stream.{Placed, is_break, ends_head, head_len, most_head, items}
use Rattle.cube_http.specs.Laws.{later, BreaksSayNothing}
use Rattle.cube_http.specs.Buffers.{GoesOn, Stops}
use Rattle.cube_http.proofs.Openings.{head_len_more, blanks, Blank, Begun}
use Rattle.cube_http.proofs.Anew.{breaks}

-- one more byte, and the bytes end with an empty line
pub stops_ended : (xs : List ℕ) (b : ℕ) → GoesOn xs → at_end (xs ++ b ∷ []) ≡ false → ends_head (xs ++ b ∷ []) ≡ true → Stops (xs ++ b ∷ [])
stops_ended xs b on begins ends = record { begins = begins; ended = head_len_more xs b on.unended; full = inl ends; short = omega (arith, on.short, length-append xs (b ∷ [])) }

-- one more byte, and they are as many as a head may have
pub stops_full : (xs : List ℕ) (b : ℕ) → GoesOn xs → at_end (xs ++ b ∷ []) ≡ false → length (xs ++ b ∷ []) ≡ most_head → Stops (xs ++ b ∷ [])
stops_full xs b on begins full = record { begins = begins; ended = head_len_more xs b on.unended; full = inr full; short = omega (arith, full) }

-- one more byte, and neither
pub goes_further : (xs : List ℕ) (b : ℕ) → GoesOn xs → at_end (xs ++ b ∷ []) ≡ false → ends_head (xs ++ b ∷ []) ≡ false → length (xs ++ b ∷ []) ≢ most_head → GoesOn (xs ++ b ∷ [])
goes_further xs b on begins ends few = record {
  begins = begins;
  unended = head_len_more xs b on.unended ∙ ap (λ (t : Bool). if t then Some (length (xs ++ b ∷ [])) else None) ends;
  short = omega (arith, on.short, length-append xs (b ∷ []), few);
}

-- a text that begins with no line end is what is left behind its line ends
pub rest_of : (xs : List ℕ) → at_end xs ≡ false → rest is_break xs ≡ xs
rest_of [] e = refl
rest_of (x ∷ xs) e = rw e refl

pub rest_begins : (xs : List ℕ) → at_end (rest is_break xs) ≡ false
rest_begins [] = refl
rest_begins (x ∷ xs) = by (is_break x) refl (rest_begins xs)
  where
    by : (t : Bool) → is_break x ≡ t → at_end (rest is_break xs) ≡ false → at_end (rest is_break (x ∷ xs)) ≡ false
    by true t h = rw t h
    by false t h = rw t t

-- a byte behind a text that has begun, or one that is no line end
pub begins_more : (xs : List ℕ) (b : ℕ) → at_end xs ≡ false → (length xs ≢ 0) ⊎ (is_break b ≡ false) → at_end (xs ++ b ∷ []) ≡ false
begins_more [] b e (inl some) = absurd (some refl)
begins_more [] b e (inr other) = other
begins_more (x ∷ xs) b e either = e

-- the line ends before a head may be dropped as they come
pub rest_more : (xs ys : List ℕ) → rest is_break (rest is_break xs ++ ys) ≡ rest is_break (xs ++ ys)
rest_more xs ys = by (blanks xs ys)
  where
    by : Blank xs ys ⊎ Begun xs ys → rest is_break (rest is_break xs ++ ys) ≡ rest is_break (xs ++ ys)
    by (inl b) = ap (λ (l : List ℕ). rest is_break (l ++ ys)) b.all ∙ sym b.rest_is
    by (inr b) = go (rest is_break xs) b.begun (rest_begins xs) ∙ sym b.rest_is
      where
        go : (r : List ℕ) → 0 < length r → at_end r ≡ false → rest is_break (r ++ ys) ≡ r ++ ys
        go [] some e = absurd (omega arith)
        go (x ∷ r) some e = rw e refl

pub stops_then : (xs new seen : List ℕ) (b : ℕ) (t : Bool) → new ≡ xs ++ b ∷ [] → seen ≡ new → t ≡ ends_head seen → t ≡ true → GoesOn xs → at_end (xs ++ b ∷ []) ≡ false → MatchBool t (Stops new) (GoesOn new)
stops_then xs new seen b t is same told e on begins = rw (e, is) (stops_ended xs b on begins (sym (told ∙ ap ends_head (same ∙ is)) ∙ e))

pub stops_else : (xs new seen : List ℕ) (b n : ℕ) (t : Bool) → new ≡ xs ++ b ∷ [] → seen ≡ new → t ≡ ends_head seen → t ≡ false → n ≡ length seen → GoesOn xs → at_end (xs ++ b ∷ []) ≡ false → MatchBool (nat_eq n 16384) (Stops new) (GoesOn new)
stops_else xs new seen b n t is same told e size on begins = by (nat_eq n 16384) refl
  where
    ends : ends_head (xs ++ b ∷ []) ≡ false
    ends = sym (told ∙ ap ends_head (same ∙ is)) ∙ e

    by : (s : Bool) → nat_eq n 16384 ≡ s → MatchBool s (Stops new) (GoesOn new)
    by true s = rw is (stops_full xs b on begins (let n_is : n ≡ 16384 = grind (arith, nat_tests) in sym (ap length (same ∙ is)) ∙ sym size ∙ n_is))
    by false s = rw is (goes_further xs b on begins ends (λ full. let n_is : n ≡ 16384 = size ∙ ap length (same ∙ is) ∙ full in let both : nat_eq n 16384 ≡ true = grind (arith, nat_tests) in cc))

-- the bytes kept so far, and one more of the piece
pub kept_more : (old kept new piece : List ℕ) (i b : ℕ) → i < length piece → kept ≡ rest is_break (old ++ take i piece) → new ≡ rest is_break (kept ++ b ∷ []) → b ≡ get_or piece i 0 → new ≡ rest is_break (old ++ take (i + 1) piece)
kept_more old kept new piece i b lt is step byte =
    step ∙ ap (λ (l : List ℕ). rest is_break (l ++ b ∷ [])) is ∙ rest_more (old ++ take i piece) (b ∷ []) ∙ ap (rest is_break) (append_assoc old (take i piece) (b ∷ []))
    ∙ ap (λ (z : ℕ). rest is_break (old ++ (take i piece ++ z ∷ []))) byte ∙ ap (λ (l : List ℕ). rest is_break (old ++ l)) (sym (take_more piece i 0 lt))

-- no bytes are a head that goes on
pub nothing_goes_on : GoesOn []
unfolding head_len
nothing_goes_on = record { begins = refl; unended = refl; short = omega arith }

front_begun : (r more : List ℕ) → at_end r ≡ false → 0 < length r → front is_break (r ++ more) ≡ []
front_begun [] more e some = absurd (omega arith)
front_begun (x ∷ r) more e some = rw e refl

-- so many line ends stand before a text, and so many behind those that were dropped
front_more : (text more : List ℕ) → length (front is_break (text ++ more)) ≡ length (front is_break text) + length (front is_break (rest is_break text ++ more))
front_more text more = by (blanks text more)
  where
    by : Blank text more ⊎ Begun text more → length (front is_break (text ++ more)) ≡ length (front is_break text) + length (front is_break (rest is_break text ++ more))
    by (inl b) = ap length b.front_is ∙ length-append text (front is_break more) ∙ ap (λ (l : List ℕ). length l + length (front is_break more)) (sym b.front_all) ∙ ap (λ (l : List ℕ). length (front is_break text) + length (front is_break (l ++ more))) (sym b.all)
    by (inr b) = let none : length (front is_break (rest is_break text ++ more)) ≡ 0 = ap length (front_begun (rest is_break text) more (rest_begins text) b.begun) in omega (arith, ap length b.front_is, none)

later_later : (a b : ℕ) (ps : List Placed) → later a (later b ps) ≡ later (a + b) ps
later_later a b [] = refl
later_later a b (p ∷ ps) = let e : a + (b + p.ends) ≡ a + b + p.ends = omega arith in ap (λ (k : ℕ). let q : Placed = record { ends = k; item = p.item } in q ∷ later a (later b ps)) e ∙ ap (λ (qs : List Placed). let q : Placed = record { ends = a + b + p.ends; item = p.item } in q ∷ qs) (later_later a b ps)

pub breaks_say_nothing : BreaksSayNothing
breaks_say_nothing text more =
    let a = length (front is_break text) in
    let b = length (front is_break (rest is_break text ++ more)) in
    breaks (text ++ more) ∙ ap (λ (n : ℕ). later n (items (rest is_break (text ++ more)))) (front_more text more)
    ∙ ap (λ (l : List ℕ). later (a + b) (items l)) (sym (rest_more text more)) ∙ sym (later_later a b (items (rest is_break (rest is_break text ++ more)))) ∙ ap (later a) (sym (breaks (rest is_break text ++ more)))

-- lists whose last items differ are not the same
ends_apart : (xs ys : List ℕ) (x y : ℕ) → nat_eq x y ≡ false → pointwise nat_eq (xs ++ x ∷ []) (ys ++ y ∷ []) ≡ false
ends_apart [] [] x y e = rw e refl
ends_apart [] (z ∷ []) x y e = and_right (nat_eq x z) false refl
ends_apart [] (z ∷ w ∷ ys) x y e = and_right (nat_eq x z) false refl
ends_apart (z ∷ []) [] x y e = and_right (nat_eq z y) false refl
ends_apart (z ∷ w ∷ xs) [] x y e = and_right (nat_eq z y) false refl
ends_apart (z ∷ xs) (w ∷ ys) x y e = and_right (nat_eq z w) (pointwise nat_eq (xs ++ x ∷ []) (ys ++ y ∷ [])) (ends_apart xs ys x y e)

-- nor does the longer one end with the other
ends_without : (needle xs : List ℕ) (x y : ℕ) → nat_eq x y ≡ false → ends_with nat_eq (xs ++ y ∷ []) (needle ++ x ∷ []) ≡ false
ends_without needle xs x y e =
    let k = length (xs ++ y ∷ []) - length (needle ++ x ∷ []) in
    let few : k ≤ length xs = omega (arith, length-append xs (y ∷ []), length-append needle (x ∷ [])) in
    rw (drop-append-le k xs (y ∷ []) few) (ends_apart needle (drop k xs) x y e)

-- a byte that is no LF ends no head
pub other_ends_none : (front bytes : List ℕ) (b : ℕ) → bytes ≡ front ++ b ∷ [] → b ≢ 10 → nat_eq b 10 ≡ ends_head bytes
other_ends_none front bytes b is other =
    let e : nat_eq 10 b ≡ false = grind (arith, nat_tests) in
    let f : nat_eq b 10 ≡ false = grind (arith, nat_tests) in
    rw (f, is, ends_without (10 ∷ []) front 10 b e, ends_without (10 ∷ 13 ∷ []) front 10 b e) refl
