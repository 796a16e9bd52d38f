-- A connection is found by its number and taken out.
use Rattle.std.proofs.lemmas.List.Sums.{fails_before_first}
use borrow.Author.Tests.{ltb-false}
use Rattle.std.proofs.Common.{cond, nat_lt, ◌≡◌, ℕ, zero, suc, ◌+◌, ◌<◌, ◌==◌, Bool, true, false, List, [], ◌∷◌, ◌++◌, length, take, drop, get_or, refl, sym, ◌∙◌, ap, arith, add-one, drop-cons, Some, None}
use Rattle.std.specs.List.{position, position_or_len}
use Rattle.std.proofs.lemmas.List.{take-append-drop, get_or-take, length-take-le}
use Rattle.std.proofs.lemmas.List.Folds.{list_any_none}
use Rattle.std.proofs.lemmas.List.Quantifiers.{position-Some}
use Rattle.std.proofs.lemmas.Bool.Decides.{nat_tests}
use Rattle.cube_server.specs.Ears.{at_number, has, IsTakenOut}
use Rattle.cube_server.specs.declared.lines.Ear.{Ear}
use Rattle.cube_server.specs.declared.lines.Line.{Line}

same_number : (n c : ℕ) → (n == c) ≡ true → n ≡ c
same_number n c h = grind (arith, nat_tests)

line_is : (l : Line) (c : ℕ) (ear : Ear) → l.number ≡ c → l.ear ≡ ear → l ≡ record { number = c; ear = ear }
line_is l c ear a b = ap (λ (n : ℕ). let m : Line = record { number = n; ear = l.ear } in m) a ∙ ap (λ (e : Ear). let m : Line = record { number = c; ear = e } in m) b

default_free : (xs : List Line) (k : ℕ) (d l : Line) → k < length xs → get_or xs k d ≡ get_or xs k l
default_free [] k d l lt = absurd (omega arith)
default_free (x ∷ xs) zero d l lt = refl
default_free (x ∷ xs) (suc k) d l lt = default_free xs k d l (omega (arith, lt))

-- where no place is found none passes
none_is : {X : Type 0} (b : Bool) (x : X) → cond b (Some x) None ≡ None → b ≡ false
none_is true x h = cc
none_is false x h = refl

pub none_there : (c : ℕ) (xs : List Line) → position (at_number c) xs ≡ None → has c xs ≡ false
none_there c xs none =
    let e = none_is (nat_lt (position_or_len (at_number c) xs) (length xs)) (position_or_len (at_number c) xs) none in
    let all = ltb-false (position_or_len (at_number c) xs) (length xs) e in
    list_any_none (at_number c) xs (λ k d lt. fails_before_first (at_number c) xs k d (omega (arith, all, lt)))

pub taken_out : (c : ℕ) (xs ys : List Line) (i : ℕ) (l : Line) → position (at_number c) xs ≡ Some i → l ≡ get_or xs i l → ys ≡ take i xs ++ drop (i + 1) xs → IsTakenOut c l.ear xs ys
taken_out c xs ys i l at is rest =
    let (here, test, before) = position-Some (at_number c) xs i l at in
    let long : length (take i xs) ≡ i = length-take-le i xs (omega (arith, here)) in
    let number : l.number ≡ c = same_number l.number c (ap (at_number c) is ∙ test) in
    let cut : drop i xs ≡ get_or xs i l ∷ drop (suc i) xs = drop-cons xs i l here in
    record {
      front = take i xs;
      after = drop (i + 1) xs;
      first = list_any_none (at_number c) (take i xs) (λ k d lt. let below : k < i = omega (arith, lt, long) in let inside : k < length xs = omega (arith, below, here) in ap (at_number c) (get_or-take i xs k d below) ∙ ap (at_number c) (default_free xs k d l inside) ∙ before k below);
      was = sym (take-append-drop i xs) ∙ ap (λ (r : List Line). take i xs ++ r) (cut ∙ rw (sym is, add-one) (ap (λ (m : Line). m ∷ drop (suc i) xs) (line_is l c l.ear number refl)));
      now = rest;
    }
