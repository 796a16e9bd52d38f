-- What is kept of a line decides its answer.
use Rattle.std.proofs.Common.{◌≡◌, ◌<◌, ◌≤◌, ℕ, zero, suc, ◌+◌, ◌-◌, List, [], ◌∷◌, ◌++◌, length, take, Bool, true, false, refl, sym, ap, ◌∙◌, append-nil, length-append, arith, nat_lt, ◌==◌, subst}
use Rattle.std.specs.Prelude.{slice_index}
use Rattle.std.specs.Str.Lines.{strip_carriage_return}
use Rattle.std.proofs.lemmas.List.{length-take-le, length-take, take_all, take-append-le}
use Rattle.std.proofs.lemmas.Bool.Decides.{nat_tests}
use Rattle.cube_talk.specs.Talk.{up_to}
use Rattle.cube_talk.proofs.Speech.{Speech}

pub take_past : {X : Type 0} (xs ys : List X) (n : ℕ) → length xs ≤ n → take n (xs ++ ys) ≡ xs ++ take (n - length xs) ys
take_past [] ys n h = let e : n - 0 ≡ n = omega arith in rw e refl
take_past (x ∷ xs) ys zero h = absurd (omega (arith, h))
take_past {X} (x ∷ xs) ys (suc n) h = let e : suc n - suc (length xs) ≡ n - length xs = omega arith in rw e (ap (λ (l : List X). x ∷ l) (take_past xs ys n (omega (arith, h))))

by_test : {P : Type 0} (b : Bool) → (b ≡ true → P) → (b ≡ false → P) → P
by_test true f g = f refl
by_test false f g = g refl

-- a list that is no longer than that
pub up_to_all : {X : Type 0} (n : ℕ) (xs : List X) → length xs ≤ n → up_to n xs ≡ xs
unfolding up_to
up_to_all n xs h = let t : nat_lt n (length xs) ≡ false = grind (arith, nat_tests) in rw t refl

pub up_to_long : {X : Type 0} (n : ℕ) (xs : List X) → n < length xs → up_to n xs ≡ take n xs
unfolding up_to
up_to_long n xs h = let t : nat_lt n (length xs) ≡ true = grind (arith, nat_tests) in rw t refl

pub below : {P : Type 0} (n m : ℕ) → (n < m → P) → (m ≤ n → P) → P
below n m f g = by_test (nat_lt n m) (λ t. f (grind (arith, nat_tests))) (λ t. g (grind (arith, nat_tests)))

-- more bytes behind what is kept
pub up_to_more : (n : ℕ) (xs ys : List ℕ) → up_to n xs ++ take (n - length (up_to n xs)) ys ≡ up_to n (xs ++ ys)
up_to_more n xs ys = below n (length xs)
    (λ long. let e = up_to_long n xs long in
    let l : length (take n xs) ≡ n = length-take-le n xs (omega (arith, long)) in
    let zero_left : n - n ≡ 0 = omega arith in
    let longer : n < length (xs ++ ys) = omega (arith, long, length-append xs ys) in
    rw (up_to_long n (xs ++ ys) longer, e, l, zero_left) (append-nil (take n xs) ∙ sym (take-append-le n xs ys (omega (arith, long)))))
    (λ short. below n (length (xs ++ ys))
    (λ long. rw (up_to_all n xs short, up_to_long n (xs ++ ys) long) (sym (take_past xs ys n short)))
    (λ all. let rest = take_all (n - length xs) ys (omega (arith, all, length-append xs ys)) in
    rw (up_to_all n xs short, up_to_all n (xs ++ ys) all, rest) refl))

strip_by : (b : Bool) (line : List ℕ) → (slice_index line (length line - 1) == 13) ≡ b → length line ≤ length (strip_carriage_return line) + 1
strip_by true line e = rw e (simp length-take (omega arith))
strip_by false line e = rw e (omega arith)

strip_length : (line : List ℕ) → length line ≤ length (strip_carriage_return line) + 1
strip_length line = strip_by (slice_index line (length line - 1) == 13) line refl

-- the answer to what is kept is the answer to the line
pub answered_kept : {A B : Type 0} (sp : Speech A B) (a a' : A) (b b' : B) (line text : List ℕ) → sp.says a b (strip_carriage_return (up_to 65538 line) ∷ []) a' b' text → sp.says a b (strip_carriage_return line ∷ []) a' b' text
answered_kept sp a a' b b' line text h = below 65538 (length line)
    (λ long. let e = up_to_long 65538 line long in let l = length-take-le 65538 line (omega (arith, long)) in
    let front : length (up_to 65538 line) ≡ 65538 = rw e l in
    sp.alike a a' b b' (strip_carriage_return (up_to 65538 line)) (strip_carriage_return line) text (omega (arith, strip_length (up_to 65538 line), front)) (omega (arith, strip_length line, long)) h)
    (λ short. let e = up_to_all 65538 line short in subst (λ (l : List ℕ). sp.says a b (strip_carriage_return l ∷ []) a' b' text) e h)

pub answered_front : {A B : Type 0} (sp : Speech A B) (a a' : A) (b b' : B) (line text : List ℕ) → sp.says a b (up_to 65538 line ∷ []) a' b' text → sp.says a b (line ∷ []) a' b' text
answered_front sp a a' b b' line text h = below 65538 (length line)
    (λ long. let e = up_to_long 65538 line long in let l = length-take-le 65538 line (omega (arith, long)) in
    let front : length (up_to 65538 line) ≡ 65538 = rw e l in
    sp.alike a a' b b' (up_to 65538 line) line text (omega (arith, front)) (omega (arith, long)) h)
    (λ short. let e = up_to_all 65538 line short in subst (λ (l : List ℕ). sp.says a b (l ∷ []) a' b' text) e h)
