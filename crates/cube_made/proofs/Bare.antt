-- The made names are printed as they are.
use Rattle.std.proofs.Common.{◌≡◌, ℕ, ◌+◌, ◌%◌, ◌^◌, ◌<◌, true, ◌&&◌, ◌||◌, ◌==◌, List, [], ◌∷◌, length, decimal, refl, ◌∙◌, arith, leb, le-leb, length-append, mod-lt}
use Rattle.std.specs.List.{list_all}
use Rattle.std.specs.Char.{is_ascii_digit}
use Rattle.std.proofs.lemmas.Bool.{and_from, or_left, or_right}
use Rattle.std.proofs.lemmas.Fmt.{decimal_by_steps, decimal_nonempty}
use Rattle.std.proofs.lemmas.List.Folds.{list_all-append}
use Rattle.cube_text.specs.Quoting.{is_letter, is_bare, printed}
use Rattle.cube_gen.specs.Made.{numbered}

bare_digit : (n : ℕ) → n < 10 → is_bare (48 + n) ≡ true
unfolding is_bare
bare_digit n h =
    let b = 48 + n in
    let digit : is_ascii_digit b ≡ true = and_from (leb 48 b) (leb b 57) (le-leb 48 b (omega arith)) (le-leb b 57 (omega arith)) in
    or_left (is_letter b || is_ascii_digit b || b == 95) (b == 45) (or_left (is_letter b || is_ascii_digit b) (b == 95) (or_right (is_letter b) (is_ascii_digit b) digit))

bare_digits : (k : ℕ) → k < 2 ^ 64 → list_all is_bare (decimal k) ≡ true
bare_digits k h = decimal_by_steps (λ n ds. list_all is_bare ds ≡ true)
    (λ n l. and_from (is_bare (48 + n)) true (bare_digit n l) refl)
    (λ n ds l e. list_all-append is_bare ds ((48 + n % 10) ∷ []) ∙ and_from (list_all is_bare ds) (is_bare (48 + n % 10) && true) e (and_from (is_bare (48 + n % 10)) true (bare_digit (n % 10) (mod-lt n (omega arith))) refl))
    k h

-- a word of bare bytes with a number behind it is printed as it is
pub numbered_printed : (word : List ℕ) (k : ℕ) → list_all is_bare word ≡ true → k < 2 ^ 64 → printed (numbered word k) ≡ numbered word k
numbered_printed word k h l =
    let all : list_all is_bare (numbered word k) ≡ true = list_all-append is_bare word (decimal k) ∙ and_from (list_all is_bare word) (list_all is_bare (decimal k)) h (bare_digits k l) in
    let some : leb 1 (length (numbered word k)) ≡ true = le-leb 1 (length (numbered word k)) (let m = decimal_nonempty k l in let n = length-append word (decimal k) in omega (arith, m, n)) in
    rw (some, all) refl
