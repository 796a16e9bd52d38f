-- The words behind `draft`, one option further.
use Rattle.std.proofs.Common.{◌≡◌, ◌<◌, ℕ, suc, ◌+◌, List, [], ◌∷◌, length, get_or, drop, drop-cons, length-drop, true, false, refl, ◌∙◌, sym, ap, arith}
use Rattle.std.specs.Prelude.{Err}
use Rattle.cube_words.specs.Drafting.{is_flag, flagged, is_free, is_wrong_value, added, said_from}
use Rattle.cube_words.specs.declared.drafting.Begun.{Begun}

flag_on : (b : Begun) (at : ℕ) (word : List ℕ) (rest : List (List ℕ)) → is_flag b word ≡ true → said_from b at (word ∷ rest) ≡ said_from (flagged b) (at + 1) rest
flag_on b at word [] is = rw is refl
flag_on b at word (value ∷ more) is = rw is refl

pair_on : (b : Begun) (at : ℕ) (word value : List ℕ) (more : List (List ℕ)) → is_flag b word ≡ false → is_free b word ≡ true → is_wrong_value word value ≡ false → said_from b at (word ∷ value ∷ more) ≡ said_from (added b word value) (at + 2) more
pair_on b at word value more flag free good = rw (flag, free, good) refl

lone : (b : Begun) (at : ℕ) (word : List ℕ) → is_flag b word ≡ false → said_from b at (word ∷ []) ≡ Err at
lone b at word flag = rw flag refl

unfree : (b : Begun) (at : ℕ) (word : List ℕ) (rest : List (List ℕ)) → is_flag b word ≡ false → is_free b word ≡ false → said_from b at (word ∷ rest) ≡ Err at
unfree b at word [] flag free = rw flag refl
unfree b at word (value ∷ more) flag free = rw (flag, free) refl

wrong_value : (b : Begun) (at : ℕ) (word value : List ℕ) (more : List (List ℕ)) → is_flag b word ≡ false → is_free b word ≡ true → is_wrong_value word value ≡ true → said_from b at (word ∷ value ∷ more) ≡ Err (at + 1)
wrong_value b at word value more flag free wrong = rw (flag, free, wrong) refl

one_behind : (words : List (List ℕ)) (at : ℕ) (word : List ℕ) → at < length words → word ≡ get_or words at word → drop at words ≡ word ∷ drop (at + 1) words
one_behind words at word some is =
    let one : suc at ≡ at + 1 = omega arith in
    drop-cons words at word some ∙ ap (λ (w : List ℕ). w ∷ drop (suc at) words) (sym is) ∙ ap (λ (n : ℕ). word ∷ drop n words) one

two_behind : (words : List (List ℕ)) (at : ℕ) (word value : List ℕ) → at + 1 < length words → word ≡ get_or words at word → value ≡ get_or words (at + 1) value → drop at words ≡ word ∷ value ∷ drop (at + 2) words
two_behind words at word value some is that =
    let here = one_behind words at word (omega (arith, some)) is in
    let there = one_behind words (at + 1) value some that in
    let two : at + 1 + 1 ≡ at + 2 = omega arith in
    here ∙ ap (λ (l : List (List ℕ)). word ∷ l) (there ∙ ap (λ (n : ℕ). value ∷ drop n words) two)

-- behind `--policy`
pub flag_step : (words : List (List ℕ)) (b : Begun) (at : ℕ) (word : List ℕ) → at < length words → word ≡ get_or words at word → is_flag b word ≡ true → said_from b (at + 1) (drop at words) ≡ said_from (flagged b) (at + 1 + 1) (drop (at + 1) words)
flag_step words b at word some is flag = ap (said_from b (at + 1)) (one_behind words at word some is) ∙ flag_on b (at + 1) word (drop (at + 1) words) flag

-- behind an option and its value
pub pair_step : (words : List (List ℕ)) (b : Begun) (at : ℕ) (word value : List ℕ) → at + 1 < length words → word ≡ get_or words at word → value ≡ get_or words (at + 1) value → is_flag b word ≡ false → is_free b word ≡ true
    → is_wrong_value word value ≡ false → said_from b (at + 1) (drop at words) ≡ said_from (added b word value) (at + 2 + 1) (drop (at + 2) words)
pair_step words b at word value some is that flag free good =
    let three : at + 1 + 2 ≡ at + 2 + 1 = omega arith in
    ap (said_from b (at + 1)) (two_behind words at word value some is that) ∙ pair_on b (at + 1) word value (drop (at + 2) words) flag free good ∙ ap (λ (n : ℕ). said_from (added b word value) n (drop (at + 2) words)) three

-- at a word that is no option here
pub unfree_step : (words : List (List ℕ)) (b : Begun) (at : ℕ) (word : List ℕ) → at < length words → word ≡ get_or words at word → is_flag b word ≡ false → is_free b word ≡ false → said_from b (at + 1) (drop at words) ≡ Err (at + 1)
unfree_step words b at word some is flag free = ap (said_from b (at + 1)) (one_behind words at word some is) ∙ unfree b (at + 1) word (drop (at + 1) words) flag free

none_left : (l : List (List ℕ)) → length l ≡ 0 → l ≡ []
none_left [] e = refl
none_left (x ∷ xs) e = absurd (omega (arith, e))

-- at an option without a value
pub lone_step : (words : List (List ℕ)) (b : Begun) (at : ℕ) (word : List ℕ) → at + 1 ≡ length words → word ≡ get_or words at word → is_flag b word ≡ false → said_from b (at + 1) (drop at words) ≡ Err (at + 1)
lone_step words b at word last is flag =
    let none : drop (at + 1) words ≡ [] = none_left (drop (at + 1) words) (omega (arith, length-drop (at + 1) words, last)) in
    ap (said_from b (at + 1)) (one_behind words at word (omega (arith, last)) is ∙ ap (λ (l : List (List ℕ)). word ∷ l) none) ∙ lone b (at + 1) word flag

-- at a wrong value
pub value_step : (words : List (List ℕ)) (b : Begun) (at : ℕ) (word value : List ℕ) → at + 1 < length words → word ≡ get_or words at word → value ≡ get_or words (at + 1) value → is_flag b word ≡ false → is_free b word ≡ true
    → is_wrong_value word value ≡ true → said_from b (at + 1) (drop at words) ≡ Err (at + 2)
value_step words b at word value some is that flag free wrong =
    let two : at + 1 + 1 ≡ at + 2 = omega arith in
    ap (said_from b (at + 1)) (two_behind words at word value some is that) ∙ wrong_value b (at + 1) word value (drop (at + 2) words) flag free wrong ∙ ap (λ (n : ℕ). Err n) two
