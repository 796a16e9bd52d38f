-- The words of a command line, one pair further.
use Rattle.std.proofs.Common.{◌≡◌, ◌≤◌, Some, ℕ, suc, ◌+◌, ◌-◌, List, [], ◌∷◌, ◌++◌, length, get_or, take, drop, drop-cons, length-drop, true, false, refl, ◌∙◌, sym, ap, append_assoc, arith}
use Rattle.std.proofs.Math.Seq.{take-suc}
use Rattle.std.proofs.lemmas.List.{take_all}
use Rattle.cube_words.specs.declared.words.Command.{Command}
use Rattle.cube_words.specs.Words.{command_of, is_option, is_wrong_value, stands_in, options_in, first_wrong, with_command, orders_of}

-- the words from a place on begin with two words, and those up to it end with them one pair further
pair_behind : (words : List (List ℕ)) (at : ℕ) → at + 2 ≤ length words → drop at words ≡ get_or words at [] ∷ get_or words (suc at) [] ∷ drop (at + 2) words
pair_behind words at some =
    let here = drop-cons words at [] (omega (arith, some)) in
    let there = drop-cons words (suc at) [] (omega (arith, some)) in
    let two : suc (suc at) ≡ at + 2 = omega arith in
    here ∙ ap (λ (l : List (List ℕ)). get_or words at [] ∷ l) (there ∙ ap (λ (n : ℕ). get_or words (suc at) [] ∷ drop n words) two)

pair_before : (words : List (List ℕ)) (at : ℕ) → at + 2 ≤ length words → take (at + 2) words ≡ take at words ++ get_or words at [] ∷ get_or words (suc at) [] ∷ []
pair_before words at some =
    let two : at + 2 ≡ suc (suc at) = omega arith in
    let here = take-suc words at [] (omega (arith, some)) in
    let there = take-suc words (suc at) [] (omega (arith, some)) in
    ap (λ (n : ℕ). take n words) two ∙ there ∙ ap (λ (l : List (List ℕ)). l ++ get_or words (suc at) [] ∷ []) here ∙ append_assoc (take at words) (get_or words at [] ∷ []) (get_or words (suc at) [] ∷ [])

good_pair : (c : Command) (before more : List (List ℕ)) (option value : List ℕ) → is_option c option ≡ true → stands_in option (options_in before) ≡ false → is_wrong_value option value ≡ false
    → first_wrong c before (option ∷ value ∷ more) ≡ first_wrong c (before ++ option ∷ value ∷ []) more
good_pair c before more option value known once good = rw (known, once, good) refl

-- the first of the words from a place on
first_behind : (words : List (List ℕ)) (at : ℕ) (option : List ℕ) → at + 2 ≤ length words → option ≡ get_or (take (length words - at) (drop at words)) 0 option → option ≡ get_or words at []
first_behind words at option some is =
    let all = take_all (length words - at) (drop at words) (omega (arith, length-drop at words)) in
    let first = ap (λ (l : List (List ℕ)). get_or l 0 option) (all ∙ pair_behind words at some) in
    is ∙ first

-- the second of them
second_behind : (words : List (List ℕ)) (at : ℕ) (value : List ℕ) → at + 2 ≤ length words → value ≡ get_or (take (length words - at) (drop at words)) 1 value → value ≡ get_or words (suc at) []
second_behind words at value some is =
    let all = take_all (length words - at) (drop at words) (omega (arith, length-drop at words)) in
    let second = ap (λ (l : List (List ℕ)). get_or l 1 value) (all ∙ pair_behind words at some) in
    is ∙ second

-- a good pair leaves the first wrong word to those behind it
pub wrong_step : (c : Command) (words : List (List ℕ)) (at : ℕ) (option value : List ℕ) → 2 ≤ length (take (length words - at) (drop at words)) → option ≡ get_or (take (length words - at) (drop at words)) 0 option
    → value ≡ get_or (take (length words - at) (drop at words)) 1 value → is_option c option ≡ true → stands_in option (options_in (take at words)) ≡ false → is_wrong_value option value ≡ false
    → first_wrong c (take (at + 2) words) (drop (at + 2) words) ≡ first_wrong c (take at words) (drop at words)
wrong_step c words at option value long is that known once right =
    let all = take_all (length words - at) (drop at words) (omega (arith, length-drop at words)) in
    let two = rw (all, length-drop) at long in
    let some : at + 2 ≤ length words = omega (arith, two) in
    let first = first_behind words at option some is in
    let second = second_behind words at value some that in
    let good = good_pair c (take at words) (drop (at + 2) words) (get_or words at []) (get_or words (suc at) []) (rw first at known) (rw first at once) (rw (first, second) at right) in
    rw (pair_before words at some, pair_behind words at some) (sym good)

-- what a command orders with the words behind it, where it is the first word
pub ordered_by : (words : List (List ℕ)) (word : List ℕ) (c : Command) → 1 ≤ length words → word ≡ get_or words 0 word → command_of word ≡ Some c
    → with_command (take (length words - 1) (drop 1 words)) (Some c) ≡ orders_of words
ordered_by [] word c some is known = absurd (omega (arith, some))
ordered_by (x ∷ xs) word c some is known =
    let all : take (length (x ∷ xs) - 1) xs ≡ xs = take_all (length (x ∷ xs) - 1) xs (omega arith) in
    let first : command_of x ≡ Some c = rw (sym is) known in
    rw (all, first) refl
