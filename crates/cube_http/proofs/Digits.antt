-- The digits of a text.
use Rattle.std.proofs.Common.{◌≡◌, ◌<◌, ℕ, ◌+◌, List, length, get_or, Bool, true, false, arith, refl}
use Rattle.std.specs.List.{list_all}
use Rattle.std.specs.Char.{is_ascii_digit, digit_value}
use Rattle.std.specs.Int.{IsInRange}
use Rattle.std.proofs.lemmas.Grind.{common_steps}
use Rattle.std.proofs.lemmas.List.Folds.{list_all_at}
use Rattle.std.proofs.lemmas.Str.{digit_value_digit}

digit_range : (c : ℕ) → is_ascii_digit c ≡ true → IsInRange 48 57 c
digit_range c h = grind (arith, common_steps)

passes_at : (b : Bool) (ds : List ℕ) (i : ℕ) → i < length ds → list_all is_ascii_digit ds ≡ true → is_ascii_digit (get_or ds i 0) ≡ b → b ≡ true
passes_at true ds i h all e = refl
passes_at false ds i h all e = let fails = list_all_at is_ascii_digit ds i 0 h e in cc

-- a digit of a text of digits, and its value
pub digit_at : (ds : List ℕ) (i : ℕ) → i < length ds → list_all is_ascii_digit ds ≡ true → (digit_value (get_or ds i 0) + 48 ≡ get_or ds i 0) × (digit_value (get_or ds i 0) < 10)
digit_at ds i h all =
    let r = digit_range (get_or ds i 0) (passes_at (is_ascii_digit (get_or ds i 0)) ds i h all refl) in
    let e = digit_value_digit (get_or ds i 0) r in
    (e, omega (arith, e, r))
