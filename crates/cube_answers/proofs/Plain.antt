-- The text of units is a field as it stands.
use Rattle.std.proofs.Common.{◌≡◌, refl, ◌∙◌, ℕ, zero, suc, ◌+◌, ◌/◌, ◌%◌, ◌^◌, ◌<◌, Bool, true, false, List, [], ◌∷◌, ◌++◌, arith, FitsSigned, w64}
use Rattle.std.proofs.Math.Nat.{mod-lt, div-le_self}
use Rattle.std.proofs.lemmas.Bool.{or_from, ne_eqb}
use Rattle.std.proofs.lemmas.Fmt.{decimal_is_IsNumeral}
use Rattle.std.proofs.lemmas.List.Folds.{list_any-append}
use Rattle.std.proofs.lemmas.Str.Parse.{digit_from_value}
use Rattle.std.specs.Prelude.{if◌then◌else◌, ◌==◌, ℤ, pos, negsuc, int_lt, unsigned_abs}
use Rattle.std.specs.Fmt.{decimal}
use Rattle.std.specs.Int.{IsInRange}
use Rattle.std.specs.List.{list_any}
use Rattle.std.specs.Str.Parse.{AllDigits}
use Rattle.cube_text.specs.Quoting.{needs_quotes, field}
use Rattle.cube_text.specs.Units.{last_digits, units_text}

-- no byte of a text needs quotes
abbrev pub IsPlain : List ℕ → Type 0
IsPlain x = list_any needs_quotes x ≡ false

digit_is_plain : (c : ℕ) → IsInRange 48 57 c → needs_quotes c ≡ false
digit_is_plain c h =
    let comma = ne_eqb c 44 (λ e. omega (arith, h, e)) in
    let quote = ne_eqb c 34 (λ e. omega (arith, h, e)) in
    let carriage = ne_eqb c 13 (λ e. omega (arith, h, e)) in
    let feed = ne_eqb c 10 (λ e. omega (arith, h, e)) in
    rw (comma, quote, carriage, feed) refl

both_plain : (x y : List ℕ) → IsPlain x → IsPlain y → IsPlain (x ++ y)
both_plain x y a b = list_any-append needs_quotes x y ∙ or_from (list_any needs_quotes x) (list_any needs_quotes y) a b

digits_are_plain : (ds : List ℕ) → AllDigits 10 ds → IsPlain ds
digits_are_plain [] d = refl
digits_are_plain (c ∷ cs) d = or_from (needs_quotes c) (list_any needs_quotes cs) (digit_is_plain c (digit_from_value c d.0)) (digits_are_plain cs d.1)

last_are_plain : (d n : ℕ) → IsPlain (last_digits d n)
last_are_plain zero n = refl
last_are_plain (suc d) n =
    let low : n % 10 < 10 = mod-lt n (omega arith) in
    let last = digit_is_plain (48 + n % 10) (omega arith, omega (arith, low)) in
    both_plain (last_digits d (n / 10)) ((48 + n % 10) ∷ []) (last_are_plain d (n / 10)) (rw last refl)

whole_is_plain : (d n : ℕ) → n < 2 ^ 64 → IsPlain (decimal (n / 10 ^ d))
whole_is_plain d n h =
    let less = div-le_self n (10 ^ d) in
    digits_are_plain (decimal (n / 10 ^ d)) (decimal_is_IsNumeral (n / 10 ^ d) (omega (arith, less, h))).0.1

fraction_is_plain : (d n : ℕ) → IsPlain (if d == 0 then [] else 46 ∷ last_digits d n)
fraction_is_plain zero n = refl
fraction_is_plain (suc d) n = rw (ne_eqb (suc d) 0 (λ e. omega (arith, e))) (last_are_plain (suc d) n)

sign_is_plain : (negative : Bool) → IsPlain (if negative then 45 ∷ [] else [])
sign_is_plain true = refl
sign_is_plain false = refl

plain_field : (x : List ℕ) → IsPlain x → field x ≡ x
plain_field x e = rw e refl

size_fits : (v : ℤ) → FitsSigned w64 v → unsigned_abs v < 2 ^ 64
size_fits (pos n) h = omega (arith, h.sfits)
size_fits (negsuc n) h = omega (arith, h.sfits)

-- a field of CSV with a number in it has no quotes
pub units_are_plain : (d : ℕ) (v : ℤ) → FitsSigned w64 v → field (units_text d v) ≡ units_text d v
units_are_plain d v h =
    let size : ℕ = unsigned_abs v in
    let sign : List ℕ = if int_lt v (pos 0) then 45 ∷ [] else [] in
    let whole : List ℕ = decimal (size / 10 ^ d) in
    let fraction : List ℕ = if d == 0 then [] else 46 ∷ last_digits d size in
    let front = both_plain sign whole (sign_is_plain (int_lt v (pos 0))) (whole_is_plain d size (size_fits v h)) in
    plain_field (units_text d v) (both_plain (sign ++ whole) fraction front (fraction_is_plain d size))
