-- The made facts are lines of six fields, none of which stands in quotes.
use Rattle.std.specs.Char.{is_ascii_digit}
use Rattle.std.specs.List.{list_any}
use Rattle.std.specs.Fmt.{decimal}
use Rattle.std.specs.Prelude.{codes, int_lt, Ok}
use Rattle.std.specs.Str.{all_ascii_digits}
use Rattle.std.proofs.Common.{◌≡◌, ℕ, ◌+◌, ◌*◌, ◌/◌, ◌%◌, ◌^◌, ◌<◌, ◌≤◌, Bool, true, false, ◌||◌, List, [], ◌∷◌, ◌++◌, pos, refl, sym, ap, ap₂, ◌∙◌, arith, append_assoc, append-nil}
use Rattle.std.proofs.Math.Nat.{div-one, mod-lt, div-le_self}
use Rattle.std.proofs.lemmas.Bool.{and_parts}
use Rattle.std.proofs.lemmas.Bool.Decides.{nat_tests}
use Rattle.std.proofs.lemmas.Fmt.{decimal_is_IsNumeral}
use Rattle.std.proofs.lemmas.List.Folds.{list_any-append}
use Rattle.std.proofs.lemmas.Str.Parse.{tells_all_ascii_digits, numerals_by_value}
use Rattle.cube_text.specs.Quoting.{needs_quotes, csv_line, field}
use Rattle.cube_text.specs.Units.{max_units, units_of, units_text, last_digits}
use Rattle.cube_text.proofs.UnitsReadBack.{units_read}
use Rattle.cube_gen.specs.Draws.{seed, drawn}
use Rattle.cube_gen.specs.Made.{numbered, place_text, values_text, made_fact}
use Rattle.cube_made.specs.Laws.{IsSize}

-- ---- the fields

-- the branch of fact k, the month, counted from 0, and the grade
abbrev pub branch_at : ℕ → ℕ → ℕ
branch_at s k = k % (40 * s)

abbrev pub month_at : ℕ → ℕ → ℕ
month_at s k = k / (40 * s) % 12

abbrev pub grade_at : ℕ → ℕ → ℕ
grade_at s k = k / (480 * s) % 6

-- its pay in units of two decimals, its hours and its bonus, drawn from a number on
abbrev pub pay_from : ℕ → ℕ
pay_from x = 100000 + drawn x 1 500000

abbrev pub hours_from : ℕ → ℕ
hours_from x = drawn x 2 200

abbrev pub bonus_from : ℕ → ℕ
bonus_from x = drawn x 3 1000

-- its fields, the last three drawn from a number on
abbrev pub fields_from : ℕ → ℕ → ℕ → List (List ℕ)
fields_from y s k = numbered (codes "b") (branch_at s k) ∷ numbered (codes "m") (month_at s k + 1) ∷ numbered (codes "g") (grade_at s k)
    ∷ units_text 2 (pos (pay_from y)) ∷ decimal (hours_from y) ∷ decimal (bonus_from y) ∷ []

-- its fields, drawn behind three draws for each earlier fact
abbrev pub fact_fields : ℕ → ℕ → ℕ → List (List ℕ)
fact_fields x s k = fields_from (seed x (3 * k)) s k

-- ---- their bounds

pub drawn_below : (x k n : ℕ) → 1 ≤ n → drawn x k n < n
drawn_below x k n h = mod-lt (seed x k / 2 ^ 32) h

pub branch_below : (s k : ℕ) → 1 ≤ s → branch_at s k < 40 * s
branch_below s k h = mod-lt k (omega (arith, h))

pub month_below : (s k : ℕ) → month_at s k < 12
month_below s k = mod-lt (k / (40 * s)) (omega arith)

pub grade_below : (s k : ℕ) → grade_at s k < 6
grade_below s k = mod-lt (k / (480 * s)) (omega arith)

-- ---- no byte asks for quotes

-- a field that stands as it is
abbrev pub IsPlain : List ℕ → Type 0
IsPlain x = list_any needs_quotes x ≡ false

high_plain : (b : ℕ) → 48 ≤ b → needs_quotes b ≡ false
high_plain b h = grind (arith, nat_tests)

digit_high : (b : ℕ) → is_ascii_digit b ≡ true → 48 ≤ b
digit_high b h = grind (arith, nat_tests)

digits_plain : (ds : List ℕ) → all_ascii_digits ds ≡ true → IsPlain ds
digits_plain [] h = refl
digits_plain (d ∷ ds) h =
    let both = and_parts (is_ascii_digit d) (all_ascii_digits ds) h in
    ap₂ (λ (a b : Bool). a || b) (high_plain d (digit_high d both.0)) (digits_plain ds both.1)

decimal_plain : (n : ℕ) → n < 2 ^ 64 → IsPlain (decimal n)
decimal_plain n h = digits_plain (decimal n) ((numerals_by_value (λ ds. all_ascii_digits ds ≡ true) tells_all_ascii_digits).from (decimal n) ((decimal_is_IsNumeral n h).0).1)

append_plain : (xs ys : List ℕ) → IsPlain xs → IsPlain ys → IsPlain (xs ++ ys)
append_plain xs ys h k = list_any-append needs_quotes xs ys ∙ ap₂ (λ (a b : Bool). a || b) h k

no_sign : (n : ℕ) → int_lt (pos n) (pos 0) ≡ false
no_sign n = grind (arith, nat_tests)

-- with two decimals a number has a point before the last two digits
with_point : (n : ℕ) → units_text 2 (pos n) ≡ decimal (n / 10 ^ 2) ++ 46 ∷ last_digits 2 n
with_point n = rw (no_sign n) refl

-- with none it has its digits alone
pub whole_text : (n : ℕ) → units_text 0 (pos n) ≡ decimal n
whole_text n = let one = div-one n in rw (no_sign n, one) (append-nil (decimal n))

pay_plain : (n : ℕ) → n < 2 ^ 64 → IsPlain (units_text 2 (pos n))
pay_plain n h =
    let small = div-le_self n (10 ^ 2) in
    ap (list_any needs_quotes) (with_point n)
    ∙ append_plain (decimal (n / 10 ^ 2)) (46 ∷ last_digits 2 n) (decimal_plain (n / 10 ^ 2) (omega (arith, small, h)))
    (ap₂ (λ (a b : Bool). a || (b || false)) (high_plain (48 + n / 10 % 10) (omega arith)) (high_plain (48 + n % 10) (omega arith)))

-- ---- the line

plain_field : (x : List ℕ) → IsPlain x → field x ≡ x
plain_field x h = rw h refl

-- six such fields in a line
line_of : (a b c d e f : List ℕ) → IsPlain a → IsPlain b → IsPlain c → IsPlain d → IsPlain e → IsPlain f
    → csv_line (a ∷ b ∷ c ∷ d ∷ e ∷ f ∷ []) ≡ (a ++ (44 ∷ b) ++ 44 ∷ c) ++ (44 ∷ d ++ (44 ∷ e) ++ 44 ∷ f) ++ 10 ∷ []
line_of a b c d e f p q r s t u = rw (plain_field a p, plain_field b q, plain_field c r, plain_field d s, plain_field e t, plain_field f u) (simp append_assoc)

-- the line of a fact is that of its fields
pub fact_line : (x s k : ℕ) → IsSize s → made_fact x s k ≡ csv_line (fact_fields x s k)
unfolding place_text values_text
fact_line x s k size =
    let y = seed x (3 * k) in
    let b = branch_below s k size.0 in
    let m = month_below s k in
    let g = grade_below s k in
    let p = drawn_below y 1 500000 (omega arith) in
    let h = drawn_below y 2 200 (omega arith) in
    let n = drawn_below y 3 1000 (omega arith) in
    let most = size.1 in
    sym (line_of (numbered (codes "b") (branch_at s k)) (numbered (codes "m") (month_at s k + 1)) (numbered (codes "g") (grade_at s k)) (units_text 2 (pos (pay_from y))) (decimal (hours_from y)) (decimal (bonus_from y))
    (decimal_plain (branch_at s k) (omega (arith, b, most))) (decimal_plain (month_at s k + 1) (omega (arith, m))) (decimal_plain (grade_at s k) (omega (arith, g)))
    (pay_plain (pay_from y) (omega (arith, p))) (decimal_plain (hours_from y) (omega (arith, h))) (decimal_plain (bonus_from y) (omega (arith, n))))

-- ---- what the numbers say

pub pay_read : (y : ℕ) → units_of 2 (units_text 2 (pos (pay_from y))) ≡ Ok (pos (pay_from y))
pay_read y = let p = drawn_below y 1 500000 (omega arith) in units_read 2 (pos (pay_from y)) (omega arith) (omega (arith, p))

whole_read : (n : ℕ) → n ≤ max_units → units_of 0 (decimal n) ≡ Ok (pos n)
whole_read n h = ap (units_of 0) (sym (whole_text n)) ∙ units_read 0 (pos n) (omega arith) h

pub hours_read : (y : ℕ) → units_of 0 (decimal (hours_from y)) ≡ Ok (pos (hours_from y))
hours_read y = let h = drawn_below y 2 200 (omega arith) in whole_read (hours_from y) (omega (arith, h))

pub bonus_read : (y : ℕ) → units_of 0 (decimal (bonus_from y)) ≡ Ok (pos (bonus_from y))
bonus_read y = let n = drawn_below y 3 1000 (omega arith) in whole_read (bonus_from y) (omega (arith, n))
