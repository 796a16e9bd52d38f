-- Numbers read back from their texts.
use Rattle.std.proofs.Common.{◌≡◌, ℕ, zero, suc, ◌+◌, ◌-◌, ◌*◌, ◌/◌, ◌%◌, ◌^◌, ◌<◌, ◌≤◌, Bool, true, false, not, ◌&&◌, List, [], ◌∷◌, ◌++◌, length, take, drop, refl, sym, ap, ap₂, ◌∙◌, eqb, eqb-true, ltb, leb, le-leb, arith, length-append, append-nil}
use Rattle.std.proofs.Math.Nat.{div-one, pow-zero, pow-succ', mod-lt, div-div-eq-div-mul, div-add-mod', div-le_self}
use Rattle.std.proofs.lemmas.Str.{digit_value_digit}
use Rattle.std.proofs.lemmas.Bool.{false≢true, and_parts, and_from, ltb-true, lt-ltb}
use Rattle.std.proofs.Math.Seq.{take-length}
use Rattle.std.proofs.Math.ListN.{drop_of_length-le}
use Rattle.std.specs.Prelude.{if◌then◌else◌, ◌==◌, ◌-ℤ◌, ℤ, pos, negsuc, int_lt, Ok, Err}
use Rattle.cube_text.specs.declared.units.UnitFault.TheVariants.{Syntax, TooFine, TooLarge}
use Rattle.std.specs.List.{list_all, before_first, after_first, position_or_len}
use Rattle.std.specs.Char.{is_ascii_digit, digit_value}
use Rattle.std.specs.Fmt.{decimal}
use Rattle.std.specs.Str.{all_ascii_digits}
use Rattle.std.specs.Str.Parse.{digits_value}
use Rattle.std.proofs.lemmas.Fmt.{decimal_is_IsNumeral}
use Rattle.std.proofs.lemmas.Str.Parse.{tells_all_ascii_digits, numerals_by_value}
use Rattle.std.proofs.lemmas.List.Folds.{list_all-append}
use Rattle.std.proofs.lemmas.Int.Digits.{digits_value_push}
use Rattle.cube_model.proofs.Members.{tested}
use Rattle.cube_text.specs.Units.{is_minus, unsigned, is_point, is_zero, whole_part, fraction_part, is_digits, is_number, size_of_parts, size_of, with_sign, max_units, units_of, last_digits, units_text}
use Rattle.cube_text.specs.UnitLaws.{UnitsRead}

same_test : (ds : List ℕ) → list_all is_ascii_digit ds ≡ all_ascii_digits ds
same_test [] = refl
same_test (c ∷ cs) = ap (λ b. is_ascii_digit c && b) (same_test cs)

-- the decimal text of a number: digits, at least one, with its value
pub record IsText (ds : List ℕ) (n : ℕ) : Type 0 where
  pub digits : list_all is_ascii_digit ds ≡ true
  pub some : 0 < length ds
  pub value : digits_value 10 ds ≡ n

decimal_text : (n : ℕ) → n < 2 ^ 64 → IsText (decimal n) n
decimal_text n h = let e = decimal_is_IsNumeral n h in record {
  digits = same_test (decimal n) ∙ (numerals_by_value (λ ds. all_ascii_digits ds ≡ true) tells_all_ascii_digits).from (decimal n) (e.0).1;
  some = (e.0).0;
  value = e.1;
}

no_point : (c : ℕ) → is_ascii_digit c ≡ true → is_point c ≡ false
no_point c h = tested (eqb c 46) (λ p. absurd (false≢true (sym (ap is_ascii_digit (eqb-true c 46 p)) ∙ h))) (λ p. p)

one_more : (k : ℕ) → 1 + k ≡ suc k
one_more k = omega arith

one_behind : (k : ℕ) → 1 + k + 1 ≡ suc (k + 1)
one_behind k = omega arith

-- digits before a point, and what stands behind it
split_whole : (w f : List ℕ) → list_all is_ascii_digit w ≡ true → before_first is_point (w ++ 46 ∷ f) ≡ w
split_whole [] f h = refl
split_whole (c ∷ cs) f h = let k = and_parts (is_ascii_digit c) (list_all is_ascii_digit cs) h in
    rw (no_point c k.0, one_more (position_or_len is_point (cs ++ 46 ∷ f))) (ap (λ xs. c ∷ xs) (split_whole cs f k.1))

split_fraction : (w f : List ℕ) → list_all is_ascii_digit w ≡ true → after_first is_point (w ++ 46 ∷ f) ≡ f
split_fraction [] f h = refl
split_fraction (c ∷ cs) f h = let k = and_parts (is_ascii_digit c) (list_all is_ascii_digit cs) h in
    rw (no_point c k.0, one_behind (position_or_len is_point (cs ++ 46 ∷ f))) (split_fraction cs f k.1)

no_split_whole : (w : List ℕ) → list_all is_ascii_digit w ≡ true → before_first is_point w ≡ w
no_split_whole [] h = refl
no_split_whole (c ∷ cs) h = let k = and_parts (is_ascii_digit c) (list_all is_ascii_digit cs) h in rw (no_point c k.0, one_more (position_or_len is_point cs)) (ap (λ xs. c ∷ xs) (no_split_whole cs k.1))

no_split_fraction : (w : List ℕ) → list_all is_ascii_digit w ≡ true → after_first is_point w ≡ []
no_split_fraction [] h = refl
no_split_fraction (c ∷ cs) h = let k = and_parts (is_ascii_digit c) (list_all is_ascii_digit cs) h in
    rw (no_point c k.0, one_behind (position_or_len is_point cs)) (no_split_fraction cs k.1)

-- the last digits of a number
pub record IsLast (d n : ℕ) : Type 0 where
  pub digits : list_all is_ascii_digit (last_digits d n) ≡ true
  pub long : length (last_digits d n) ≡ d
  pub value : (n / 10 ^ d) * 10 ^ d + digits_value 10 (last_digits d n) ≡ n

is_digit : (r : ℕ) → r < 10 → is_ascii_digit (48 + r) ≡ true
is_digit r h = and_from (leb 48 (48 + r)) (leb (48 + r) 57) (le-leb 48 (48 + r) (omega arith)) (le-leb (48 + r) 57 (omega arith))

carried : (n q r x y v : ℕ) → x * y + v ≡ q → q * 10 + r ≡ n → x * (10 * y) + (v * 10 + r) ≡ n
carried n q r x y v a b = omega (arith, a, b, ap (λ k. k * 10) a)

last_is : (d n : ℕ) → IsLast d n
last_is zero n = record { digits = refl; long = refl; value = let e = div-one n in let p = pow-zero 10 in rw (p, e) (omega arith) }
last_is (suc d) n = let again = last_is d (n / 10) in let r : n % 10 < 10 = mod-lt n (omega arith) in record {
  digits = list_all-append is_ascii_digit (last_digits d (n / 10)) ((48 + n % 10) ∷ []) ∙ and_from (list_all is_ascii_digit (last_digits d (n / 10))) (is_ascii_digit (48 + n % 10) && true) again.digits (and_from (is_ascii_digit (48 + n % 10)) true (is_digit (n % 10) r) refl);
  long = let l = length-append (last_digits d (n / 10)) ((48 + n % 10) ∷ []) in let k = again.long in omega (arith, l, k);
  value =
      let push = digits_value_push 10 (last_digits d (n / 10)) (48 + n % 10) in
      let dv = digit_value_digit (48 + n % 10) (omega arith, omega (arith, r)) in
      let is : digit_value (48 + n % 10) ≡ n % 10 = omega (arith, dv) in
      let power = pow-succ' 10 d in
      let divided = div-div-eq-div-mul n 10 (10 ^ d) in
      rw (push, is, power, sym divided) (carried n (n / 10) (n % 10) (n / 10 / 10 ^ d) (10 ^ d) (digits_value 10 (last_digits d (n / 10))) again.value (div-add-mod' n 10));
}

-- ---- the text of a size

abbrev body_of : ℕ → ℕ → List ℕ
body_of d n = decimal (n / 10 ^ d) ++ (if d == 0 then [] else 46 ∷ last_digits d n)

pub record IsSplit (body w f : List ℕ) : Type 0 where
  pub whole : whole_part body ≡ w
  pub fraction : fraction_part body ≡ f
  pub closed : (eqb (length f) 0 && ltb (length w) (length body)) ≡ false

not_less : (a b : ℕ) → b ≤ a → ltb a b ≡ false
not_less a b h = tested (ltb a b) (λ p. let l = ltb-true a b p in absurd (omega (arith, l, h))) (λ p. p)

not_zero : (n : ℕ) → 0 < n → eqb n 0 ≡ false
not_zero n h = tested (eqb n 0) (λ p. let e = eqb-true n 0 p in absurd (omega (arith, e, h))) (λ p. p)

whole_number : (w : List ℕ) → list_all is_ascii_digit w ≡ true → IsSplit (w ++ []) w []
whole_number w h = record {
  whole = rw (append-nil w) (no_split_whole w h);
  fraction = rw (append-nil w) (no_split_fraction w h);
  closed = rw (append-nil w) (not_less (length w) (length w) (omega arith));
}

with_fraction : (w f : List ℕ) → list_all is_ascii_digit w ≡ true → 0 < length f → IsSplit (w ++ 46 ∷ f) w f
with_fraction w f h l = record { whole = split_whole w f h; fraction = split_fraction w f h; closed = rw (not_zero (length f) l) refl }

split_of : (d n : ℕ) → list_all is_ascii_digit (decimal (n / 10 ^ d)) ≡ true → IsSplit (body_of d n) (decimal (n / 10 ^ d)) (last_digits d n)
split_of zero n h = whole_number (decimal (n / 10 ^ zero)) h
split_of (suc d) n h = rw (not_zero (suc d) (omega arith)) (with_fraction (decimal (n / 10 ^ suc d)) (last_digits (suc d) n) h (let l = (last_is (suc d) n).long in omega (arith, l)))

size_back : (d n : ℕ) (w f : List ℕ) → digits_value 10 w ≡ n / 10 ^ d → length f ≡ d → (n / 10 ^ d) * 10 ^ d + digits_value 10 f ≡ n → size_of_parts d w f ≡ n
size_back d n w f a b c =
    let t : take d f ≡ f = ap (λ k. take k f) (sym b) ∙ take-length f in
    let z : d - length f ≡ 0 = omega (arith, b) in
    let p = pow-zero 10 in
    rw (a, t, z, p) (omega (arith, c))

no_sign : (w rest : List ℕ) → list_all is_ascii_digit w ≡ true → 0 < length w → (unsigned (w ++ rest) ≡ w ++ rest) × (is_minus (w ++ rest) ≡ false)
no_sign [] rest h l = absurd (omega (arith, l))
no_sign (c ∷ cs) rest h l = let k = (and_parts (is_ascii_digit c) (list_all is_ascii_digit cs) h).0 in
    let plus : eqb c 43 ≡ false = tested (eqb c 43) (λ p. absurd (false≢true (sym (ap is_ascii_digit (eqb-true c 43 p)) ∙ k))) (λ p. p) in
    let minus : eqb c 45 ≡ false = tested (eqb c 45) (λ p. absurd (false≢true (sym (ap is_ascii_digit (eqb-true c 45 p)) ∙ k))) (λ p. p) in
    (rw (plus, minus) refl, minus)

chosen : (a b c : Bool) (x v : ℤ) → a ≡ true → b ≡ true → c ≡ false → x ≡ v → (if not a then Err Syntax else if not b then Err TooFine else if c then Err TooLarge else Ok x) ≡ Ok v
chosen a b c x v p q r e = rw (p, q, r, e) refl

numbered : (body w f : List ℕ) → IsSplit body w f → list_all is_ascii_digit w ≡ true → eqb (length w) 0 ≡ false → list_all is_ascii_digit f ≡ true → is_number body ≡ true
numbered body w f split dw some df =
    let shown : is_number body ≡ (is_digits w && list_all is_ascii_digit f && not ((eqb (length f) 0) && ltb (length w) (length body))) = ap₂ (λ a b. is_digits a && list_all is_ascii_digit b && not ((eqb (length b) 0) && ltb (length a) (length body))) split.whole split.fraction in
    shown ∙ and_from (is_digits w && list_all is_ascii_digit f) (not ((eqb (length f) 0) && ltb (length w) (length body)))
    (and_from (is_digits w) (list_all is_ascii_digit f) (and_from (not (eqb (length w) 0)) (list_all is_ascii_digit w) (ap not some) dw) df) (ap not split.closed)

units_by : (d n : ℕ) (text body w f : List ℕ) (v : ℤ) → unsigned text ≡ body → IsSplit body w f → list_all is_ascii_digit w ≡ true → eqb (length w) 0 ≡ false → list_all is_ascii_digit f ≡ true → length f ≡ d → size_of d body ≡ n → n ≤ max_units → with_sign (is_minus text) n ≡ v → units_of d text ≡ Ok v
units_by d n text body w f v e split dw some df long size small signed =
    chosen (is_number (unsigned text)) (list_all is_zero (drop d (fraction_part (unsigned text)))) (ltb max_units (size_of d (unsigned text))) (with_sign (is_minus text) (size_of d (unsigned text))) v
    (ap is_number e ∙ numbered body w f split dw some df)
    (ap (λ b. list_all is_zero (drop d (fraction_part b))) e ∙ ap (λ k. list_all is_zero (drop d k)) split.fraction ∙ ap (list_all is_zero) (drop_of_length-le f (omega (arith, long))))
    (ap (λ b. ltb max_units (size_of d b)) e ∙ ap (ltb max_units) size ∙ not_less max_units n small)
    (ap (λ b. with_sign (is_minus text) (size_of d b)) e ∙ ap (with_sign (is_minus text)) size ∙ signed)

text_of : (d n : ℕ) → n ≤ max_units → IsText (decimal (n / 10 ^ d)) (n / 10 ^ d)
text_of d n small = decimal_text (n / 10 ^ d) (let l = div-le_self n (10 ^ d) in omega (arith, l, small))

units_back : (d n : ℕ) (text : List ℕ) (v : ℤ) → n ≤ max_units → unsigned text ≡ body_of d n → with_sign (is_minus text) n ≡ v → units_of d text ≡ Ok v
units_back d n text v small e signed =
    let t = text_of d n small in
    let last = last_is d n in
    let split = split_of d n t.digits in
    units_by d n text (body_of d n) (decimal (n / 10 ^ d)) (last_digits d n) v e split t.digits (not_zero (length (decimal (n / 10 ^ d))) t.some) last.digits last.long
    (ap₂ (λ w f. size_of_parts d w f) split.whole split.fraction ∙ size_back d n (decimal (n / 10 ^ d)) (last_digits d n) t.value last.long last.value) small signed

negative : (n : ℕ) → pos 0 -ℤ pos (suc n) ≡ negsuc n
negative n = let a : ltb 0 (suc n) ≡ true = lt-ltb 0 (suc n) (omega arith) in let b : suc n - 1 ≡ n = omega arith in rw (a, b) refl

pub units_read : UnitsRead
units_read d (pos n) six small =
    let t = text_of d n small in
    let s = no_sign (decimal (n / 10 ^ d)) (if d == 0 then [] else 46 ∷ last_digits d n) t.digits t.some in
    let z : int_lt (pos n) (pos 0) ≡ false = not_less n 0 (omega arith) in
    let e : units_text d (pos n) ≡ body_of d n = rw z refl in
    ap (units_of d) e ∙ units_back d n (body_of d n) (pos n) small s.0 (rw s.1 refl)
units_read d (negsuc n) six small = units_back d (suc n) (45 ∷ body_of d (suc n)) (negsuc n) small refl (negative n)
