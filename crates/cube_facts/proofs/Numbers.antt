-- Plain numbers, and what the definition of a number says of them.
use Rattle.std.proofs.Common.{◌≡◌, ◌<◌, ◌≤◌, ℕ, suc, ◌+◌, ◌-◌, ◌*◌, ◌^◌, List, [], ◌∷◌, ◌++◌, length, get_or, take, drop, true, false, not, ◌&&◌, refl, sym, ap, ap₂, ◌∙◌, eqb, eqb-true, ltb, arith, subst}
use Rattle.std.proofs.Math.Nat.{pow-le-pow_right}
use Rattle.std.specs.Prelude.{Option, Some, None, IfSome}
use Rattle.std.specs.List.{list_all, before_first, after_first, position_or_len}
use Rattle.std.specs.Char.{is_ascii_digit, digit_value}
use Rattle.std.specs.Int.{IsInRange}
use Rattle.std.proofs.lemmas.Grind.{common_steps}
use Rattle.std.proofs.lemmas.Str.{digit_value_digit}
use Rattle.std.specs.Str.Parse.{digits_value}
use Rattle.std.proofs.lemmas.Bool.{false≢true, and_parts, and_from, ltb-true}
use Rattle.std.proofs.lemmas.List.{length-take-le, length-drop, take_all, take-append-drop}
use Rattle.std.proofs.lemmas.List.Folds.{list_all_more}
use Rattle.std.proofs.lemmas.Int.Digits.{digits_value-lt}
use Rattle.std.proofs.Math.ListN.{drop_of_length-le}
use Rattle.cube_model.proofs.Members.{tested}
use Rattle.cube_text.specs.Units.{is_point, is_zero, whole_part, fraction_part, is_digits, is_number, size_of_parts}
use Rattle.cube_text.proofs.Digits.{all_digits}
use Rattle.cube_facts.specs.Plain.{IsPlain, IsBehind}

-- ---- digits at the front

digit_range : (c : ℕ) → is_ascii_digit c ≡ true → IsInRange 48 57 c
digit_range c h = grind (arith, common_steps)

pub digit_is : (c : ℕ) → is_ascii_digit c ≡ true → (digit_value c + 48 ≡ c) × (digit_value c < 10)
digit_is c h = let r = digit_range c h in let e = digit_value_digit c r in (e, omega (arith, e, r))

pub digits_more : (ds : List ℕ) (i : ℕ) → i < length ds → list_all is_ascii_digit (take i ds) ≡ true → is_ascii_digit (get_or ds i 0) ≡ true → list_all is_ascii_digit (take (i + 1) ds) ≡ true
digits_more ds i l h k = list_all_more is_ascii_digit ds i 0 l ∙ and_from (list_all is_ascii_digit (take i ds)) (is_ascii_digit (get_or ds i 0)) h k

-- at most twelve digits write less than 10^12
pub front_small : (ds : List ℕ) (i : ℕ) → i ≤ length ds → i ≤ 12 → list_all is_ascii_digit (take i ds) ≡ true → digits_value 10 (take i ds) < 1000000000000
front_small ds i l few h =
    let long = length-take-le i ds l in
    let a = digits_value-lt 10 (take i ds) (all_digits (take i ds) h) in
    let short : length (take i ds) ≤ 12 = omega (arith, long, few) in
    let e : 10 ^ length (take i ds) ≤ 10 ^ 12 = pow-le-pow_right (omega arith) short in
    omega (arith, a, e)

-- ---- a number and its parts

no_point : (c : ℕ) → is_ascii_digit c ≡ true → is_point c ≡ false
no_point c h = tested (eqb c 46) (λ p. absurd (false≢true (sym (ap is_ascii_digit (eqb-true c 46 p)) ∙ h))) (λ p. p)

one_more : (k : ℕ) → 1 + k ≡ suc k
one_more k = omega arith

one_behind : (k : ℕ) → 1 + k + 1 ≡ suc (k + 1)
one_behind k = omega arith

not_less : (a b : ℕ) → b ≤ a → ltb a b ≡ false
not_less a b h = tested (ltb a b) (λ p. let l = ltb-true a b p in absurd (omega (arith, l, h))) (λ p. p)

not_zero : (n : ℕ) → 0 < n → eqb n 0 ≡ false
not_zero n h = tested (eqb n 0) (λ p. let e = eqb-true n 0 p in absurd (omega (arith, e, h))) (λ p. p)

-- the parts of a text, where it is no number with a point at its end
record HasParts (body w f : List ℕ) : Type 0 where
  whole : whole_part body ≡ w
  fraction : fraction_part body ≡ f
  closed : (eqb (length f) 0 && ltb (length w) (length body)) ≡ false

split_whole : (w f : List ℕ) → list_all is_ascii_digit w ≡ true → before_first is_point (w ++ 46 ∷ f) ≡ w
split_whole [] f h = refl
split_whole (c ∷ cs) f h = let k = and_parts (is_ascii_digit c) (list_all is_ascii_digit cs) h in
    rw (no_point c k.0, one_more (position_or_len is_point (cs ++ 46 ∷ f))) (ap (λ xs. c ∷ xs) (split_whole cs f k.1))

split_fraction : (w f : List ℕ) → list_all is_ascii_digit w ≡ true → after_first is_point (w ++ 46 ∷ f) ≡ f
split_fraction [] f h = refl
split_fraction (c ∷ cs) f h = let k = and_parts (is_ascii_digit c) (list_all is_ascii_digit cs) h in
    rw (no_point c k.0, one_behind (position_or_len is_point (cs ++ 46 ∷ f))) (split_fraction cs f k.1)

with_point : (w f : List ℕ) → list_all is_ascii_digit w ≡ true → 0 < length f → HasParts (w ++ 46 ∷ f) w f
with_point w f h l = record { whole = split_whole w f h; fraction = split_fraction w f h; closed = rw (not_zero (length f) l) refl }

no_split_whole : (w : List ℕ) → list_all is_ascii_digit w ≡ true → before_first is_point w ≡ w
no_split_whole [] h = refl
no_split_whole (c ∷ cs) h = let k = and_parts (is_ascii_digit c) (list_all is_ascii_digit cs) h in rw (no_point c k.0, one_more (position_or_len is_point cs)) (ap (λ xs. c ∷ xs) (no_split_whole cs k.1))

no_split_fraction : (w : List ℕ) → list_all is_ascii_digit w ≡ true → after_first is_point w ≡ []
no_split_fraction [] h = refl
no_split_fraction (c ∷ cs) h = let k = and_parts (is_ascii_digit c) (list_all is_ascii_digit cs) h in
    rw (no_point c k.0, one_behind (position_or_len is_point cs)) (no_split_fraction cs k.1)

no_point_at_all : (w : List ℕ) → list_all is_ascii_digit w ≡ true → HasParts w w []
no_point_at_all w h = record { whole = no_split_whole w h; fraction = no_split_fraction w h; closed = not_less (length w) (length w) (omega arith) }

-- digits before a point, and no more behind it than there are decimals
plain_parts : (d : ℕ) (body w f : List ℕ) (size : ℕ) → HasParts body w f → list_all is_ascii_digit w ≡ true → 0 < length w → list_all is_ascii_digit f ≡ true → length f ≤ d
    → digits_value 10 w * 10 ^ d + digits_value 10 f * 10 ^ (d - length f) ≡ size → size ≤ 1000000000000 → IsPlain d body size
plain_parts d body w f size split dw some df short is few =
    let shown : is_number body ≡ (is_digits w && list_all is_ascii_digit f && not ((eqb (length f) 0) && ltb (length w) (length body))) = ap₂ (λ a b. is_digits a && list_all is_ascii_digit b && not ((eqb (length b) 0) && ltb (length a) (length body))) split.whole split.fraction in
    let kept = take_all d f short in
    record {
      number = shown ∙ and_from (is_digits w && list_all is_ascii_digit f) (not ((eqb (length f) 0) && ltb (length w) (length body)))
          (and_from (is_digits w) (list_all is_ascii_digit f) (and_from (not (eqb (length w) 0)) (list_all is_ascii_digit w) (ap not (not_zero (length w) some)) dw) df) (ap not split.closed);
      fine = ap (λ k. list_all is_zero (drop d k)) split.fraction ∙ ap (list_all is_zero) (drop_of_length-le f short);
      sized = ap₂ (λ a b. size_of_parts d a b) split.whole split.fraction ∙ ap (λ b. digits_value 10 w * 10 ^ d + digits_value 10 b * 10 ^ (d - length b)) kept ∙ is;
      few = few;
    }

whole_parts : (d : ℕ) (w : List ℕ) (size : ℕ) → list_all is_ascii_digit w ≡ true → 0 < length w → digits_value 10 w * 10 ^ d ≡ size → size ≤ 1000000000000 → IsPlain d w size
whole_parts d w size dw some is few =
    plain_parts d w w [] size (no_point_at_all w dw) dw some refl (omega arith) (omega (arith, is)) few

-- all of a text is digits
pub plain_whole : (d : ℕ) (body : List ℕ) (many : ℕ) (size : ℕ) (kept : Option ℕ) → many ≡ length body → 0 < many → list_all is_ascii_digit (take many body) ≡ true
    → size ≡ digits_value 10 (take many body) * 10 ^ d → IfSome kept (λ k. (k ≡ size) × (size ≤ 1000000000000)) → IfSome kept (λ k. IsPlain d body k)
plain_whole d body many size None end some digits is h = tt
plain_whole d body many size (Some k) end some digits is h =
    let all : take many body ≡ body = take_all many body (omega (arith, end)) in
    let dw = rw all at digits in
    let sized = rw all at is in
    whole_parts d body k dw (omega (arith, end, some)) (sym sized ∙ sym h.0) (omega (arith, h.0, h.1))

behind_parts : (d : ℕ) (w rest : List ℕ) (size more k : ℕ) → list_all is_ascii_digit w ≡ true → 0 < length w → size ≡ digits_value 10 w * 10 ^ d → IsBehind d rest more → k ≡ size + more → k ≤ 1000000000000 → IsPlain d (w ++ rest) k
behind_parts d w rest size more k dw some is b sum few =
    subst (λ (r : List ℕ). IsPlain d (w ++ r) k) (sym b.is)
    (plain_parts d (w ++ 46 ∷ b.fraction) w b.fraction k (with_point w b.fraction dw b.some) dw some b.digits b.short (omega (arith, is, b.sized, sum)) few)

-- digits stand in front of a point and digits
pub plain_behind : (d : ℕ) (body : List ℕ) (many : ℕ) (size more : ℕ) (kept : Option ℕ) → many ≤ length body → 0 < many → list_all is_ascii_digit (take many body) ≡ true
    → size ≡ digits_value 10 (take many body) * 10 ^ d → IsBehind d (take (length body - many) (drop many body)) more → IfSome kept (λ k. (k ≡ size + more) × (size + more ≤ 1000000000000)) → IfSome kept (λ k. IsPlain d body k)
plain_behind d body many size more None end some digits is b h = tt
plain_behind d body many size more (Some k) end some digits is b h =
    let long = length-take-le many body end in
    let rest : take (length body - many) (drop many body) ≡ drop many body = take_all (length body - many) (drop many body) (omega (arith, length-drop many body)) in
    let behind = subst (λ (r : List ℕ). IsBehind d r more) rest b in
    subst (λ (t : List ℕ). IsPlain d t k) (take-append-drop many body)
    (behind_parts d (take many body) (drop many body) size more k digits (omega (arith, long, some)) is behind h.0 (omega (arith, h.0, h.1)))
