-- Digits that are written from the last one forwards.
use Rattle.std.proofs.Common.{◌≡◌, sym, ap, ap₂, ◌∙◌, ℕ, suc, ◌+◌, ◌-◌, ◌<◌, ◌≤◌, ◌/◌, ◌%◌, List, [], ◌∷◌, ◌++◌, length, drop, set, arith}
use Rattle.std.proofs.lemmas.List.{append_assoc, drop-set}
use Rattle.cube_text.specs.Units.{last_digits}

next : (k n : ℕ) (written : List ℕ) → last_digits k (n / 10) ++ (48 + n % 10) ∷ written ≡ last_digits (suc k) n ++ written
next k n written = sym (append_assoc (last_digits k (n / 10)) ((48 + n % 10) ∷ []) written)

-- one digit more in front of those that are written
pub one_more : (digits new : List ℕ) (many place n rest x : ℕ) → place < many → many ≤ 6 → length digits ≡ 6 → x ≡ 48 + n % 10 → rest ≡ n / 10 → new ≡ set digits (5 - place) x
    → last_digits (many - (place + 1)) rest ++ drop (6 - (place + 1)) new ≡ last_digits (many - place) n ++ drop (6 - place) digits
one_more digits new many place n rest x l few long digit less made =
    let left : many - place ≡ suc (many - (place + 1)) = omega (arith, l) in
    let at : 6 - (place + 1) ≡ 5 - place = omega arith in
    let behind : 5 - place + 1 ≡ 6 - place = omega (arith, l, few) in
    let written : drop (6 - (place + 1)) new ≡ (48 + n % 10) ∷ drop (6 - place) digits =
    ap₂ (λ (k : ℕ) (ds : List ℕ). drop k ds) at made ∙ drop-set digits (5 - place) x (omega (arith, long)) ∙ ap₂ (λ (d k : ℕ). d ∷ drop k digits) digit behind in
    ap₂ (λ (m : ℕ) (ds : List ℕ). last_digits (many - (place + 1)) m ++ ds) less written
    ∙ next (many - (place + 1)) n (drop (6 - place) digits)
    ∙ ap (λ (k : ℕ). last_digits k n ++ drop (6 - place) digits) (sym left)
