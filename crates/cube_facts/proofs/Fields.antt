-- The fields of a record, one more at a time.
use Rattle.std.proofs.Common.{◌≡◌, ℕ, zero, suc, ◌+◌, List, [], ◌∷◌, ◌++◌, take, Some, ap, append_assoc, add-one}
use Rattle.csv.specs.Records.{field_at}

some_inner : (x y : List ℕ) → Some x ≡ Some y → x ≡ y
some_inner x y e = cc

take_suc : (fields : List (List ℕ)) (i : ℕ) (f : List ℕ) → field_at fields i ≡ Some f → take (suc i) fields ≡ take i fields ++ f ∷ []
unfolding field_at
take_suc [] i f h = absurd (cc)
take_suc (x ∷ xs) zero f h = ap (λ (y : List ℕ). y ∷ []) (some_inner x f h)
take_suc (x ∷ xs) (suc i) f h = ap (λ (ys : List (List ℕ)). x ∷ ys) (take_suc xs i f h)

pub take_field : (fields : List (List ℕ)) (i : ℕ) (f : List ℕ) → field_at fields i ≡ Some f → take (i + 1) fields ≡ take i fields ++ f ∷ []
take_field fields i f h = rw add-one (take_suc fields i f h)

-- names with one field more behind them
pub fields_more : (names all more fields : List (List ℕ)) (i : ℕ) (f : List ℕ) → all ≡ names ++ take i fields → more ≡ all ++ f ∷ [] → field_at fields i ≡ Some f → more ≡ names ++ take (i + 1) fields
fields_more names all more fields i f so_far grown found = rw (grown, so_far, take_field fields i f found) (append_assoc names (take i fields) (f ∷ []))
