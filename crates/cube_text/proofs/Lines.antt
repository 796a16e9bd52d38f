-- Lines of CSV, field by field.
use Rattle.std.proofs.Common.{◌≡◌, refl, ap, ◌∙◌, ℕ, List, [], ◌∷◌, ◌++◌, map, flat_map, append_assoc}
use Rattle.std.specs.List.{join_with_byte}
use Rattle.cube_text.specs.Quoting.{field, csv_line}
use Rattle.cube_text.specs.Keys.{closed}

pub joined : (xs : List (List ℕ)) (y : List ℕ) → flat_map closed xs ++ field y ≡ join_with_byte 44 (map field (xs ++ y ∷ []))
joined [] y = refl
joined (x ∷ []) y = simp append_assoc
joined (x ∷ z ∷ xs) y =
    append_assoc (closed x) (flat_map closed (z ∷ xs)) (field y)
    ∙ append_assoc (field x) (44 ∷ []) (flat_map closed (z ∷ xs) ++ field y)
    ∙ ap (λ (t : List ℕ). field x ++ 44 ∷ t) (joined (z ∷ xs) y)

-- behind a text, fields with a comma behind each, then the last field and a line feed, are a line
pub lines_behind : (old : List ℕ) (xs : List (List ℕ)) (y : List ℕ) → ((old ++ flat_map closed xs) ++ field y) ++ 10 ∷ [] ≡ old ++ csv_line (xs ++ y ∷ [])
lines_behind old xs y =
    ap (λ (t : List ℕ). t ++ 10 ∷ []) (append_assoc old (flat_map closed xs) (field y) ∙ ap (λ (t : List ℕ). old ++ t) (joined xs y))
    ∙ append_assoc old (join_with_byte 44 (map field (xs ++ y ∷ []))) (10 ∷ [])
