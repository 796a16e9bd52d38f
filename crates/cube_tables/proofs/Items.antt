-- The items of an array, as a list.
use Rattle.std.proofs.Common.{◌≡◌, Bool, ◌&&◌, List, [], ◌∷◌, map, Option, Some, None, refl, ap, option_map, option_and_then}
use Rattle.std.specs.Prelude.{is_some}
use Rattle.std.specs.List.{list_all}
use Rattle.toml.specs.Data.{Data}
use Rattle.toml.specs.View.{items_of}
use Rattle.cube_tables.specs.Tables.{items_list, all_as}

pub items_list-items_of : (ds : List Data) → items_list (items_of ds) ≡ ds
items_list-items_of [] = refl
items_list-items_of (d ∷ ds) = ap (λ (es : List Data). d ∷ es) (items_list-items_of ds)

-- all are of the kind where each is
pub is_some-all_as : {V X : Type 0} (kind : Data → Option X) (seen : V → Data) (vs : List V) → is_some (all_as kind (map seen vs)) ≡ list_all (λ v. is_some (kind (seen v))) vs
is_some-all_as kind seen [] = refl
is_some-all_as kind seen (v ∷ vs) = by_kind (kind (seen v)) (all_as kind (map seen vs)) (is_some-all_as kind seen vs)
  where
    by_kind : {X : Type 0} {b : Bool} (o : Option X) (os : Option (List X)) → is_some os ≡ b → is_some (option_and_then (λ x. option_map (λ xs. x ∷ xs) os) o) ≡ (is_some o && b)
    by_kind None os h = refl
    by_kind (Some x) None h = h
    by_kind (Some x) (Some xs) h = h
