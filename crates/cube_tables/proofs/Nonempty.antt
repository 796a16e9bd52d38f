-- An array that is there, of the kind, and not without items.
use Rattle.std.proofs.Common.{◌≡◌, ℕ, ◌≤◌, false, List, [], ◌∷◌, length, sym, eqb, arith}
use Rattle.std.specs.Prelude.{Option, Some, None, is_none, unwrap_or, option_map, option_and_then}
use Rattle.std.proofs.lemmas.Bool.{false≢true}
use Rattle.toml.specs.Data.{Data, string, integer, float, boolean, datetime, array, table}
use Rattle.cube_tables.specs.Kinds.{list_faults}
use Rattle.cube_tables.specs.Tables.{items_list, all_as, as_list, is_empty_array, value_or}
use Rattle.cube_tables.proofs.Turns.{no_append, no_check}

some_of_kind : {X : Type 0} (kind : Data → Option X) (ds : List Data) → eqb (length ds) 0 ≡ false → is_none (all_as kind ds) ≡ false → 1 ≤ length (unwrap_or (all_as kind ds) [])
some_of_kind kind [] e h = absurd (false≢true (sym e))
some_of_kind kind (d ∷ ds) e h = by_item (kind d) (all_as kind ds) h
  where
    by_item : {X : Type 0} (o : Option X) (os : Option (List X)) → is_none (option_and_then (λ x. option_map (λ xs. x ∷ xs) os) o) ≡ false → 1 ≤ length (unwrap_or (option_and_then (λ x. option_map (λ xs. x ∷ xs) os) o) [])
    by_item None os h = absurd (false≢true (sym h))
    by_item (Some x) None h = absurd (false≢true (sym h))
    by_item (Some x) (Some xs) h = omega arith

some_items : {X : Type 0} (kind : Data → Option X) (d : Data) → is_empty_array d ≡ false → is_none (as_list kind d) ≡ false → 1 ≤ length (unwrap_or (as_list kind d) [])
some_items kind (array ds) a b = some_of_kind kind (items_list ds) a b
some_items kind (string s) a b = absurd (false≢true (sym b))
some_items kind (integer s) a b = absurd (false≢true (sym b))
some_items kind (float s) a b = absurd (false≢true (sym b))
some_items kind (boolean s) a b = absurd (false≢true (sym b))
some_items kind (datetime s) a b = absurd (false≢true (sym b))
some_items kind (table s) a b = absurd (false≢true (sym b))

pub has_items : {F X : Type 0} (missing wrong_kind : List ℕ → F) (kind : Data → Option X) (key : List ℕ) (value : Option Data) → list_faults missing wrong_kind (as_list kind) key value ≡ [] → 1 ≤ length (value_or [] (as_list kind) value)
has_items missing wrong_kind kind key None h = absurd (cc)
has_items missing wrong_kind kind key (Some d) h = let parts = no_append _ _ h in some_items kind d (no_check _ _ parts.0) (no_check _ _ parts.1)
