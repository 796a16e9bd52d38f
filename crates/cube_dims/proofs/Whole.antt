-- What no fault of a dimension file says: its dimensions and measures keep the rules together.
use Rattle.std.proofs.Common.{◌≡◌, ℕ, zero, suc, ◌<◌, ◌≤◌, Bool, true, false, ◌||◌, List, [], ◌∷◌, ◌++◌, length, get_or, take, map, codes, refl, sym, ap, subst, ◌∙◌, eqb, ltb, arith}
use Rattle.std.specs.Prelude.{Option, Some, None, is_none, unwrap_or, option_and_then, ℤ, pos, negsuc, nat_le}
use Rattle.std.specs.List.{list_any, AllByRecursion}
use Rattle.std.specs.Str.{bytes_eq}
use Rattle.std.proofs.lemmas.Bool.{false≢true, ltb-false, leb-true}
use Rattle.std.proofs.lemmas.List.{get_or-map, take-map, length-map}
use Rattle.std.proofs.lemmas.List.Folds.{list_any-append}
use Rattle.toml.specs.Data.{Data, string, integer, float, boolean, datetime, array, table, Members, no_members, as_str, as_integer}
use Rattle.cube_model.specs.Checks.{check}
use Rattle.cube_model.specs.Cubes.{cuboid_count}
use Rattle.cube_model.specs.Dims.{NamedDimension, NamedMeasure, IsDimension, IsMeasure, IsDims, AreDistinct, plain}
use Rattle.cube_model.proofs.Parts.{list_any-map}
use Rattle.cube_model.proofs.DimsFacts.{distinct_by_turns, distinct_behind}
use Rattle.cube_tables.specs.Tables.{as_tables, as_texts, is_empty_array, items_list, items_at, table_in, under}
use Rattle.cube_dims.specs.DimsFile.{tables_of, tables_faults, list_faults, dimension_of, dimension_faults, dimensions_faults, named_faults, measure_of, measure_faults, measures_faults, decimals_in, decimals_of, dims_in, dims_faults}
use Rattle.cube_model.specs.declared.limit.LimitKind.TheVariants.{Dimensions, Measures, Cuboids}
use Rattle.cube_dims.specs.declared.fault.DimsFault.TheVariants.{Limit}
use Rattle.cube_model.proofs.Members.{tested}
use Rattle.cube_tables.proofs.Turns.{no_append, no_check, both_nothing, turn_at}
use Rattle.cube_dims.proofs.Accepted.{not_false, has_items, is_dimension}
use Rattle.cube_dims.proofs.Dimensions.{kinds, dimension_entry}

-- ---- some tables

some_tables : (d : Data) → is_empty_array d ≡ false → is_none (as_tables d) ≡ false → 1 ≤ length (tables_of (Some d))
some_tables (array ds) a b = let long = length-map (items_list ds) table_in in not_empty (length (items_list ds)) a long
  where
    not_empty : (n : ℕ) → eqb n 0 ≡ false → length (map table_in (items_list ds)) ≡ n → 1 ≤ length (map table_in (items_list ds))
    not_empty zero h e = absurd (false≢true (sym h))
    not_empty (suc n) h e = omega (arith, e)
some_tables (string s) a b = absurd (false≢true (sym b))
some_tables (integer s) a b = absurd (false≢true (sym b))
some_tables (float s) a b = absurd (false≢true (sym b))
some_tables (boolean s) a b = absurd (false≢true (sym b))
some_tables (datetime s) a b = absurd (false≢true (sym b))
some_tables (table s) a b = absurd (false≢true (sym b))

has_tables : (key : List ℕ) (value : Option Data) → list_faults as_tables key value ≡ [] → 1 ≤ length (tables_of value)
has_tables key None h = absurd (cc)
has_tables key (Some d) h = let parts = no_append _ _ h in some_tables d (no_check _ _ parts.0) (no_check _ _ parts.1)

-- ---- the dimensions

record Follows (earlier : List NamedDimension) (d : NamedDimension) : Type 0 where
  pub rules : IsDimension d
  pub new_name : list_any (λ e. bytes_eq d.name e.name) earlier ≡ false
  pub new_column : list_any (λ e. bytes_eq d.column e.column) earlier ≡ false

follows : (earlier : List NamedDimension) (t : Members) → dimension_faults earlier t ≡ [] → Follows earlier (dimension_of t)
unfolding dimension_faults named_faults dimension_of
follows earlier t h =
    let parts = no_append (kinds (dimension_entry earlier) t) (named_faults (dimension_entry earlier) earlier (dimension_of t)) h in
    let last = no_append _ _ parts.0 in
    let levels = no_append _ _ last.0 in
    let paths = no_append _ _ parts.1 in
    let size = no_append _ _ paths.0 in
    let naming = no_append _ _ size.0 in
    let twice = no_append _ _ naming.1 in
    let names = no_append _ _ twice.0 in
    record {
      rules = is_dimension (dimension_entry earlier) earlier (dimension_of t) (has_items as_str _ (under (codes "levels") t) levels.1) (has_items as_texts _ (under (codes "paths") t) last.1) parts.1;
      new_name = no_check _ _ names.0;
      new_column = no_check _ _ names.1;
    }

module _ (ts : List Members) (none : dimensions_faults ts ≡ []) where
  abbrev ds : List NamedDimension
  ds = map dimension_of ts

  follow : (k : ℕ) → k < length ts → Follows (map dimension_of (take k ts)) (dimension_of (get_or ts k no_members))
  follow k l = follows (map dimension_of (take k ts)) (get_or ts k no_members) (turn_at (λ before t. dimension_faults (map dimension_of before) t) ts k no_members l none)

  -- the text of each dimension is new behind those of the earlier ones
  new_texts : (text : NamedDimension → List ℕ) → ((k : ℕ) → k < length ts → list_any (λ e. bytes_eq (text (dimension_of (get_or ts k no_members))) (text e)) (map dimension_of (take k ts)) ≡ false) → AreDistinct (map text ds)
  new_texts text h = distinct_by_turns (map text ds) (λ k l.
      let long = length-map ts dimension_of in
      let longer = length-map ds text in
      let within : k < length ts = omega (arith, long, longer, l) in
      ap (λ x. list_any (bytes_eq x) (take k (map text ds))) (get_or-map text ds k (dimension_of (get_or ts k no_members)) [] (omega (arith, long, within)) ∙ ap text (get_or-map dimension_of ts k no_members (dimension_of (get_or ts k no_members)) within))
      ∙ ap (list_any (bytes_eq (text (dimension_of (get_or ts k no_members))))) (take-map text k ds ∙ ap (map text) (take-map dimension_of k ts))
      ∙ list_any-map text (bytes_eq (text (dimension_of (get_or ts k no_members)))) (map dimension_of (take k ts))
      ∙ h k within)

  pub dimension_names_distinct : AreDistinct (map (λ d. d.name) ds)
  dimension_names_distinct = new_texts (λ d. d.name) (λ k l. (follow k l).new_name)

  pub dimension_columns_distinct : AreDistinct (map (λ d. d.column) ds)
  dimension_columns_distinct = new_texts (λ d. d.column) (λ k l. (follow k l).new_column)

each_by_index : {X Y : Type 0} (P : Y → Type 0) (f : X → Y) (xs : List X) (d : X) → ((k : ℕ) → k < length xs → P (f (get_or xs k d))) → AllByRecursion P (map f xs)
each_by_index P f [] d h = tt
each_by_index P f (x ∷ xs) d h = (h zero (omega arith), each_by_index P f xs d (λ k l. h (suc k) (omega (arith, l))))

-- ---- the measures

few_decimals : (value : Option Data) → unwrap_or (decimals_in value) 0 ≤ 6
few_decimals value = few (unwrap_or (option_and_then as_integer value) (pos 0))
  where
    few : (z : ℤ) → unwrap_or (decimals_of z) 0 ≤ 6
    few (pos n) = tested (nat_le n 6) (λ t. rw t (leb-true n 6 t)) (λ f. rw f (omega arith))
    few (negsuc n) = omega arith

record FollowsMeasures (dimensions : List NamedDimension) (earlier : List NamedMeasure) (m : NamedMeasure) : Type 0 where
  pub rules : IsMeasure m
  pub new_name : list_any (λ e. bytes_eq m.name e.name) earlier ≡ false
  pub other_column : list_any (λ d. bytes_eq m.column d.column) dimensions ≡ false
  pub new_column : list_any (λ e. bytes_eq m.column e.column) earlier ≡ false

or_false : (a b : Bool) → (a || b) ≡ false → (a ≡ false) × (b ≡ false)
or_false true b h = absurd (false≢true (sym h))
or_false false b h = (refl, h)

follows_measures : (dimensions : List NamedDimension) (earlier : List NamedMeasure) (t : Members) → measure_faults dimensions earlier t ≡ [] → FollowsMeasures dimensions earlier (measure_of t)
unfolding measure_faults measure_of
follows_measures dimensions earlier t h =
    let parts = no_append _ _ h in
    let naming = no_append _ _ parts.0 in
    let names = no_append _ _ naming.1 in
    let bad = no_append _ _ names.0 in
    let twice = no_append _ _ names.1 in
    let columns = or_false _ _ (no_check _ _ twice.1) in
    record {
      rules = record {
        name = not_false _ (no_check _ _ bad.0);
        column = not_false _ (no_check _ _ bad.1);
        few_decimals = few_decimals (under (codes "decimals") t);
      };
      new_name = no_check _ _ twice.0;
      other_column = columns.0;
      new_column = columns.1;
    }

module _ (dimensions : List NamedDimension) (ts : List Members) (none : measures_faults dimensions ts ≡ []) where
  abbrev ms : List NamedMeasure
  ms = map measure_of ts

  follow_measures : (k : ℕ) → k < length ts → FollowsMeasures dimensions (map measure_of (take k ts)) (measure_of (get_or ts k no_members))
  follow_measures k l = follows_measures dimensions (map measure_of (take k ts)) (get_or ts k no_members) (turn_at (λ before t. measure_faults dimensions (map measure_of before) t) ts k no_members l none)

  -- how the text of a measure reads, and those of the earlier ones
  text_at : (text : NamedMeasure → List ℕ) (k : ℕ) → k < length ts → get_or (map text ms) k [] ≡ text (measure_of (get_or ts k no_members))
  text_at text k l =
      let long = length-map ts measure_of in
      get_or-map text ms k (measure_of (get_or ts k no_members)) [] (omega (arith, long, l)) ∙ ap text (get_or-map measure_of ts k no_members (measure_of (get_or ts k no_members)) l)

  texts_before : (text : NamedMeasure → List ℕ) (k : ℕ) → take k (map text ms) ≡ map text (map measure_of (take k ts))
  texts_before text k = take-map text k ms ∙ ap (map text) (take-map measure_of k ts)

  within : (text : NamedMeasure → List ℕ) (k : ℕ) → k < length (map text ms) → k < length ts
  within text k l = let long = length-map ts measure_of in let longer = length-map ms text in omega (arith, long, longer, l)

  pub measure_names_distinct : AreDistinct (map (λ m. m.name) ms)
  measure_names_distinct = distinct_by_turns (map (λ m. m.name) ms) (λ k l.
      let i = within (λ m. m.name) k l in
      ap (λ x. list_any (bytes_eq x) (take k (map (λ m. m.name) ms))) (text_at (λ m. m.name) k i)
      ∙ ap (list_any (bytes_eq (measure_of (get_or ts k no_members)).name)) (texts_before (λ m. m.name) k)
      ∙ list_any-map (λ m. m.name) (bytes_eq (measure_of (get_or ts k no_members)).name) (map measure_of (take k ts))
      ∙ (follow_measures k i).new_name)

  pub columns_distinct : AreDistinct (map (λ d. d.column) dimensions) → AreDistinct (map (λ d. d.column) dimensions ++ map (λ m. m.column) ms)
  columns_distinct once = distinct_behind (map (λ d. d.column) dimensions) (map (λ m. m.column) ms) once (λ k l.
      let i = within (λ m. m.column) k l in
      let column = (measure_of (get_or ts k no_members)).column in
      ap (λ x. list_any (bytes_eq x) (map (λ d. d.column) dimensions ++ take k (map (λ m. m.column) ms))) (text_at (λ m. m.column) k i)
      ∙ list_any-append (bytes_eq (measure_of (get_or ts k no_members)).column) (map (λ d. d.column) dimensions) (take k (map (λ m. m.column) ms))
      ∙ ap (λ b. b || list_any (bytes_eq (measure_of (get_or ts k no_members)).column) (take k (map (λ m. m.column) ms))) (list_any-map (λ d. d.column) (bytes_eq (measure_of (get_or ts k no_members)).column) dimensions ∙ (follow_measures k i).other_column)
      ∙ ap (list_any (bytes_eq (measure_of (get_or ts k no_members)).column)) (texts_before (λ m. m.column) k)
      ∙ list_any-map (λ m. m.column) (bytes_eq (measure_of (get_or ts k no_members)).column) (map measure_of (take k ts))
      ∙ (follow_measures k i).new_column)

-- ---- the file

pub is_dims : (t : Members) → dims_faults t ≡ [] → IsDims (dims_in t)
is_dims t h =
    let measures = no_append _ _ h in
    let cuboids = no_append _ _ measures.0 in
    let dimensions = no_append _ _ cuboids.0 in
    let counts = no_append _ _ dimensions.0 in
    let some_dimensions = no_append _ _ counts.0 in
    let some_measures = no_append _ _ counts.1 in
    let dimension_tables = tables_of (under (codes "dimension") t) in
    let measure_tables = tables_of (under (codes "measure") t) in
    let long = length-map (tables_of (under (codes "dimension") t)) dimension_of in
    let wide = length-map (tables_of (under (codes "measure") t)) measure_of in
    let has_dimensions = has_tables _ (under (codes "dimension") t) some_dimensions.0 in
    let has_measures = has_tables _ (under (codes "measure") t) some_measures.0 in
    let few_dimensions = ltb-false 8 (length (tables_of (under (codes "dimension") t))) (no_check _ _ some_dimensions.1) in
    let few_measures = ltb-false 16 (length (tables_of (under (codes "measure") t))) (no_check _ _ some_measures.1) in
    record {
      each_dimension = each_by_index IsDimension dimension_of (tables_of (under (codes "dimension") t)) no_members (λ k l. (follow (tables_of (under (codes "dimension") t)) dimensions.1 k l).rules);
      each_measure = each_by_index IsMeasure measure_of (tables_of (under (codes "measure") t)) no_members (λ k l. (follow_measures (dims_in t).dimensions (tables_of (under (codes "measure") t)) measures.1 k l).rules);
      has_dimensions = omega (arith, long, has_dimensions);
      few_dimensions = omega (arith, long, few_dimensions);
      has_measures = omega (arith, wide, has_measures);
      few_measures = omega (arith, wide, few_measures);
      few_cuboids = ltb-false 256 _ (no_check _ _ cuboids.1);
      distinct_dimensions = dimension_names_distinct (tables_of (under (codes "dimension") t)) dimensions.1;
      distinct_measures = measure_names_distinct (dims_in t).dimensions (tables_of (under (codes "measure") t)) measures.1;
      distinct_columns = columns_distinct (dims_in t).dimensions (tables_of (under (codes "measure") t)) measures.1 (dimension_columns_distinct (tables_of (under (codes "dimension") t)) dimensions.1);
    }

-- the rules, by what was checked and read one after another
pub rules_kept : (t : Members) (is js : List Data) (ds again once_more : List NamedDimension) (ms : List NamedMeasure)
    → is ≡ items_at (under (codes "dimension") t) → js ≡ items_at (under (codes "measure") t)
    → tables_faults Dimensions 8 (codes "dimension") (under (codes "dimension") t) ≡ [] → tables_faults Measures 16 (codes "measure") (under (codes "measure") t) ≡ []
    → dimensions_faults (map table_in is) ≡ [] → map dimension_of (map table_in is) ≡ ds
    → again ≡ ds → check (ltb 256 (cuboid_count (map plain again))) (Limit Cuboids 256) ≡ []
    → once_more ≡ ds → measures_faults once_more (map table_in js) ≡ [] → map measure_of (map table_in js) ≡ ms
    → IsDims (record { dimensions = ds; measures = ms })
rules_kept t is js ds again once_more ms i j a b d ds_is again_is few once_is m ms_is =
    let same : (dims_in t).dimensions ≡ ds = ap (λ ds. map dimension_of (map table_in ds)) (sym i) ∙ ds_is in
    let ms_same : (dims_in t).measures ≡ ms = ap (λ ms. map measure_of (map table_in ms)) (sym j) ∙ ms_is in
    let dimensions = subst (λ (ds : List Data). dimensions_faults (map table_in ds) ≡ []) i d in
    let cuboids = subst (λ (ds : List NamedDimension). check (ltb 256 (cuboid_count (map plain ds))) (Limit Cuboids 256) ≡ []) (again_is ∙ sym same) few in
    let measures = subst (λ (ds : List NamedDimension). measures_faults ds (tables_of (under (codes "measure") t)) ≡ []) (once_is ∙ sym same) (subst (λ (ms : List Data). measures_faults once_more (map table_in ms) ≡ []) j m) in
    subst (λ (xs : List NamedMeasure). IsDims (record { dimensions = ds; measures = xs })) ms_same
    (subst (λ (xs : List NamedDimension). IsDims (record { dimensions = xs; measures = (dims_in t).measures })) same
    (is_dims t (both_nothing _ _ (both_nothing _ _ (both_nothing _ _ (both_nothing _ _ a b) dimensions) cuboids) measures)))
