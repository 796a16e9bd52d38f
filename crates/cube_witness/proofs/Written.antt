-- What the fields of a written fact say.
use Rattle.std.specs.List.{AllByRecursion}
use Rattle.std.specs.Prelude.{unwrap_or, Ok}
use Rattle.std.proofs.Common.{◌≡◌, ℕ, zero, suc, ◌+◌, ◌<◌, List, [], ◌∷◌, length, map, get_or, Option, Some, ℤ, pos, refl, sym, ap, ap₂, ◌∙◌, arith, length-append}
use Rattle.std.proofs.lemmas.Bool.{lt-ltb}
use Rattle.std.proofs.lemmas.List.{length-map}
use Rattle.cube_model.specs.Cores.{Core}
use Rattle.cube_model.specs.Cubes.{count_from, names_at, IsPoint}
use Rattle.cube_model.specs.Dims.{IsDimension, IsMeasure, NamedDimension, NamedMeasure, plain, plains, members, found, no_dimension, no_measure, measure_at, dimension_at, column_names}
use Rattle.cube_model.proofs.DimsFacts.{length-names_at}
use Rattle.cube_model.proofs.Sources.{Each-get_or}
use Rattle.cube_model.proofs.Sums.{length-count_from}
use Rattle.cube_core.proofs.Points.{length-point, leaf_below, dimension_of}
use Rattle.cube_text.specs.Keys.{key_names}
use Rattle.cube_text.specs.Units.{units_of}
use Rattle.cube_text.proofs.UnitsReadBack.{units_read}
use Rattle.cube_facts.specs.FactFile.{field_in, leaf_of, leaf_in, units_in, leaves_of, fact_of}
use Rattle.cube_facts.specs.Records.{ok_or_zero}
use Rattle.cube_witness.specs.Leaves.{leaves, leaf_names}
use Rattle.cube_witness.specs.Shares.{share}
use Rattle.cube_witness.specs.TwinFile.{facts_at, value_at, share_text}
use Rattle.cube_witness.specs.Rereading.{IsCarried, fact_fields}
use Rattle.cube_witness.proofs.Columns.{found_own, field_there, in_front, behind, mapped, numbered, by_number}
use Rattle.cube_witness.proofs.Sharing.{share_within}

-- ---- names of leaves

abbrev pub zeros : List NamedDimension → List ℕ
zeros ds = map (λ d. 0) ds

names_long : (ds : List NamedDimension) (xs : List ℕ) → AllByRecursion IsDimension ds → length xs ≡ length ds → length (key_names ds (zeros ds) xs) ≡ length ds
names_long [] xs ok e = refl
names_long (d ∷ ds) [] ok e = absurd (omega (arith, e))
names_long (d ∷ ds) (x ∷ xs) ok e =
    let some = ok.0.has_levels in
    rw (lt-ltb 0 (length d.levels) (omega (arith, some))) (ap suc (names_long ds xs ok.1 (omega (arith, e))))

name_at : (ds : List NamedDimension) (xs : List ℕ) (k : ℕ) → AllByRecursion IsDimension ds → length xs ≡ length ds → k < length ds → get_or (key_names ds (zeros ds) xs) k [] ≡ get_or (members (get_or ds k no_dimension) 0) (get_or xs k 0) []
name_at [] xs k ok e l = absurd (omega (arith, l))
name_at (d ∷ ds) [] k ok e l = absurd (omega (arith, e))
name_at (d ∷ ds) (x ∷ xs) zero ok e l = let some = ok.0.has_levels in rw (lt-ltb 0 (length d.levels) (omega (arith, some))) refl
name_at (d ∷ ds) (x ∷ xs) (suc k) ok e l = let some = ok.0.has_levels in rw (lt-ltb 0 (length d.levels) (omega (arith, some))) (name_at ds xs k ok.1 (omega (arith, e)) (omega (arith, l)))

-- a leaf is found by its name
leaf_found : (d : NamedDimension) (x : ℕ) → IsDimension d → x < length d.paths → leaf_of d (get_or (members d 0) x []) ≡ Some x
leaf_found d x ok l =
    let names : members d 0 ≡ names_at (plain d) 0 = ok.distinct_leaves in
    let many = length-names_at d 0 in
    let same : leaf_of d (get_or (members d 0) x []) ≡ found (get_or (names_at (plain d) 0) x []) (names_at (plain d) 0) = ap₂ (λ (xs ys : List (List ℕ)). found (get_or xs x []) ys) names names in
    same ∙ found_own (names_at (plain d) 0) x ok.distinct_leaves (omega (arith, many, l))

measure_of : (ms : List NamedMeasure) (k : ℕ) → AllByRecursion IsMeasure ms → k < length ms → IsMeasure (get_or ms k no_measure)
measure_of [] k h l = absurd (omega (arith, l))
measure_of (m ∷ ms) zero h l = h.0
measure_of (m ∷ ms) (suc k) h l = measure_of ms k h.1 (omega (arith, l))

-- ---- a record

module _ (c : Core) (cube : List (List ℤ)) (ok : IsCarried c cube) (i k : ℕ) (here : i < length c.shape.points) (some : 0 < facts_at c.shape i) where
  is_point : IsPoint (plains c.dims) (leaves c.shape i)
  is_point = Each-get_or (IsPoint (plains c.dims)) c.shape.points i [] ok.rules.points here

  names_many : length (leaf_names c.dims c.shape i) ≡ length c.dims.dimensions
  names_many = names_long c.dims.dimensions (leaves c.shape i) ok.rules.dims.each_dimension (length-point c.dims.dimensions (leaves c.shape i) is_point)

  header_front : length (map (λ (d : NamedDimension). d.column) c.dims.dimensions) ≡ length c.dims.dimensions
  header_front = length-map c.dims.dimensions (λ (d : NamedDimension). d.column)

  pub header_long : length (column_names c.dims) ≡ length c.dims.dimensions + length c.dims.measures
  header_long = length-append (map (λ (d : NamedDimension). d.column) c.dims.dimensions) (map (λ (m : NamedMeasure). m.column) c.dims.measures) ∙ ap₂ (λ (a b : ℕ). a + b) header_front (length-map c.dims.measures (λ (m : NamedMeasure). m.column))

  pub fields_long : length (fact_fields c.dims c.shape cube i k) ≡ length c.dims.dimensions + length c.dims.measures
  fields_long = length-append (leaf_names c.dims c.shape i) (map (share_text c.dims c.shape cube i k) (count_from 0 (length c.dims.measures)))
      ∙ ap₂ (λ (a b : ℕ). a + b) names_many (length-map (count_from 0 (length c.dims.measures)) (share_text c.dims c.shape cube i k) ∙ length-count_from 0 (length c.dims.measures))

  -- the columns by number
  pub dimension_column : (d : ℕ) → d < length c.dims.dimensions → get_or (column_names c.dims) d [] ≡ (dimension_at c.dims d).column
  dimension_column d l = in_front (map (λ (e : NamedDimension). e.column) c.dims.dimensions) (map (λ (m : NamedMeasure). m.column) c.dims.measures) d [] (omega (arith, header_front, l)) ∙ mapped (λ (e : NamedDimension). e.column) c.dims.dimensions d no_dimension [] l

  pub measure_column : (m : ℕ) → m < length c.dims.measures → get_or (column_names c.dims) (length c.dims.dimensions + m) [] ≡ (measure_at c.dims m).column
  measure_column m l = behind (map (λ (e : NamedDimension). e.column) c.dims.dimensions) (map (λ (m : NamedMeasure). m.column) c.dims.measures) m (length c.dims.dimensions + m) [] (ap (λ (n : ℕ). n + m) (sym header_front)) ∙ mapped (λ (e : NamedMeasure). e.column) c.dims.measures m no_measure [] l

  -- the fields by number
  leaf_field : (d : ℕ) → d < length c.dims.dimensions → get_or (fact_fields c.dims c.shape cube i k) d [] ≡ get_or (members (dimension_at c.dims d) 0) (get_or (leaves c.shape i) d 0) []
  leaf_field d l = in_front (leaf_names c.dims c.shape i) (map (share_text c.dims c.shape cube i k) (count_from 0 (length c.dims.measures))) d [] (omega (arith, names_many, l)) ∙ name_at c.dims.dimensions (leaves c.shape i) d ok.rules.dims.each_dimension (length-point c.dims.dimensions (leaves c.shape i) is_point) l

  number_field : (m : ℕ) → m < length c.dims.measures → get_or (fact_fields c.dims c.shape cube i k) (length c.dims.dimensions + m) [] ≡ share_text c.dims c.shape cube i k m
  number_field m l =
      let size = length-count_from 0 (length c.dims.measures) in
      let at = numbered 0 (length c.dims.measures) m l in
      let zero_more : 0 + m ≡ m = omega arith in
      behind (leaf_names c.dims c.shape i) (map (share_text c.dims c.shape cube i k) (count_from 0 (length c.dims.measures))) m (length c.dims.dimensions + m) [] (ap (λ (n : ℕ). n + m) (sym names_many))
      ∙ mapped (share_text c.dims c.shape cube i k) (count_from 0 (length c.dims.measures)) m 0 [] (omega (arith, size, l)) ∙ ap (share_text c.dims c.shape cube i k) (at ∙ zero_more)

  -- the field in a column
  field_of : (name : List ℕ) (j : ℕ) → j < length c.dims.dimensions + length c.dims.measures → name ≡ get_or (column_names c.dims) j [] → field_in (column_names c.dims) (fact_fields c.dims c.shape cube i k) name ≡ get_or (fact_fields c.dims c.shape cube i k) j []
  field_of name j l e =
      let number : found name (column_names c.dims) ≡ Some j = ap (λ (x : List ℕ). found x (column_names c.dims)) e ∙ found_own (column_names c.dims) j ok.rules.dims.distinct_columns (omega (arith, header_long, l)) in
      rw (number, field_there (fact_fields c.dims c.shape cube i k) j (omega (arith, fields_long, l))) refl

  pub leaf_read : (d : ℕ) → d < length c.dims.dimensions → leaf_of (dimension_at c.dims d) (get_or (fact_fields c.dims c.shape cube i k) d []) ≡ Some (get_or (leaves c.shape i) d 0)
  leaf_read d l = ap (leaf_of (dimension_at c.dims d)) (leaf_field d l) ∙ leaf_found (dimension_at c.dims d) (get_or (leaves c.shape i) d 0) (dimension_of c.dims.dimensions d ok.rules.dims.each_dimension l) (leaf_below c.dims.dimensions (leaves c.shape i) d is_point l)

  pub number_read : (m : ℕ) → m < length c.dims.measures → units_of (measure_at c.dims m).decimals (get_or (fact_fields c.dims c.shape cube i k) (length c.dims.dimensions + m) []) ≡ Ok (share (value_at cube m i) (facts_at c.shape i) k)
  number_read m l =
      ap (units_of (measure_at c.dims m).decimals) (number_field m l)
      ∙ units_read (measure_at c.dims m).decimals (share (value_at cube m i) (facts_at c.shape i) k) (measure_of c.dims.measures m ok.rules.dims.each_measure l).few_decimals (share_within (value_at cube m i) (facts_at c.shape i) k 1000000000000 some (ok.within m i l here))

  -- the fact that the record says
  pub leaves_read : leaves_of c.dims (column_names c.dims) (fact_fields c.dims c.shape cube i k) ≡ leaves c.shape i
  leaves_read = by_number (leaf_in (column_names c.dims) (fact_fields c.dims c.shape cube i k)) c.dims.dimensions no_dimension 0 (leaves c.shape i) (length-point c.dims.dimensions (leaves c.shape i) is_point)
      (λ d l. sym (ap (λ (x : List ℕ). unwrap_or (leaf_of (dimension_at c.dims d) x) 0) (field_of (dimension_at c.dims d).column d (omega (arith, l)) (sym (dimension_column d l))) ∙ ap (λ (o : Option ℕ). unwrap_or o 0) (leaf_read d l)))

  units_read_in : map (units_in (column_names c.dims) (fact_fields c.dims c.shape cube i k)) c.dims.measures ≡ map (λ m. share (value_at cube m i) (facts_at c.shape i) k) (count_from 0 (length c.dims.measures))
  units_read_in =
      let size = length-count_from 0 (length c.dims.measures) in
      by_number (units_in (column_names c.dims) (fact_fields c.dims c.shape cube i k)) c.dims.measures no_measure (pos 0) (map (λ m. share (value_at cube m i) (facts_at c.shape i) k) (count_from 0 (length c.dims.measures)))
      (length-map (count_from 0 (length c.dims.measures)) (λ (m : ℕ). share (value_at cube m i) (facts_at c.shape i) k) ∙ size)
      (λ m l.
      let at = numbered 0 (length c.dims.measures) m l in
      let zero_more : 0 + m ≡ m = omega arith in
      mapped (λ (m : ℕ). share (value_at cube m i) (facts_at c.shape i) k) (count_from 0 (length c.dims.measures)) m 0 (pos 0) (omega (arith, size, l)) ∙ ap (λ (m : ℕ). share (value_at cube m i) (facts_at c.shape i) k) (at ∙ zero_more)
      ∙ sym (ap (λ (x : List ℕ). ok_or_zero (units_of (measure_at c.dims m).decimals x)) (field_of (measure_at c.dims m).column (length c.dims.dimensions + m) (omega (arith, l)) (sym (measure_column m l))) ∙ ap ok_or_zero (number_read m l)))

  pub fact_read : fact_of c.dims (column_names c.dims) (fact_fields c.dims c.shape cube i k) ≡ record { leaves = leaves c.shape i; units = map (λ m. share (value_at cube m i) (facts_at c.shape i) k) (count_from 0 (length c.dims.measures)) }
  fact_read = ap₂ (λ (xs : List ℕ) (us : List ℤ). record { leaves = xs; units = us }) leaves_read units_read_in
