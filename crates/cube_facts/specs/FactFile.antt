-- Fact files: a header, and behind it records of leaves and numbers, in columns that dimensions and measures name.
use Rattle.std.specs.Prelude.{ℕ, ◌+◌, not, ◌&&◌, ◌==◌, nat_lt, nat_le, List, [], ◌∷◌, ◌++◌, length, map, filter, flat_map, zip, count_by, slice_index_or, if◌then◌else◌, Option, is_none, unwrap_or, Result, Ok, Err, ℤ, pos, ◌+ℤ◌}
use Rattle.std.specs.Str.{bytes_eq}
use Rattle.csv.specs.Reading.{strip_bom}
use Rattle.csv.specs.Records.{field_at}
use Rattle.cube_model.specs.declared.shape.Shape.{Shape}
use Rattle.cube_model.specs.declared.limit.LimitKind.TheVariants as limit
use Rattle.cube_model.specs.Checks.{check, in_turn, unless}
use Rattle.cube_model.specs.Cubes.{same, in_order, count_from}
use Rattle.cube_model.specs.Dims.{Dims, NamedDimension, NamedMeasure, members, found, column_names}
use Rattle.cube_model.specs.Names.{begins_with_mark}
use Rattle.cube_text.specs.Units.{units_of}
use Rattle.cube_facts.specs.Records.{records_of, most_facts, value_faults, ok_or_zero}
use Rattle.cube_facts.specs.declared.fault.FactsFault.{FactsFault}
use Rattle.cube_facts.specs.declared.fault.FactsFault.TheVariants as fault

-- a fact: a leaf of each dimension, and the units of each measure
pub record Fact : Type 0 where
  pub leaves : List ℕ
  pub units : List ℤ

-- ---- what a record says

-- the field of a record in the column of a name
abbrev pub field_in : List (List ℕ) → List (List ℕ) → List ℕ → List ℕ
field_in header fields name = unwrap_or (field_at fields (unwrap_or (found name header) 0)) []

-- the number of the leaf of a name, where the dimension has it
abbrev pub leaf_of : NamedDimension → List ℕ → Option ℕ
leaf_of d name = found name (members d 0)

abbrev pub leaf_in : List (List ℕ) → List (List ℕ) → NamedDimension → ℕ
leaf_in header fields d = unwrap_or (leaf_of d (field_in header fields d.column)) 0

abbrev pub units_in : List (List ℕ) → List (List ℕ) → NamedMeasure → ℤ
units_in header fields m = ok_or_zero (units_of m.decimals (field_in header fields m.column))

abbrev pub leaves_of : Dims → List (List ℕ) → List (List ℕ) → List ℕ
leaves_of s header fields = map (leaf_in header fields) s.dimensions

abbrev pub fact_of : Dims → List (List ℕ) → List (List ℕ) → Fact
fact_of s header fields = record { leaves = leaves_of s header fields; units = map (units_in header fields) s.measures }

-- ---- faults

-- no column, or more than one, has the name
abbrev pub column_faults : List (List ℕ) → List ℕ → List FactsFault
column_faults header name =
    check (count_by (bytes_eq name) header == 0) (fault.MissingColumn name)
    ++ check (nat_lt 1 (count_by (bytes_eq name) header)) (fault.ColumnTwice name)

-- a field under a column of this name is no leaf of the dimension that the column is for
abbrev pub leaf_faults : ℕ → List ℕ × List ℕ → NamedDimension → List FactsFault
leaf_faults row e d = check (bytes_eq e.0 d.column && is_none (leaf_of d e.1)) (fault.UnknownMember row e.0)

-- it is no number of the measure that the column is for
abbrev pub number_faults : ℕ → List ℕ × List ℕ → NamedMeasure → List FactsFault
number_faults row e m = if bytes_eq e.0 m.column then value_faults row e.0 (units_of m.decimals e.1) else []

-- The faults of a field under its column. A column that is for nothing is not looked at.
abbrev pub field_faults : Dims → ℕ → List ℕ × List ℕ → List FactsFault
field_faults s row e = flat_map (leaf_faults row e) s.dimensions ++ flat_map (number_faults row e) s.measures

-- the most points
abbrev pub most_points : ℕ
most_points = 65536

-- the distinct leaf vectors of some records, in order
abbrev pub points_in : Dims → List (List ℕ) → List (List (List ℕ)) → List (List ℕ)
points_in s header rows = in_order (map (leaves_of s header) rows)

-- the faults of a record by itself, behind so many: there are enough already, another number of fields than there are columns,
-- the faults of its fields in the order of the header
abbrev pub own_faults : Dims → List (List ℕ) → ℕ → List (List ℕ) → List FactsFault
own_faults s header count fields =
    check (nat_le most_facts count) (fault.Limit limit.Facts most_facts)
    ++ check (not (length fields == length header)) (fault.Fields (count + 1))
    ++ flat_map (field_faults s (count + 1)) (zip header fields)

-- the faults of a record behind the earlier ones: its own, and one point too many
abbrev pub record_faults : Dims → List (List ℕ) → List (List (List ℕ)) → List (List ℕ) → List FactsFault
record_faults s header earlier fields =
    own_faults s header (length earlier) fields
    ++ check (nat_lt most_points (length (points_in s header (earlier ++ fields ∷ [])))) (fault.Limit limit.Points most_points)

-- ---- what a file says

-- the facts of a header and the records behind it, or the first fault
abbrev pub facts_in : Dims → List (List (List ℕ)) → Result (List Fact) FactsFault
facts_in s [] = Err fault.NoHeader
facts_in s (header ∷ rows) = unless
    (flat_map (column_faults header) (column_names s) ++ in_turn (record_faults s header) [] rows)
    (map (fact_of s header) rows)

-- The facts that the bytes of a fact file say, in their order, or their first fault. A file with a second byte order mark has no
-- header.
unfoldable pub facts_of : Dims → List ℕ → Result (List Fact) FactsFault
facts_of s bytes = if begins_with_mark (strip_bom bytes) then Err fault.NoHeader else facts_in s (records_of bytes)

-- ---- shape and cube

-- the distinct leaf vectors in lexicographic order
abbrev pub points_of : List Fact → List (List ℕ)
points_of facts = in_order (map (λ f. f.leaves) facts)

-- the facts at a point
abbrev pub facts_at : List Fact → List ℕ → List Fact
facts_at facts x = filter (λ f. same x f.leaves) facts

-- the plain sum of the units of a measure
abbrev pub units_sum : ℕ → List Fact → ℤ
units_sum m [] = pos 0
units_sum m (f ∷ fs) = slice_index_or f.units m (pos 0) +ℤ units_sum m fs

-- the points, each with the number of its facts
abbrev pub shape_of : List Fact → Shape
shape_of facts = record { points = points_of facts; facts = map (λ x. length (facts_at facts x)) (points_of facts) }

-- for each measure the plain sum at each point
abbrev pub cube_of : Dims → List Fact → List (List ℤ)
cube_of s facts = map (λ m. map (λ x. units_sum m (facts_at facts x)) (points_of facts)) (count_from 0 (length s.measures))

abbrev pub filled : Dims → Result (List Fact) FactsFault → Result (Shape × List (List ℤ)) FactsFault
filled s (Ok facts) = Ok (shape_of facts, cube_of s facts)
filled s (Err fault) = Err fault

-- The shape and the cube that the bytes of a fact file make, or their first fault.
abbrev pub filled_of : Dims → List ℕ → Result (Shape × List (List ℤ)) FactsFault
filled_of s bytes = filled s (facts_of s bytes)
