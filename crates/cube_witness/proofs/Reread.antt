-- A written fact file is read as its cube.
use Rattle.std.specs.Prelude.{Ok, Err}
use Rattle.std.proofs.Common.{◌≡◌, ℕ, zero, suc, ◌+◌, ◌<◌, ◌≤◌, Bool, true, false, cond, List, [], ◌∷◌, ◌++◌, length, map, flat_map, ℤ, refl, sym, ap, ap₂, ◌∙◌, subst, arith, append_assoc}
use Rattle.std.specs.List.{join_with_byte, AllByRecursion}
use Rattle.std.proofs.lemmas.List.{length-map, length-append}
use Rattle.csv.specs.Reading.{strip_bom, default_config, records_from}
use Rattle.csv.specs.declared.parser.State.TheVariants as st
use Rattle.cube_model.specs.declared.shape.Shape.{Shape}
use Rattle.cube_model.specs.Checks.{unless}
use Rattle.cube_model.specs.Cores.{Core}
use Rattle.cube_model.specs.Cubes.{count_from, IsIn}
use Rattle.cube_model.specs.Dims.{Dims, IsDims, IsDimension, NamedDimension, NamedMeasure, column_names}
use Rattle.cube_model.specs.Names.{is_name, begins_with_mark}
use Rattle.cube_text.specs.Quoting.{field, csv_line}
use Rattle.cube_facts.specs.declared.fault.FactsFault.{FactsFault}
use Rattle.cube_facts.specs.declared.fault.FactsFault.TheVariants as fault
use Rattle.cube_facts.specs.FactFile.{Fact, facts_of, facts_in, fact_of, filled, filled_of}
use Rattle.cube_facts.specs.Records.{records_of}
use Rattle.cube_witness.specs.TwinFile.{facts_at, facts_text, place_lines}
use Rattle.cube_witness.specs.Rereading.{IsCarried, FilesReadBack, fact_fields, place_rows, fact_rows}
use Rattle.cube_witness.proofs.Faultless.{columns_fine, records_fine, row_of, has_facts}
use Rattle.cube_witness.proofs.Marks.{strip_same, no_mark}
use Rattle.cube_witness.proofs.PlacedFacts.{all_facts, facts_read, shape_read, cube_read}
use Rattle.cube_witness.proofs.Lined.{AreWide, many_bytes, lines_read, lines_map, lines_nest}
use Rattle.cube_witness.proofs.Written.{fields_long}

-- the text is the lines of its records
text_lines : (s : Dims) (g : Shape) (cube : List (List ℤ)) → facts_text s g cube ≡ flat_map csv_line (column_names s ∷ fact_rows s g cube)
text_lines s g cube = ap (λ (t : List ℕ). csv_line (column_names s) ++ t) (lines_nest (place_lines s g cube) (place_rows s g cube) (count_from 0 (length g.points)) (λ i. lines_map (fact_fields s g cube i) (count_from 0 (facts_at g i))))

-- it begins with no mark
line_plain : (x y : List ℕ) (ys : List (List ℕ)) (rest : List ℕ) → is_name x ≡ true → begins_with_mark (csv_line (x ∷ y ∷ ys) ++ rest) ≡ false
line_plain x y ys rest e =
    let others = join_with_byte 44 (map field (y ∷ ys)) in
    let line : csv_line (x ∷ y ∷ ys) ++ rest ≡ field x ++ 44 ∷ ((others ++ 10 ∷ []) ++ rest) = ap (λ (t : List ℕ). t ++ rest) (append_assoc (field x) (44 ∷ others) (10 ∷ [])) ∙ append_assoc (field x) (44 ∷ (others ++ 10 ∷ [])) rest in
    ap begins_with_mark line ∙ no_mark x ((others ++ 10 ∷ []) ++ rest) e

header_plain : (ds : List NamedDimension) (ms : List NamedMeasure) (rest : List ℕ) → AllByRecursion IsDimension ds → 1 ≤ length ds → 1 ≤ length ms → begins_with_mark (csv_line (map (λ (d : NamedDimension). d.column) ds ++ map (λ (m : NamedMeasure). m.column) ms) ++ rest) ≡ false
header_plain [] ms rest ok a b = absurd (omega (arith, a))
header_plain (d ∷ []) [] rest ok a b = absurd (omega (arith, b))
header_plain (d ∷ []) (m ∷ ms) rest ok a b = line_plain d.column m.column (map (λ (m : NamedMeasure). m.column) ms) rest ok.0.column
header_plain (d ∷ e ∷ ds) ms rest ok a b = line_plain d.column e.column (map (λ (d : NamedDimension). d.column) ds ++ map (λ (m : NamedMeasure). m.column) ms) rest ok.0.column

all_wide : (rows : List (List (List ℕ))) → ((row : List (List ℕ)) → IsIn row rows → 2 ≤ length row) → AreWide rows
all_wide [] h = tt
all_wide (row ∷ rows) h = (h row (Rattle.std.proofs.Common.inl refl), all_wide rows (λ r k. h r (Rattle.std.proofs.Common.inr k)))

columns_long : (s : Dims) → length (column_names s) ≡ length s.dimensions + length s.measures
columns_long s = length-append (map (λ (d : NamedDimension). d.column) s.dimensions) (map (λ (m : NamedMeasure). m.column) s.measures) ∙ ap₂ (λ (a b : ℕ). a + b) (length-map s.dimensions (λ (d : NamedDimension). d.column)) (length-map s.measures (λ (m : NamedMeasure). m.column))

two_columns : (s : Dims) → IsDims s → 2 ≤ length s.dimensions + length s.measures
two_columns s ok = let a = ok.has_dimensions in let b = ok.has_measures in omega (arith, a, b)

module _ (c : Core) (cube : List (List ℤ)) (ok : IsCarried c cube) where
  wide : AreWide (column_names c.dims ∷ fact_rows c.dims c.shape cube)
  wide =
      let two = two_columns c.dims ok.rules.dims in (
        (let a = columns_long c.dims in omega (arith, a, two)),
        all_wide (fact_rows c.dims c.shape cube) (λ row h.
            let m = row_of c cube row h in
            let long = ap length (sym m.is) ∙ fields_long c cube ok m.place m.number m.there (has_facts c m.place ok.rules m.there) in
            omega (arith, long, two)),
      )

  lines : facts_text c.dims c.shape cube ≡ flat_map csv_line (column_names c.dims ∷ fact_rows c.dims c.shape cube)
  lines = text_lines c.dims c.shape cube

  plain : begins_with_mark (facts_text c.dims c.shape cube) ≡ false
  plain = ap begins_with_mark lines ∙ header_plain c.dims.dimensions c.dims.measures (flat_map csv_line (fact_rows c.dims c.shape cube)) ok.rules.dims.each_dimension ok.rules.dims.has_dimensions ok.rules.dims.has_measures

  stripped : strip_bom (facts_text c.dims c.shape cube) ≡ facts_text c.dims c.shape cube
  stripped = strip_same (facts_text c.dims c.shape cube) plain

  recorded : records_of (facts_text c.dims c.shape cube) ≡ column_names c.dims ∷ fact_rows c.dims c.shape cube
  recorded =
      let all = column_names c.dims ∷ fact_rows c.dims c.shape cube in
      let bytes = many_bytes all in
      ap (λ (t : List ℕ). records_from default_config (length t + 1) st.StartRecord t) (stripped ∙ lines) ∙ lines_read all (length (flat_map csv_line all) + 1) wide (omega (arith, bytes))

  facts : facts_of c.dims (facts_text c.dims c.shape cube) ≡ Ok (all_facts c cube)
  unfolding facts_of
  facts =
      ap₂ (λ (b : Bool) (rs : List (List (List ℕ))). cond b (Err fault.NoHeader) (facts_in c.dims rs)) (ap begins_with_mark stripped ∙ plain) recorded
      ∙ ap₂ (λ (a b : List FactsFault). unless (a ++ b) (map (fact_of c.dims (column_names c.dims)) (fact_rows c.dims c.shape cube))) (columns_fine c ok.rules) (records_fine c cube ok)
      ∙ ap (λ (fs : List Fact). Ok fs) (facts_read c cube ok)

  pub read_back : filled_of c.dims (facts_text c.dims c.shape cube) ≡ Ok (c.shape, cube)
  read_back = ap (filled c.dims) facts ∙ ap₂ (λ (g : Shape) (vs : List (List ℤ)). Ok (g, vs)) (shape_read c cube ok) (cube_read c cube ok)

pub files_read_back : FilesReadBack
files_read_back c cube ok = read_back c cube ok
