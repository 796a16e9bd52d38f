-- A flat file, record by record.
use Rattle.std.proofs.Common.{◌≡◌, ◌<◌, ◌≤◌, ℕ, zero, suc, ◌+◌, ◌-◌, ◌*◌, List, [], ◌∷◌, ◌++◌, length, take, drop, map, true, false, Some, Result, Ok, Err, ℤ, refl, sym, ap, ◌∙◌, append_assoc, append-nil, length-append, All, arith}
use Rattle.std.proofs.Common.{length-drop, nat_lt}
use Rattle.std.proofs.Math.Nat.{suc-mul, zero-mul}
use Rattle.std.proofs.lemmas.List.{take_all, length-take-le}
use Rattle.std.proofs.lemmas.List.Elements.{All-push}
use Rattle.std.proofs.lemmas.Bool.Decides.{nat_tests}
use Rattle.csv.specs.Reading.{strip_bom}
use Rattle.cube_model.specs.Names.{begins_with_mark}
use Rattle.cube_model.specs.Checks.{in_turn, unless}
use Rattle.cube_model.specs.Protection.{first}
use Rattle.cube_text.specs.Units.{units_of}
use Rattle.cube_facts.specs.declared.fault.FactsFault.{FactsFault}
use Rattle.cube_facts.specs.declared.fault.FactsFault.TheVariants as fault
use Rattle.cube_facts.specs.Records.{records_of, ok_or_zero}
use Rattle.cube_facts.specs.Flat.{Flat, FlatRow, last_field, row_faults, flat_faults, flat_row, flat_of}
use Rattle.cube_facts.specs.Table.{IsUnits, rows_in, IsTable}

-- what is said where the first fault of some is known
pub unless_first : {F X : Type 0} (fs more : List F) (e : F) (x : X) → first fs ≡ Some e → unless (fs ++ more) x ≡ Err e
unless_first [] more e x h = absurd (cc)
unless_first (f ∷ fs) more e x h = let is : f ≡ e = cc in ap Err is

-- what is left to say of a file behind some records without a fault
abbrev pub rest_of : List (List ℕ) → List (List (List ℕ)) → List FlatRow → List (List (List ℕ)) → Result Flat FactsFault
rest_of header earlier rows left = unless (in_turn (flat_faults header) earlier left) (record { width = length header - 1; rows = rows ++ map flat_row left })

-- a record without a fault
pub rest_more : (header : List (List ℕ)) (earlier : List (List (List ℕ))) (rows : List FlatRow) (fields : List (List ℕ)) (left : List (List (List ℕ)))
    → row_faults (length header) (last_field header) (length earlier) fields ≡ []
    → rest_of header earlier rows (fields ∷ left) ≡ rest_of header (earlier ++ fields ∷ []) (rows ++ flat_row fields ∷ []) left
rest_more header earlier rows fields left none = rw none (ap (λ (rs : List FlatRow). unless (in_turn (flat_faults header) (earlier ++ fields ∷ []) left) (record { width = length header - 1; rows = rs })) (sym (append_assoc rows (flat_row fields ∷ []) (map flat_row left))))

-- a record with a fault
pub rest_fault : (header : List (List ℕ)) (earlier : List (List (List ℕ))) (rows : List FlatRow) (fields : List (List ℕ)) (left : List (List (List ℕ))) (e : FactsFault)
    → first (row_faults (length header) (last_field header) (length earlier) fields) ≡ Some e
    → rest_of header earlier rows (fields ∷ left) ≡ Err e
rest_fault header earlier rows fields left e h = unless_first (row_faults (length header) (last_field header) (length earlier) fields) (in_turn (flat_faults header) (earlier ++ fields ∷ []) left) e _ h

-- no record is left
pub rest_none : (header : List (List ℕ)) (earlier : List (List (List ℕ))) (rows : List FlatRow) → rest_of header earlier rows [] ≡ Ok (record { width = length header - 1; rows = rows })
rest_none header earlier rows = rw append-nil refl

-- ---- the table

drop_append : (xs ys : List (List ℕ)) (n : ℕ) → n ≤ length xs → drop n (xs ++ ys) ≡ drop n xs ++ ys
drop_append xs ys zero h = refl
drop_append [] ys (suc n) h = absurd (omega (arith, h))
drop_append (x ∷ xs) ys (suc n) h = drop_append xs ys n (omega (arith, h))

take_append : (xs ys : List (List ℕ)) (n : ℕ) → n ≤ length xs → take n (xs ++ ys) ≡ take n xs
take_append xs ys zero h = refl
take_append [] ys (suc n) h = absurd (omega (arith, h))
take_append (x ∷ xs) ys (suc n) h = ap (λ (l : List (List ℕ)). x ∷ l) (take_append xs ys n (omega (arith, h)))

row_and_rest : (width n long : ℕ) → long ≡ suc n * width → long ≡ width + n * width
row_and_rest width n long e = let m = suc-mul n width in omega (arith, e, m)

-- one row more
pub rows_more : (width : ℕ) (fields row : List (List ℕ)) (values : List ℤ) (v : ℤ) → length fields ≡ length values * width → length row ≡ width
    → rows_in width (fields ++ row) (values ++ v ∷ []) ≡ rows_in width fields values ++ (record { fields = row; value = v }) ∷ []
rows_more width [] row [] v even long =
    let all = take_all width row (omega (arith, long)) in
    ap (λ (l : List (List ℕ)). record { fields = l; value = v } ∷ []) all
rows_more width (x ∷ xs) row [] v even long = absurd (omega (arith, even))
rows_more width fields row (u ∷ us) v even long =
    let split : length fields ≡ width + length us * width = row_and_rest width (length us) (length fields) even in
    let enough : width ≤ length fields = omega (arith, split) in
    let behind : length (drop width fields) ≡ length us * width = omega (arith, split, length-drop width fields) in
    let rest = rows_more width (drop width fields) row us v behind long in
    rw (take_append fields row width enough, drop_append fields row width enough) (ap (λ (rs : List FlatRow). record { fields = take width fields; value = u } ∷ rs) rest)

-- the table with one row more keeps its rules
pub table_more : (width : ℕ) (fields row : List (List ℕ)) (values : List ℤ) (v : ℤ) → IsTable width fields values → length row ≡ width → length values < 1000000 → IsUnits v
    → IsTable width (fields ++ row) (values ++ v ∷ [])
table_more width fields row values v t long few units = record {
  even = length-append fields row ∙ rw (length-append values (v ∷ [])) (even_more (length fields) (length row) (length values) t.even long);
  few = rw (length-append values (v ∷ [])) (omega (arith, few));
  bounded = All-push IsUnits values v t.bounded units;
}
  where
    even_more : (a b n : ℕ) → a ≡ n * width → b ≡ width → a + b ≡ (n + 1) * width
    even_more a b n e f = let one : n + 1 ≡ suc n = omega arith in rw one (let m = suc-mul n width in omega (arith, e, f, m))

-- ---- how a file begins

pub start_marked : (bytes : List ℕ) → begins_with_mark (strip_bom bytes) ≡ true → flat_of bytes ≡ Err fault.NoHeader
unfolding flat_of
start_marked bytes h = rw h refl

pub start_none : (bytes : List ℕ) → begins_with_mark (strip_bom bytes) ≡ false → records_of bytes ≡ [] → flat_of bytes ≡ Err fault.NoHeader
unfolding flat_of
start_none bytes h none = rw (h, none) refl

pub start_narrow : (bytes : List ℕ) (header : List (List ℕ)) (rows : List (List (List ℕ))) → begins_with_mark (strip_bom bytes) ≡ false → records_of bytes ≡ header ∷ rows → length header < 2 → flat_of bytes ≡ Err fault.NoHeader
unfolding flat_of
start_narrow bytes header rows h first narrow =
    let test : nat_lt (length header) 2 ≡ true = grind (arith, nat_tests) in
    rw (h, first, test) refl

pub start_whole : (bytes : List ℕ) (header : List (List ℕ)) (rows : List (List (List ℕ))) → begins_with_mark (strip_bom bytes) ≡ false → records_of bytes ≡ header ∷ rows → 2 ≤ length header → flat_of bytes ≡ rest_of header [] [] rows
unfolding flat_of
start_whole bytes header rows h first wide =
    let test : nat_lt (length header) 2 ≡ false = grind (arith, nat_tests) in
    rw (h, first, test) refl

-- ---- the loop

-- how the file stands behind some records: what is left to say, with the rows so far in the table
pub record Loaded (bytes : List ℕ) (columns : ℕ) (last : List ℕ) (fields : List (List ℕ)) (values : List ℤ) (count : ℕ) (left : List (List (List ℕ))) : Type 0 where
  pub header : List (List ℕ)
  pub earlier : List (List (List ℕ))
  pub columns_are : columns ≡ length header
  pub last_is : last ≡ last_field header
  pub counted : count ≡ length earlier
  pub valued : length values ≡ count
  pub whole : flat_of bytes ≡ rest_of header earlier (rows_in (columns - 1) fields values) left
  pub table : IsTable (columns - 1) fields values

pub loaded_start : (bytes : List ℕ) (columns : ℕ) (last : List ℕ) (header : List (List ℕ)) (left : List (List (List ℕ))) (fields : List (List ℕ)) (values : List ℤ)
    → begins_with_mark (strip_bom bytes) ≡ false → records_of bytes ≡ header ∷ left → columns ≡ length header → last ≡ last_field header → 2 ≤ columns → fields ≡ [] → values ≡ []
    → Loaded bytes columns last fields values 0 left
loaded_start bytes columns last header left fields values mark start long is wide no_fields no_values = record {
  header = header;
  earlier = [];
  columns_are = long;
  last_is = is;
  counted = refl;
  valued = rw no_values refl;
  whole = rw no_values (start_whole bytes header left mark start (rw long at wide));
  table = rw (no_fields, no_values) (record { even = sym (zero-mul (columns - 1)); few = omega arith; bounded = none_bounded });
}
  where
    none_bounded : All IsUnits []
    none_bounded k d l = absurd (omega (arith, l))

pub loaded_more : (bytes : List ℕ) (columns : ℕ) (last : List ℕ) (fields more f : List (List ℕ)) (values valued : List ℤ) (count : ℕ) (left behind : List (List (List ℕ))) (v : ℤ)
    → Loaded bytes columns last fields values count left → left ≡ f ∷ behind → row_faults columns last count f ≡ [] → length f ≡ columns → count < 1000000
    → v ≡ ok_or_zero (units_of 0 (last_field f)) → IsUnits v → more ≡ fields ++ take (columns - 1) f → valued ≡ values ++ v ∷ []
    → Loaded bytes columns last more valued (count + 1) behind
loaded_more bytes columns last fields more f values valued count left behind v s next none long few is units grown pushed =
    let faults : row_faults (length s.header) (last_field s.header) (length s.earlier) f ≡ [] = rw (s.columns_are, s.last_is, s.counted) at none in
    let row_long : length (take (columns - 1) f) ≡ columns - 1 = length-take-le (columns - 1) f (omega (arith, long)) in
    let row : flat_row f ≡ record { fields = take (columns - 1) f; value = v } = rw is (ap (λ (n : ℕ). record { fields = take (n - 1) f; value = ok_or_zero (units_of 0 (last_field f)) }) long) in
    let rows = rows_more (columns - 1) fields (take (columns - 1) f) values v s.table.even row_long in
    record {
      header = s.header;
      earlier = s.earlier ++ f ∷ [];
      columns_are = s.columns_are;
      last_is = s.last_is;
      counted = rw (length-append s.earlier (f ∷ [])) (ap (λ (n : ℕ). n + 1) s.counted);
      valued = rw (pushed, length-append values (v ∷ [])) (ap (λ (n : ℕ). n + 1) s.valued);
      whole = s.whole ∙ ap (rest_of s.header s.earlier (rows_in (columns - 1) fields values)) next ∙ rest_more s.header s.earlier (rows_in (columns - 1) fields values) f behind faults
          ∙ ap (λ (r : FlatRow). rest_of s.header (s.earlier ++ f ∷ []) (rows_in (columns - 1) fields values ++ r ∷ []) behind) row
          ∙ ap (λ (rs : List FlatRow). rest_of s.header (s.earlier ++ f ∷ []) rs behind) (sym rows ∙ rw (grown, pushed) refl);
      table = rw (grown, pushed) (table_more (columns - 1) fields (take (columns - 1) f) values v s.table row_long (omega (arith, s.valued, few)) units);
    }

pub loaded_fault : (bytes : List ℕ) (columns : ℕ) (last : List ℕ) (fields f : List (List ℕ)) (values : List ℤ) (count : ℕ) (left behind : List (List (List ℕ))) (e : FactsFault)
    → Loaded bytes columns last fields values count left → left ≡ f ∷ behind → first (row_faults columns last count f) ≡ Some e → flat_of bytes ≡ Err e
loaded_fault bytes columns last fields f values count left behind e s next fault =
    let faults = rw (s.columns_are, s.last_is, s.counted) at fault in
    s.whole ∙ ap (rest_of s.header s.earlier (rows_in (columns - 1) fields values)) next ∙ rest_fault s.header s.earlier (rows_in (columns - 1) fields values) f behind e faults

pub loaded_end : (bytes : List ℕ) (columns : ℕ) (last : List ℕ) (fields : List (List ℕ)) (values : List ℤ) (count : ℕ) (left : List (List (List ℕ)))
    → Loaded bytes columns last fields values count left → left ≡ [] → flat_of bytes ≡ Ok (record { width = columns - 1; rows = rows_in (columns - 1) fields values })
loaded_end bytes columns last fields values count left s none =
    s.whole ∙ ap (rest_of s.header s.earlier (rows_in (columns - 1) fields values)) none ∙ rest_none s.header s.earlier (rows_in (columns - 1) fields values) ∙ rw (sym s.columns_are) refl
