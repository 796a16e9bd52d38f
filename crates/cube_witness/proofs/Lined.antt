-- The text of records, as the crate `csv` reads it.
use Rattle.std.proofs.Common.{◌≡◌, ℕ, zero, suc, ◌<◌, ◌≤◌, Bool, true, false, ◌||◌, cond, List, [], ◌∷◌, ◌++◌, length, map, flat_map, refl, sym, ap, ap₂, ◌∙◌, eqb, eqb-true, arith, append-nil, length-append}
use Rattle.std.specs.List.{list_any, join_with_byte}
use Rattle.std.proofs.lemmas.List.Concat.{flat_map-append}
use Rattle.cube_model.proofs.Members.{tested}
use Rattle.csv.specs.Machine.{next_record}
use Rattle.csv.specs.Reading.{default_config, records_from}
use Rattle.csv.specs.Writing.{fields_text, field_text, escaped, is_blank, default_writer, needs_byte, row_text}
use Rattle.csv.specs.declared.parser.State.TheVariants as st
use Rattle.csv.proofs.RoundTrip.{rows_text, read-write}
use Rattle.cube_text.specs.Quoting.{needs_quotes, doubled, field, csv_line}

-- ---- lines

regroup : (a b c d : Bool) → (a || b || c || d) ≡ (a || b || (c || d) || false || false)
regroup true b c d = refl
regroup false true c d = refl
regroup false false true d = refl
regroup false false false true = refl
regroup false false false false = refl

same_need : (b : ℕ) → needs_quotes b ≡ needs_byte default_writer b
same_need b = regroup (eqb b 44) (eqb b 34) (eqb b 13) (eqb b 10)

same_any : (p q : ℕ → Bool) (xs : List ℕ) → ((x : ℕ) → p x ≡ q x) → list_any p xs ≡ list_any q xs
same_any p q [] h = refl
same_any p q (x ∷ xs) h = ap₂ (λ a b. a || b) (h x) (same_any p q xs h)

same_escape : (xs : List ℕ) → flat_map doubled xs ≡ escaped default_writer xs
unfolding escaped
same_escape [] = refl
same_escape (b ∷ bs) = tested (eqb b 34) (λ t. let is = eqb-true b 34 t in rw is (ap (λ k. 34 ∷ 34 ∷ k) (same_escape bs))) (λ t. rw t (ap (λ k. b ∷ k) (same_escape bs)))

same_field : (xs : List ℕ) → field xs ≡ field_text default_writer xs
same_field xs = ap₂ (λ t e. cond t (34 ∷ e ++ 34 ∷ []) xs) (same_any needs_quotes (needs_byte default_writer) xs same_need) (same_escape xs)

same_rest : (x : List ℕ) (xs : List (List ℕ)) → join_with_byte 44 (map field (x ∷ xs)) ≡ field_text default_writer x ++ fields_text default_writer xs
unfolding fields_text
same_rest x [] = same_field x ∙ sym (append-nil (field_text default_writer x))
same_rest x (y ∷ ys) = ap₂ (λ a b. a ++ 44 ∷ b) (same_field x) (same_rest y ys)

-- a line of two fields or more is the row that the crate writes
same_line : (x y : List ℕ) (ys : List (List ℕ)) → csv_line (x ∷ y ∷ ys) ≡ row_text default_writer (x ∷ y ∷ ys)
unfolding is_blank
same_line x y ys = ap (λ k. k ++ 10 ∷ []) (same_rest x (y ∷ ys))

-- each record has two fields or more
abbrev pub AreWide : List (List (List ℕ)) → Type 0
AreWide [] = Unit {0}
AreWide (row ∷ rows) = (2 ≤ length row) × AreWide rows

lines_rows : (rows : List (List (List ℕ))) → AreWide rows → flat_map csv_line rows ≡ rows_text rows
unfolding rows_text
lines_rows [] w = refl
lines_rows ([] ∷ rows) w = absurd (omega (arith, w.0))
lines_rows ((x ∷ []) ∷ rows) w = absurd (omega (arith, w.0))
lines_rows ((x ∷ y ∷ ys) ∷ rows) w = ap₂ (λ (a b : List ℕ). a ++ b) (same_line x y ys) (lines_rows rows w.1)

-- ---- records

-- a text has no more records than bytes
pub many_bytes : (rows : List (List (List ℕ))) → length rows ≤ length (flat_map csv_line rows)
many_bytes [] = omega arith
many_bytes (row ∷ rows) =
    let rest = many_bytes rows in
    let a = length-append (csv_line row) (flat_map csv_line rows) in
    let b = length-append (join_with_byte 44 (map field row)) (10 ∷ []) in
    omega (arith, rest, a, b)

read_rows : (rows : List (List (List ℕ))) (n : ℕ) → AreWide rows → length rows < n → records_from default_config n st.StartRecord (rows_text rows) ≡ rows
unfolding records_from rows_text next_record
read_rows [] zero w l = absurd (omega (arith, l))
read_rows [] (suc n) w l = refl
read_rows (row ∷ rows) zero w l = absurd (omega (arith, l))
read_rows ([] ∷ rows) (suc n) w l = absurd (omega (arith, w.0))
read_rows ((x ∷ []) ∷ rows) (suc n) w l = absurd (omega (arith, w.0))
read_rows ((x ∷ y ∷ ys) ∷ rows) (suc n) w l = rw (read-write (x ∷ y ∷ ys) (rows_text rows)) (ap (λ (t : List (List (List ℕ))). (x ∷ y ∷ ys) ∷ t) (read_rows rows n w.1 (omega (arith, l))))

-- the records of lines are the records
pub lines_read : (rows : List (List (List ℕ))) (n : ℕ) → AreWide rows → length rows < n → records_from default_config n st.StartRecord (flat_map csv_line rows) ≡ rows
lines_read rows n w l = ap (records_from default_config n st.StartRecord) (lines_rows rows w) ∙ read_rows rows n w l

-- ---- lines of lists

pub lines_map : {X : Type 0} (f : X → List (List ℕ)) (xs : List X) → flat_map (λ x. csv_line (f x)) xs ≡ flat_map csv_line (map f xs)
lines_map f [] = refl
lines_map f (x ∷ xs) = ap (λ (t : List ℕ). csv_line (f x) ++ t) (lines_map f xs)

pub lines_nest : {X : Type 0} (h : X → List ℕ) (f : X → List (List (List ℕ))) (xs : List X) → ((x : X) → h x ≡ flat_map csv_line (f x)) → flat_map h xs ≡ flat_map csv_line (flat_map f xs)
lines_nest h f [] same = refl
lines_nest h f (x ∷ xs) same = ap₂ (λ (a b : List ℕ). a ++ b) (same x) (lines_nest h f xs same) ∙ sym (flat_map-append csv_line (f x) (flat_map f xs))
