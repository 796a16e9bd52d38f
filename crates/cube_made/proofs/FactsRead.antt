-- The made facts are read.
use Rattle.std.specs.Fmt.{decimal}
use Rattle.std.specs.Prelude.{codes, Ok, Err}
use Rattle.std.proofs.Common.{◌≡◌, ℕ, ◌+◌, ◌*◌, ◌≤◌, inl, Bool, false, cond, List, [], ◌∷◌, ◌++◌, length, map, flat_map, pos, refl, sym, ap, ap₂, ◌∙◌, subst, arith, append_assoc, append-nil, length-append, ltb}
use Rattle.std.proofs.lemmas.Bool.Decides.{nat_tests}
use Rattle.std.proofs.lemmas.List.{length-map}
use Rattle.std.proofs.lemmas.Simd.{map-map}
use Rattle.csv.specs.Reading.{strip_bom, default_config, records_from}
use Rattle.csv.specs.declared.parser.State.TheVariants as st
use Rattle.cube_model.specs.Checks.{check, in_turn, unless}
use Rattle.cube_model.specs.Cubes.{count_from, IsIn}
use Rattle.cube_model.specs.Names.{begins_with_mark}
use Rattle.cube_model.proofs.Members.{IsIn-map, append_left, append_right}
use Rattle.cube_model.proofs.Sums.{length-count_from}
use Rattle.cube_text.specs.Quoting.{csv_line}
use Rattle.cube_text.specs.Units.{units_text}
use Rattle.cube_facts.specs.declared.fault.FactsFault.{FactsFault}
use Rattle.cube_facts.specs.declared.fault.FactsFault.TheVariants as fault
use Rattle.cube_facts.specs.FactFile.{Fact, facts_of, facts_in, fact_of, leaves_of, own_faults, record_faults, points_in, most_points}
use Rattle.cube_facts.specs.Records.{records_of}
use Rattle.cube_gen.specs.Draws.{seed}
use Rattle.cube_gen.specs.Made.{numbered, made_fact, made_facts}
use Rattle.cube_witness.proofs.Lined.{AreWide, many_bytes, lines_read, lines_map}
use Rattle.cube_witness.proofs.Marks.{strip_same}
use Rattle.cube_made.specs.Laws.{IsSize, FactsAreRead}
use Rattle.cube_made.specs.Values.{branch_path, month_path, grade_path, dims_said}
use Rattle.cube_made.proofs.FactLines.{branch_at, month_at, grade_at, pay_from, hours_from, bonus_from, fact_fields, fact_line, branch_below, month_below, grade_below, pay_read, hours_read, bonus_read}
use Rattle.cube_made.proofs.FactRows.{header, columns_fine, IsRead, row_read}
use Rattle.cube_made.proofs.Named.{found_branch, found_month, found_grade}
use Rattle.cube_made.proofs.Spots.{IsSpot, few_spots}

-- ---- a record

-- what fact k says
abbrev pub fact_said : ℕ → ℕ → ℕ → Fact
fact_said x s k = record {
  leaves = branch_at s k ∷ month_at s k ∷ grade_at s k ∷ [];
  units = pos (pay_from (seed x (3 * k))) ∷ pos (hours_from (seed x (3 * k))) ∷ pos (bonus_from (seed x (3 * k))) ∷ [];
}

module _ (x s k : ℕ) (size : IsSize s) where
  read : IsRead (dims_said s) (fact_fields x s k) (fact_said x s k)
  read =
      let y = seed x (3 * k) in
      row_read (map (branch_path s) (count_from 0 (40 * s))) (map month_path (count_from 0 12)) (map grade_path (count_from 0 6))
      (numbered (codes "b") (branch_at s k)) (numbered (codes "m") (month_at s k + 1)) (numbered (codes "g") (grade_at s k)) (units_text 2 (pos (pay_from y))) (decimal (hours_from y)) (decimal (bonus_from y))
      (branch_at s k) (month_at s k) (grade_at s k) (pos (pay_from y)) (pos (hours_from y)) (pos (bonus_from y))
      (found_branch s (branch_at s k) size (branch_below s k size.0)) (found_month (month_at s k) (month_below s k)) (found_grade (grade_at s k) (grade_below s k))
      (pay_read y) (hours_read y) (bonus_read y)

  spot : IsSpot s (leaves_of (dims_said s) header (fact_fields x s k))
  spot = record {
    branch = branch_at s k;
    month = month_at s k;
    grade = grade_at s k;
    in_branches = branch_below s k size.0;
    in_months = month_below s k;
    in_grades = grade_below s k;
    is = ap (λ (f : Fact). f.leaves) read.says;
  }

-- ---- all records

-- nothing is found in any item
turns_fine : {X F : Type 0} (f : List X → X → List F) (earlier xs : List X) → ((pre : List X) (x : X) (post : List X) → xs ≡ pre ++ x ∷ post → f (earlier ++ pre) x ≡ []) → in_turn f earlier xs ≡ []
turns_fine f earlier [] h = refl
turns_fine f earlier (x ∷ xs) h = ap₂ (λ a b. a ++ b)
    (ap (λ ys. f ys x) (sym (append-nil earlier)) ∙ h [] x xs refl)
    (turns_fine f (earlier ++ x ∷ []) xs (λ pre y post e. ap (λ ys. f ys y) (append_assoc earlier (x ∷ []) pre) ∙ h (x ∷ pre) y post (ap (λ zs. x ∷ zs) e)))

no_check : {F : Type 0} (b : Bool) (f : F) → b ≡ false → check b f ≡ []
no_check b f e = rw e refl

-- the records of a fact file of size s
abbrev rows_of : ℕ → ℕ → List (List (List ℕ))
rows_of x s = map (fact_fields x s) (count_from 0 (20000 * s))

module _ (x s : ℕ) (size : IsSize s) where
  rows_long : length (rows_of x s) ≡ 20000 * s
  rows_long = length-map (count_from 0 (20000 * s)) (fact_fields x s) ∙ length-count_from 0 (20000 * s)

  few_points : (rows : List (List (List ℕ))) → ((row : List (List ℕ)) → IsIn row rows → IsIn row (rows_of x s)) → length (points_in (dims_said s) header rows) ≤ 57600
  few_points rows h =
      let few = few_spots s (map (leaves_of (dims_said s) header) rows) spots in
      let most = size.1 in
      omega (arith, few, most)
    where
      spots : (z : List ℕ) → IsIn z (map (leaves_of (dims_said s) header) rows) → IsSpot s z
      spots z i =
          let a = IsIn-map (leaves_of (dims_said s) header) z rows i in
          let b = IsIn-map (fact_fields x s) a.0 (count_from 0 (20000 * s)) (h a.0 a.1) in
          subst (IsSpot s) (ap (leaves_of (dims_said s) header) b.2 ∙ a.2) (spot x s b.0 size)

  record_fine : (pre : List (List (List ℕ))) (row : List (List ℕ)) (post : List (List (List ℕ))) → rows_of x s ≡ pre ++ row ∷ post → record_faults (dims_said s) header pre row ≡ []
  record_fine pre row post split = ap₂ (λ (a b : List FactsFault). a ++ b) own (no_check _ _ points)
    where
      among : (z : List (List ℕ)) → IsIn z (pre ++ row ∷ []) → IsIn z (rows_of x s)
      among z h = subst (IsIn z) (append_assoc pre (row ∷ []) post ∙ sym split) (append_left z (pre ++ row ∷ []) post h)

      own : own_faults (dims_said s) header (length pre) row ≡ []
      own =
          let m = IsIn-map (fact_fields x s) row (count_from 0 (20000 * s)) (among row (append_right row pre (row ∷ []) (inl refl))) in
          let all = ap length split ∙ length-append pre (row ∷ post) in
          let long = rows_long in
          let most = size.1 in
          subst (λ (r : List (List ℕ)). own_faults (dims_said s) header (length pre) r ≡ []) m.2 ((read x s m.0 size).fine (length pre) (omega (arith, all, long, most)))

      points : ltb most_points (length (points_in (dims_said s) header (pre ++ row ∷ []))) ≡ false
      points = let low = few_points (pre ++ row ∷ []) among in grind (arith, nat_tests)

  records_fine : in_turn (record_faults (dims_said s) header) [] (rows_of x s) ≡ []
  records_fine = turns_fine (record_faults (dims_said s) header) [] (rows_of x s) record_fine

-- ---- the text

map_same : {X Y : Type 0} (f g : X → Y) (xs : List X) → ((x : X) → f x ≡ g x) → map f xs ≡ map g xs
map_same f g [] h = refl
map_same f g (x ∷ xs) h = ap₂ (λ a b. a ∷ b) (h x) (map_same f g xs h)

flat_same : {X : Type 0} (f g : X → List ℕ) (xs : List X) → ((x : X) → f x ≡ g x) → flat_map f xs ≡ flat_map g xs
flat_same f g [] h = refl
flat_same f g (x ∷ xs) h = ap₂ (λ (a b : List ℕ). a ++ b) (h x) (flat_same f g xs h)

wide_map : (f : ℕ → List (List ℕ)) (ks : List ℕ) → ((k : ℕ) → 2 ≤ length (f k)) → AreWide (map f ks)
wide_map f [] h = tt
wide_map f (k ∷ ks) h = (h k, wide_map f ks h)

module _ (x s : ℕ) (size : IsSize s) where
  lines : made_facts x s ≡ flat_map csv_line (header ∷ rows_of x s)
  unfolding made_facts
  lines = ap (λ (t : List ℕ). csv_line header ++ t) (flat_same (made_fact x s) (λ k. csv_line (fact_fields x s k)) (count_from 0 (20000 * s)) (λ k. fact_line x s k size) ∙ lines_map (fact_fields x s) (count_from 0 (20000 * s)))

  plain : begins_with_mark (made_facts x s) ≡ false
  plain = ap begins_with_mark lines

  stripped : strip_bom (made_facts x s) ≡ made_facts x s
  stripped = strip_same (made_facts x s) plain

  wide : AreWide (header ∷ rows_of x s)
  wide = (omega arith, wide_map (fact_fields x s) (count_from 0 (20000 * s)) (λ k. omega arith))

  recorded : records_of (made_facts x s) ≡ header ∷ rows_of x s
  recorded =
      let all = header ∷ rows_of x s in
      let bytes = many_bytes all in
      ap (λ (t : List ℕ). records_from default_config (length t + 1) st.StartRecord t) (stripped ∙ lines) ∙ lines_read all (length (flat_map csv_line all) + 1) wide (omega (arith, bytes))

  pub facts_are : facts_of (dims_said s) (made_facts x s) ≡ Ok (map (fact_said x s) (count_from 0 (20000 * s)))
  unfolding facts_of
  facts_are =
      ap₂ (λ (b : Bool) (rs : List (List (List ℕ))). cond b (Err fault.NoHeader) (facts_in (dims_said s) rs)) (ap begins_with_mark stripped ∙ plain) recorded
      ∙ ap₂ (λ (a b : List FactsFault). unless (a ++ b) (map (fact_of (dims_said s) header) (rows_of x s))) (columns_fine (map (branch_path s) (count_from 0 (40 * s))) (map month_path (count_from 0 12)) (map grade_path (count_from 0 6))) (records_fine x s size)
      ∙ ap (λ (fs : List Fact). Ok fs) (map-map (fact_of (dims_said s) header) (fact_fields x s) (count_from 0 (20000 * s)) ∙ map_same (λ k. fact_of (dims_said s) header (fact_fields x s k)) (fact_said x s) (count_from 0 (20000 * s)) (λ k. (read x s k size).says))

pub facts_are_read : FactsAreRead
facts_are_read number s size = (map (fact_said number s) (count_from 0 (20000 * s)), facts_are number s size)
