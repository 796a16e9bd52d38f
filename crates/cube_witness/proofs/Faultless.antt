-- A fact file that is written has no fault.
use Rattle.std.specs.List.{zip}
use Rattle.std.specs.Str.{bytes_eq}
use Rattle.std.specs.Prelude.{is_none}
use Rattle.std.proofs.Common.{◌≡◌, ◌≢◌, ◌⊎◌, inl, inr, ℕ, suc, ◌+◌, ◌<◌, ◌≤◌, Bool, true, false, cond, ◌&&◌, not, List, [], ◌∷◌, ◌++◌, length, map, flat_map, get_or, Option, ℤ, refl, sym, ap, ap₂, ◌∙◌, subst, arith, eqb, eqb-true, eq-eqb, append_assoc, append-nil, length-append, sum}
use Rattle.std.proofs.lemmas.Bool.{eqb-false, leb-true, ltb-true}
use Rattle.std.proofs.lemmas.List.{length-map}
use Rattle.std.proofs.lemmas.Slice.Eq.{bytes_eq-Decides}
use Rattle.std.proofs.lemmas.List.Sums.{sum_by-cons}
use Rattle.cube_text.specs.Units.{units_of}
use Rattle.cube_model.specs.Checks.{check, in_turn}
use Rattle.cube_model.specs.Cores.{Core, IsCore}
use Rattle.cube_model.specs.Cubes.{before, in_order, count_from, IsIn, IsIncreasing}
use Rattle.cube_model.specs.Dims.{NamedDimension, NamedMeasure, no_dimension, no_measure, dimension_at, measure_at, column_names}
use Rattle.cube_model.proofs.Members.{tested, IsIn-map, append_left, append_right, IsIn-flat_map, IsIn-count_from, IsIn-in_order}
use Rattle.cube_model.proofs.Orders.{before_trans, in_order_increasing}
use Rattle.cube_model.proofs.Parities.{all_at}
use Rattle.cube_model.proofs.Sources.{Each-get_or}
use Rattle.cube_source.proofs.Ordered.{not_before}
use Rattle.cube_facts.specs.declared.fault.FactsFault.{FactsFault}
use Rattle.cube_facts.specs.FactFile.{leaf_of, leaves_of, leaf_faults, number_faults, field_faults, points_in, own_faults, record_faults, column_faults, most_points}
use Rattle.cube_facts.specs.Records.{value_faults, most_facts}
use Rattle.cube_witness.specs.TwinFile.{facts_at}
use Rattle.cube_witness.specs.Rereading.{IsCarried, fact_fields, place_rows, fact_rows}
use Rattle.cube_witness.proofs.Columns.{apart, at_some, zipped, nothing, one_counted}
use Rattle.cube_witness.proofs.Written.{header_long, fields_long, dimension_column, measure_column, leaf_read, number_read, leaves_read}

pub decide : (a b : ℕ) → (a ≡ b) ⊎ (a ≢ b)
decide a b = tested (eqb a b) (λ t. inl (eqb-true a b t)) (λ f. inr (eqb-false a b f))

and_none : (b : Bool) → (b && false) ≡ false
and_none true = refl
and_none false = refl

no_check : {F : Type 0} (b : Bool) (f : F) → b ≡ false → check b f ≡ []
no_check b f e = rw e refl

not_false : (b : Bool) → (b ≡ true → ⊥) → b ≡ false
not_false true h = absurd (h refl)
not_false false h = refl

either : {F : Type 0} (b : Bool) (fs : List F) → fs ≡ [] → cond b fs [] ≡ []
either true fs e = e
either false fs e = refl

-- ---- columns

-- each column stands once
pub columns_fine : (c : Core) → IsCore c → flat_map (column_faults (column_names c.dims)) (column_names c.dims) ≡ []
columns_fine c ok = nothing (column_faults (column_names c.dims)) (column_names c.dims) one
  where
    one : (name : List ℕ) → IsIn name (column_names c.dims) → column_faults (column_names c.dims) name ≡ []
    one name h =
        let at = at_some [] name (column_names c.dims) h in
        let once = one_counted (bytes_eq name) (column_names c.dims) at.0 at.1 ((bytes_eq-Decides name (get_or (column_names c.dims) at.0 [])).1 (sym at.2))
        (λ i l d. ap (λ (x : List ℕ). bytes_eq x (get_or (column_names c.dims) i [])) (sym at.2) ∙ apart (column_names c.dims) at.0 i ok.dims.distinct_columns at.1 l (λ e. d (sym e))) in
        rw once refl

-- ---- fields

module _ (c : Core) (cube : List (List ℤ)) (ok : IsCarried c cube) (i k : ℕ) (here : i < length c.shape.points) (some : 0 < facts_at c.shape i) (row : ℕ) where
  leaf_fine : (j d : ℕ) → j < length c.dims.dimensions + length c.dims.measures → d < length c.dims.dimensions → leaf_faults row (get_or (column_names c.dims) j [], get_or (fact_fields c.dims c.shape cube i k) j []) (dimension_at c.dims d) ≡ []
  leaf_fine j d l m = go (decide j d)
    where
      go : (j ≡ d) ⊎ (j ≢ d) → leaf_faults row (get_or (column_names c.dims) j [], get_or (fact_fields c.dims c.shape cube i k) j []) (dimension_at c.dims d) ≡ []
      go (inl e) =
          let read = ap (λ (n : ℕ). leaf_of (dimension_at c.dims d) (get_or (fact_fields c.dims c.shape cube i k) n [])) e ∙ leaf_read c cube ok i k here some d m in
          no_check _ _ (ap (λ (o : Option ℕ). bytes_eq (get_or (column_names c.dims) j []) (dimension_at c.dims d).column && is_none o) read ∙ and_none (bytes_eq (get_or (column_names c.dims) j []) (dimension_at c.dims d).column))
      go (inr e) =
          let long = header_long c cube ok i k here some in
          let other = ap (bytes_eq (get_or (column_names c.dims) j [])) (sym (dimension_column c cube ok i k here some d m)) ∙ apart (column_names c.dims) j d ok.rules.dims.distinct_columns (omega (arith, long, l)) (omega (arith, long, m)) e in
          no_check _ _ (ap (λ (b : Bool). b && is_none (leaf_of (dimension_at c.dims d) (get_or (fact_fields c.dims c.shape cube i k) j []))) other)

  number_fine : (j m : ℕ) → j < length c.dims.dimensions + length c.dims.measures → m < length c.dims.measures → number_faults row (get_or (column_names c.dims) j [], get_or (fact_fields c.dims c.shape cube i k) j []) (measure_at c.dims m) ≡ []
  number_fine j m l n = go (decide j (length c.dims.dimensions + m))
    where
      go : (j ≡ length c.dims.dimensions + m) ⊎ (j ≢ length c.dims.dimensions + m) → number_faults row (get_or (column_names c.dims) j [], get_or (fact_fields c.dims c.shape cube i k) j []) (measure_at c.dims m) ≡ []
      go (inl e) =
          let read = ap (λ (n : ℕ). units_of (measure_at c.dims m).decimals (get_or (fact_fields c.dims c.shape cube i k) n [])) e ∙ number_read c cube ok i k here some m n in
          either (bytes_eq (get_or (column_names c.dims) j []) (measure_at c.dims m).column) _ (ap (value_faults row (get_or (column_names c.dims) j [])) read)
      go (inr e) =
          let long = header_long c cube ok i k here some in
          let other = ap (bytes_eq (get_or (column_names c.dims) j [])) (sym (measure_column c cube ok i k here some m n)) ∙ apart (column_names c.dims) j (length c.dims.dimensions + m) ok.rules.dims.distinct_columns (omega (arith, long, l)) (omega (arith, long, n)) e in
          ap (λ (b : Bool). cond b (value_faults row (get_or (column_names c.dims) j []) (units_of (measure_at c.dims m).decimals (get_or (fact_fields c.dims c.shape cube i k) j []))) []) other

  field_fine : (e : List ℕ × List ℕ) → IsIn e (zip (column_names c.dims) (fact_fields c.dims c.shape cube i k)) → field_faults c.dims row e ≡ []
  field_fine e h =
      let long = header_long c cube ok i k here some in
      let wide = fields_long c cube ok i k here some in
      let at = zipped (column_names c.dims) (fact_fields c.dims c.shape cube i k) e (wide ∙ sym long) h in
      let low : at.0 < length c.dims.dimensions + length c.dims.measures = let l = at.1 in omega (arith, l, long) in
      rw at.2 (ap₂ (λ (a b : List FactsFault). a ++ b)
      (nothing (leaf_faults row (get_or (column_names c.dims) at.0 [], get_or (fact_fields c.dims c.shape cube i k) at.0 [])) c.dims.dimensions
      (λ d q. let n = at_some no_dimension d c.dims.dimensions q in subst (λ (x : NamedDimension). leaf_faults row (get_or (column_names c.dims) at.0 [], get_or (fact_fields c.dims c.shape cube i k) at.0 []) x ≡ []) n.2 (leaf_fine at.0 n.0 low n.1)))
      (nothing (number_faults row (get_or (column_names c.dims) at.0 [], get_or (fact_fields c.dims c.shape cube i k) at.0 [])) c.dims.measures
      (λ d q. let n = at_some no_measure d c.dims.measures q in subst (λ (x : NamedMeasure). number_faults row (get_or (column_names c.dims) at.0 [], get_or (fact_fields c.dims c.shape cube i k) at.0 []) x ≡ []) n.2 (number_fine at.0 n.0 low n.1))))

  pub fields_fine : flat_map (field_faults c.dims row) (zip (column_names c.dims) (fact_fields c.dims c.shape cube i k)) ≡ []
  fields_fine = nothing (field_faults c.dims row) (zip (column_names c.dims) (fact_fields c.dims c.shape cube i k)) field_fine

-- ---- points

-- keys in order that all stand among others in order are at most as many
few : (ys xs : List (List ℕ)) → IsIncreasing xs → IsIncreasing ys → ((z : List ℕ) → IsIn z xs → IsIn z ys) → length xs ≤ length ys
few ys [] a b f = omega arith
few [] (x ∷ xs) a b f = absurd (f x (inl refl))
few (y ∷ ys) (x ∷ xs) a b f = go (f x (inl refl)) (λ g. few ys xs a.1 b.1 g) (λ g. few ys (x ∷ xs) a b.1 g)
  where
    go : (y ≡ x) ⊎ IsIn x ys → (((z : List ℕ) → IsIn z xs → IsIn z ys) → length xs ≤ length ys) → (((z : List ℕ) → IsIn z (x ∷ xs) → IsIn z ys) → length (x ∷ xs) ≤ length ys) → length (x ∷ xs) ≤ length (y ∷ ys)
    go (inl e) both skip = let l = both (λ z h. rest z h (f z (inr h))) in omega (arith, l)
      where
        rest : (z : List ℕ) → IsIn z xs → (y ≡ z) ⊎ IsIn z ys → IsIn z ys
        rest z h (inl q) = absurd (not_before x (all_at (before x) x xs a.0 (subst (λ u. IsIn u xs) (sym q ∙ e) h)))
        rest z h (inr q) = q
    go (inr k) both skip = let l = skip all in omega (arith, l)
      where
        rest : (z : List ℕ) → IsIn z xs → (y ≡ z) ⊎ IsIn z ys → IsIn z ys
        rest z h (inl q) = absurd (not_before y (before_trans y x y (all_at (before y) x ys b.0 k) (subst (λ u. before x u ≡ true) (sym q) (all_at (before x) z xs a.0 h))))
        rest z h (inr q) = q

        all : (z : List ℕ) → IsIn z (x ∷ xs) → IsIn z ys
        all z (inl q) = subst (λ u. IsIn u ys) q k
        all z (inr h) = rest z h (f z (inr h))

-- ---- records

-- nothing is found in any item
turns_fine : {X F : Type 0} (f : List X → X → List F) (earlier xs : List X) → ((pre : List X) (x : X) (post : List X) → xs ≡ pre ++ x ∷ post → f (earlier ++ pre) x ≡ []) → in_turn f earlier xs ≡ []
turns_fine f earlier [] h = refl
turns_fine f earlier (x ∷ xs) h = ap₂ (λ a b. a ++ b)
    (ap (λ ys. f ys x) (sym (append-nil earlier)) ∙ h [] x xs refl)
    (turns_fine f (earlier ++ x ∷ []) xs (λ pre y post e. ap (λ ys. f ys y) (append_assoc earlier (x ∷ []) pre) ∙ h (x ∷ pre) y post (ap (λ zs. x ∷ zs) e)))

rows_many : {X : Type 0} (f : ℕ → List X) (fs : List ℕ) (s : ℕ) → ((j : ℕ) → j < length fs → length (f (s + j)) ≡ get_or fs j 0) → length (flat_map f (count_from s (length fs))) ≡ sum fs
rows_many f [] s h = refl
rows_many f (n ∷ fs) s h =
    let first : length (f s) ≡ n = ap (λ (k : ℕ). length (f k)) (omega arith) ∙ h 0 (omega arith) in
    length-append (f s) (flat_map f (count_from (suc s) (length fs)))
    ∙ ap₂ (λ (a b : ℕ). a + b) first (rows_many f fs (suc s) (λ j l. ap (λ (k : ℕ). length (f k)) (omega arith) ∙ h (suc j) (omega (arith, l))))
    ∙ sym (sum_by-cons (λ (x : ℕ). x) n fs)

pub record RowOf (c : Core) (cube : List (List ℤ)) (row : List (List ℕ)) : Type 0 where
  pub place : ℕ
  pub number : ℕ
  pub there : place < length c.shape.points
  pub is : fact_fields c.dims c.shape cube place number ≡ row

pub row_of : (c : Core) (cube : List (List ℤ)) (row : List (List ℕ)) → IsIn row (fact_rows c.dims c.shape cube) → RowOf c cube row
row_of c cube row h =
    let a = IsIn-flat_map (place_rows c.dims c.shape cube) row (count_from 0 (length c.shape.points)) h in
    let b = IsIn-map (fact_fields c.dims c.shape cube a.0) row (count_from 0 (facts_at c.shape a.0)) a.2 in
    record { place = a.0; number = b.0; there = let l = (IsIn-count_from a.0 0 (length c.shape.points) a.1).1 in omega (arith, l); is = b.2 }

pub has_facts : (c : Core) (i : ℕ) → IsCore c → i < length c.shape.points → 0 < facts_at c.shape i
has_facts c i ok l = let even = ok.facts in Each-get_or (λ (n : ℕ). 0 < n) c.shape.facts i 0 ok.counted (omega (arith, even, l))

pub all_many : (c : Core) (cube : List (List ℤ)) → IsCore c → length (fact_rows c.dims c.shape cube) ≡ sum c.shape.facts
all_many c cube ok =
    ap (λ (n : ℕ). length (flat_map (place_rows c.dims c.shape cube) (count_from 0 n))) (sym ok.facts)
    ∙ rows_many (place_rows c.dims c.shape cube) c.shape.facts 0 (λ j l. let e : 0 + j ≡ j = omega arith in rw e (length-map (count_from 0 (facts_at c.shape j)) (fact_fields c.dims c.shape cube j) ∙ Rattle.cube_model.proofs.Sums.length-count_from 0 (facts_at c.shape j)))

record_fine : (c : Core) (cube : List (List ℤ)) → IsCarried c cube → (pre : List (List (List ℕ))) (row : List (List ℕ)) (post : List (List (List ℕ))) → fact_rows c.dims c.shape cube ≡ pre ++ row ∷ post → record_faults c.dims (column_names c.dims) pre row ≡ []
record_fine c cube ok pre row post split = ap₂ (λ (a b : List FactsFault). a ++ b) own (no_check _ _ (not_false _ (λ t. let l = ltb-true most_points (length (points_in c.dims (column_names c.dims) (pre ++ row ∷ []))) t in absurd (omega (arith, l, low)))))
  where
    among : (z : List (List ℕ)) → IsIn z (pre ++ row ∷ []) → IsIn z (fact_rows c.dims c.shape cube)
    among z h = subst (IsIn z) (append_assoc pre (row ∷ []) post ∙ sym split) (append_left z (pre ++ row ∷ []) post h)

    mine : RowOf c cube row
    mine = row_of c cube row (among row (append_right row pre (row ∷ []) (inl refl)))

    own : own_faults c.dims (column_names c.dims) (length pre) row ≡ []
    own =
        let m = mine in
        let some = has_facts c m.place ok.rules m.there in
        let wide = ap length (sym m.is) ∙ fields_long c cube ok m.place m.number m.there some ∙ sym (header_long c cube ok m.place m.number m.there some) in
        let many = all_many c cube ok.rules in
        let all = ap length split ∙ length-append pre (row ∷ post) in
        let most = ok.rules.few_facts in
        ap₂ (λ (a b : List FactsFault). a ++ b)
        (ap₂ (λ (a b : List FactsFault). a ++ b)
        (no_check _ _ (not_false _ (λ t. let l = leb-true most_facts (length pre) t in absurd (omega (arith, l, many, all, most)))))
        (no_check _ _ (ap not (eq-eqb (length row) (length (column_names c.dims)) wide))))
        (subst (λ (r : List (List ℕ)). flat_map (field_faults c.dims (length pre + 1)) (zip (column_names c.dims) r) ≡ []) m.is (fields_fine c cube ok m.place m.number m.there some (length pre + 1)))

    low : length (points_in c.dims (column_names c.dims) (pre ++ row ∷ [])) ≤ 65536
    low =
        let some = few c.shape.points (in_order (map (leaves_of c.dims (column_names c.dims)) (pre ++ row ∷ []))) (in_order_increasing (map (leaves_of c.dims (column_names c.dims)) (pre ++ row ∷ []))) ok.rules.increasing point in
        let most = ok.rules.few_points in
        omega (arith, some, most)
      where
        point : (z : List ℕ) → IsIn z (in_order (map (leaves_of c.dims (column_names c.dims)) (pre ++ row ∷ []))) → IsIn z c.shape.points
        point z h =
            let a = IsIn-map (leaves_of c.dims (column_names c.dims)) z (pre ++ row ∷ []) (IsIn-in_order z _ h) in
            let m = row_of c cube a.0 (among a.0 a.1) in
            let read = leaves_read c cube ok m.place m.number m.there (has_facts c m.place ok.rules m.there) in
            subst (λ (x : List ℕ). IsIn x c.shape.points) (sym read ∙ ap (leaves_of c.dims (column_names c.dims)) m.is ∙ a.2) (Rattle.cube_witness.proofs.Columns.in_list c.shape.points m.place [] m.there)

pub records_fine : (c : Core) (cube : List (List ℤ)) → IsCarried c cube → in_turn (record_faults c.dims (column_names c.dims)) [] (fact_rows c.dims c.shape cube) ≡ []
records_fine c cube ok = turns_fine (record_faults c.dims (column_names c.dims)) [] (fact_rows c.dims c.shape cube) (λ pre row post e. record_fine c cube ok pre row post e)
