-- A record of a branch, a month, a grade and three numbers, under a header of their columns.
use Rattle.std.specs.Prelude.{codes, Some, Ok}
use Rattle.std.proofs.Common.{◌≡◌, ℕ, ◌+◌, ◌<◌, List, [], ◌∷◌, map, flat_map, ℤ, refl, sym}
use Rattle.csv.specs.Records.{field_at}
use Rattle.cube_model.specs.Dims.{Dims, NamedDimension, column_names}
use Rattle.cube_text.specs.Units.{units_of}
use Rattle.cube_facts.specs.FactFile.{Fact, leaf_of, fact_of, field_in, own_faults, column_faults}
use Rattle.cube_facts.proofs.Recorded.{no_faults, no_own_faults, said}
use Rattle.cube_made.specs.Values.{measure}

-- ---- dimensions of any members

abbrev pub dimension : List ℕ → List (List ℕ) → List (List (List ℕ)) → NamedDimension
dimension name levels paths = record { name = name; column = name; levels = levels; paths = paths }

abbrev pub branches : List (List (List ℕ)) → NamedDimension
branches paths = dimension (codes "branch") (codes "branch" ∷ codes "region" ∷ []) paths

abbrev pub months : List (List (List ℕ)) → NamedDimension
months paths = dimension (codes "month") (codes "month" ∷ codes "quarter" ∷ []) paths

abbrev pub grades : List (List (List ℕ)) → NamedDimension
grades paths = dimension (codes "grade") (codes "grade" ∷ []) paths

abbrev pub dims_with : List (List (List ℕ)) → List (List (List ℕ)) → List (List (List ℕ)) → Dims
dims_with bs ms gs = record {
  dimensions = branches bs ∷ months ms ∷ grades gs ∷ [];
  measures = measure (codes "pay") 2 ∷ measure (codes "hours") 0 ∷ measure (codes "bonus") 0 ∷ [];
}

-- the columns, in their order
abbrev pub header : List (List ℕ)
header = codes "branch" ∷ codes "month" ∷ codes "grade" ∷ codes "pay" ∷ codes "hours" ∷ codes "bonus" ∷ []

three : {X : Type 0} (a b c d e f : X) → a ≡ d → b ≡ e → c ≡ f → a ∷ b ∷ c ∷ [] ≡ d ∷ e ∷ f ∷ []
three a b c d e f p q r = rw (p, q, r) refl

-- the columns stand once in the header
pub columns_fine : (bs ms gs : List (List (List ℕ))) → flat_map (column_faults header) (column_names (dims_with bs ms gs)) ≡ []
columns_fine bs ms gs = refl

-- a record without a fault by itself, and the fact that it says
pub record IsRead (s : Dims) (row : List (List ℕ)) (f : Fact) : Type 0 where
  pub fine : (count : ℕ) → count < 1000000 → own_faults s header count row ≡ []
  pub says : fact_of s header row ≡ f

-- a record whose fields are read is read
pub row_read : (bs ms gs : List (List (List ℕ))) (branch month grade pay hours bonus : List ℕ) (a b c : ℕ) (u v w : ℤ)
    → leaf_of (branches bs) branch ≡ Some a → leaf_of (months ms) month ≡ Some b → leaf_of (grades gs) grade ≡ Some c
    → units_of 2 pay ≡ Ok u → units_of 0 hours ≡ Ok v → units_of 0 bonus ≡ Ok w
    → IsRead (dims_with bs ms gs) (branch ∷ month ∷ grade ∷ pay ∷ hours ∷ bonus ∷ []) (record { leaves = a ∷ b ∷ c ∷ []; units = u ∷ v ∷ w ∷ [] })
unfolding field_at
row_read bs ms gs branch month grade pay hours bonus a b c u v w branch_read month_read grade_read pay_read hours_read bonus_read =
    let s : Dims = dims_with bs ms gs in
    let row : List (List ℕ) = branch ∷ month ∷ grade ∷ pay ∷ hours ∷ bonus ∷ [] in
    let leaves : map (λ d. leaf_of d (field_in header row d.column)) s.dimensions ≡ map Some (a ∷ b ∷ c ∷ []) = three (leaf_of (branches bs) branch) (leaf_of (months ms) month) (leaf_of (grades gs) grade) (Some a) (Some b) (Some c) branch_read month_read grade_read in
    let units : map (λ m. units_of m.decimals (field_in header row m.column)) s.measures ≡ map Ok (u ∷ v ∷ w ∷ []) = three (units_of 2 pay) (units_of 0 hours) (units_of 0 bonus) (Ok u) (Ok v) (Ok w) pay_read hours_read bonus_read in
    record {
      fine = λ count few. no_own_faults s header row count few refl (no_faults s header row (columns_fine bs ms gs) (count + 1) (a ∷ b ∷ c ∷ []) (u ∷ v ∷ w ∷ []) leaves units);
      says = sym (said s header row (a ∷ b ∷ c ∷ []) (u ∷ v ∷ w ∷ []) leaves units);
    }
