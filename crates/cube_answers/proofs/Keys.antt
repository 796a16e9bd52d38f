-- The keys of rows name members that there are.
use Rattle.std.specs.List.{All, AllByRecursion}
use Rattle.std.proofs.Common.{◌≡◌, refl, sym, ap, ◌∙◌, subst, inl, inr, ℕ, zero, suc, ◌+◌, ◌<◌, true, List, [], ◌∷◌, ◌++◌, length, map, filter, take, get_or, arith, add-one}
use Rattle.std.proofs.Math.Seq.{take-suc, take-length}
use Rattle.std.proofs.lemmas.List.{length-map}
use Rattle.cube_model.specs.declared.answer.AnswerRow.{AnswerRow}
use Rattle.cube_model.specs.declared.answer.Row.{Row}
use Rattle.cube_model.specs.declared.policy.Policy.{Policy}
use Rattle.cube_model.specs.declared.request.Request.{Request}
use Rattle.cube_model.specs.Cores.{Core, IsCore, shown}
use Rattle.cube_model.specs.Cubes.{Dimension, up, ancestors, key_at, point, places, IsPoint, IsIn}
use Rattle.cube_model.specs.Dims.{Dims, IsDims, plain, plains, dimension_at}
use Rattle.cube_model.specs.Protection.{core_cell}
use Rattle.cube_model.specs.Requests.{fits, rows, row_at, row_keys, is_picked}
use Rattle.cube_model.proofs.Members.{IsIn-filter, IsIn-map, IsIn-count_from, IsIn-in_order}
use Rattle.cube_model.proofs.Sources.{Each-get_or}
use Rattle.cube_core.proofs.Fitting.{lengths_fit, ancestors_long, ancestors_at}
use Rattle.cube_core.proofs.Points.{length-point, leaf_below, dimension_of, up_there}
use Rattle.cube_core.specs.Grouping.{pointed, key_in, ArePoints}
use Rattle.cube_text.specs.Keys.{KeyFits}
use Rattle.cube_answers.specs.AnswerText.{RowFits, IsThere, IsAnswer}
use Rattle.cube_answers.specs.Sums.{row_sum}
use Rattle.cube_answers.specs.VerdictText.{unprotected, CellFits}

-- the ancestors of a point are a key that is there
pub key_there : (s : Dims) (ls xs : List ℕ) → IsDims s → length ls ≡ length s.dimensions → IsPoint (plains s) xs → (length (ancestors (plains s) ls xs) ≡ length s.dimensions) × KeyFits s ls (ancestors (plains s) ls xs)
key_there s ls xs ok e h =
    let long = length-point s.dimensions xs h in (
      ancestors_long s.dimensions ls xs e long,
      λ k below low.
          let at = ancestors_at s.dimensions ls xs k e long below in
          let there = up_there (dimension_at s k) (get_or ls k 0) (get_or xs k 0) (dimension_of s.dimensions k ok.each_dimension below) low (leaf_below s.dimensions xs k h below) in
          omega (arith, at, there),
    )

-- there is a level for each dimension
pub as_many_levels : (s : Dims) (r : Request) → fits (plains s) r.group r.picks ≡ true → length r.group ≡ length s.dimensions
as_many_levels s r h = (lengths_fit s.dimensions r.group r.picks h).0

-- the key of a place among some points is there
pub tally_fits : (s : Dims) (points : List (List ℕ)) (r : Request) (i : ℕ) (key : List ℕ) → IsDims s → fits (plains s) r.group r.picks ≡ true → ArePoints (plains s) points → i < length points
    → key ≡ key_in (pointed s points) r i → (length key ≡ length s.dimensions) × KeyFits s r.group key
tally_fits s points r i key ok h are below is =
    subst (λ (xs : List ℕ). (length xs ≡ length s.dimensions) × KeyFits s r.group xs) (sym is)
    (key_there s r.group (get_or points i []) ok (as_many_levels s r h) (Each-get_or (IsPoint (plains s)) points i [] are.each below))

-- what holds of all that is in a list holds at each place
pub all_in : {X : Type 0} (P : X → Type 0) (xs : List X) → ((x : X) → IsIn x xs → P x) → All P xs
all_in P [] h k d l = absurd (omega (arith, l))
all_in P (x ∷ xs) h zero d l = h x (inl refl)
all_in P (x ∷ xs) h (suc k) d l = all_in P xs (λ y i. h y (inr i)) k d (omega (arith, l))

pub each_of : {X : Type 0} (P : X → Type 0) (xs : List X) → All P xs → AllByRecursion P xs
each_of P [] h = tt
each_of P (x ∷ xs) h = (h 0 x (omega arith), each_of P xs (λ k d l. h (suc k) d (omega (arith, l))))

-- a place is that of a point
pub point_at : (core : Core) (p : Policy) (i : ℕ) → IsCore core → IsIn i (places (shown core p)) → IsPoint (plains core.dims) (point (shown core p) i)
point_at core p i ok h =
    let below = (IsIn-count_from i 0 (length core.shape.points) h).1 in
    Each-get_or (IsPoint (plains core.dims)) core.shape.points i [] ok.points (omega (arith, below))

-- each row with its sum has a member of each level
pub row_fits : (core : Core) (p : Policy) (r : Request) (row : AnswerRow) → IsCore core → fits (plains core.dims) r.group r.picks ≡ true → IsIn row (map (row_sum core r.what) (rows (shown core p) r)) → RowFits core.dims r row
unfolding key_at
row_fits core p r row ok h within =
    let g = shown core p in
    let summed = IsIn-map (row_sum core r.what) row (rows g r) within in
    let grouped = IsIn-map (row_at g r) summed.0 (row_keys g r) summed.1 in
    let keyed = IsIn-in_order grouped.0 (map (key_at g r.group) (filter (is_picked g r) (places g))) grouped.1 in
    let placed = IsIn-map (key_at g r.group) grouped.0 (filter (is_picked g r) (places g)) keyed in
    let here = (IsIn-filter (is_picked g r) placed.0 (places g) placed.1).1 in
    let key : ancestors (plains core.dims) r.group (point g placed.0) ≡ row.key = placed.2 ∙ ap (λ (x : Row). x.key) grouped.2 ∙ ap (λ (x : AnswerRow). x.key) summed.2 in
    let there = key_there core.dims r.group (point g placed.0) ok.dims (lengths_fit core.dims.dimensions r.group r.picks h).0 (point_at core p placed.0 ok here) in
    record {
      long = subst (λ (xs : List ℕ). length xs ≡ length core.dims.dimensions) key there.0;
      there = subst (KeyFits core.dims r.group) key there.1;
    }

-- the answer to a request can be written
pub sums_fit : (core : Core) (r : Request) (answer : List AnswerRow) → IsCore core → fits (plains core.dims) r.group r.picks ≡ true → IsThere core.dims r.what
    → ((p : Policy) → answer ≡ map (row_sum core r.what) (rows (shown core p) r)) → IsAnswer core.dims r answer
sums_fit core r answer ok h there made =
    let none : Policy = record { methods = []; objects = [] } in
    record {
      levels = (lengths_fit core.dims.dimensions r.group r.picks h).0;
      measure = there;
      rows = all_in (RowFits core.dims r) answer (λ row within. row_fits core none r row ok h (subst (IsIn row) (made none) within));
    }

pub answer_fits : (core : Core) (r : Request) (found : List Row) (answer : List AnswerRow) → IsCore core → fits (plains core.dims) r.group r.picks ≡ true → IsThere core.dims r.what
    → ((p : Policy) → found ≡ rows (shown core p) r) → answer ≡ map (row_sum core r.what) found → IsAnswer core.dims r answer
answer_fits core r found answer ok h there is made = sums_fit core r answer ok h there (λ p. made ∙ ap (map (row_sum core r.what)) (is p))

-- ---- the cell of a place, level by level

-- the finest levels
abbrev pub zeros : List Dimension → List ℕ
zeros ds = map (λ d. 0) ds

zero_at : (ds : List Dimension) (i : ℕ) → get_or (zeros ds) i 0 ≡ 0
zero_at [] i = refl
zero_at (d ∷ ds) zero = refl
zero_at (d ∷ ds) (suc i) = zero_at ds i

pub levels_next : (ds : List Dimension) (i : ℕ) (levels new : List ℕ) → i < length ds → levels ≡ take i (zeros ds) → new ≡ levels ++ 0 ∷ [] → new ≡ take (i + 1) (zeros ds)
levels_next ds i levels new l so_far grown =
    let long : length (zeros ds) ≡ length ds = length-map ds (λ d. 0) in
    let one : get_or (zeros ds) i 0 ≡ 0 = zero_at ds i in
    rw (add-one i)
    (grown
    ∙ ap (λ (xs : List ℕ). xs ++ 0 ∷ []) so_far
    ∙ ap (λ (n : ℕ). take i (zeros ds) ++ n ∷ []) (sym one)
    ∙ sym (take-suc (zeros ds) i 0 (omega (arith, long, l))))

-- the key of a place in its own cell
abbrev pub leaves_at : Core → ℕ → List ℕ
leaves_at core place = ancestors (plains core.dims) (zeros (plains core.dims)) (get_or core.shape.points place [])

place_point : (core : Core) (place : ℕ) → IsCore core → place < length core.shape.points → IsPoint (plains core.dims) (get_or core.shape.points place [])
place_point core place ok l = Each-get_or (IsPoint (plains core.dims)) core.shape.points place [] ok.points l

zeros_long : (s : Dims) → length (zeros (plains s)) ≡ length s.dimensions
zeros_long s = length-map (plains s) (λ d. 0) ∙ length-map s.dimensions plain

pub cell_fits : (core : Core) (place : ℕ) → IsCore core → place < length core.shape.points → CellFits core.dims (record { levels = zeros (plains core.dims); key = leaves_at core place })
cell_fits core place ok l =
    let there = key_there core.dims (zeros (plains core.dims)) (get_or core.shape.points place []) ok.dims (zeros_long core.dims) (place_point core place ok l) in
    record { levels = zeros_long core.dims; key = there.0; there = there.1 }

pub key_next : (core : Core) (place i : ℕ) (key new : List ℕ) (x : ℕ) → IsCore core → place < length core.shape.points → i < length core.dims.dimensions → key ≡ take i (leaves_at core place)
    → x ≡ up (plain (dimension_at core.dims i)) 0 (get_or (get_or core.shape.points place []) i 0) → new ≡ key ++ x ∷ [] → new ≡ take (i + 1) (leaves_at core place)
key_next core place i key new x ok l below so_far is grown =
    let point = get_or core.shape.points place [] in
    let finest = zeros (plains core.dims) in
    let long = zeros_long core.dims in
    let here = length-point core.dims.dimensions point (place_point core place ok l) in
    let at : get_or (leaves_at core place) i 0 ≡ x = ancestors_at core.dims.dimensions finest point i long here below ∙ ap (λ (n : ℕ). up (plain (dimension_at core.dims i)) n (get_or point i 0)) (zero_at (plains core.dims) i) ∙ sym is in
    let size = ancestors_long core.dims.dimensions finest point long here in
    rw (grown, so_far, sym at, add-one i) (sym (take-suc (leaves_at core place) i 0 (omega (arith, size, below))))

pub cell_done : (core : Core) (place i : ℕ) (levels key : List ℕ) → IsCore core → place < length core.shape.points → i ≡ length core.dims.dimensions → levels ≡ take i (zeros (plains core.dims)) → key ≡ take i (leaves_at core place)
    → (record { levels = levels; key = key } ≡ core_cell (unprotected core) place) × CellFits core.dims (record { levels = levels; key = key })
unfolding key_at
cell_done core place i levels key ok l all a b =
    let finest = zeros (plains core.dims) in
    let long = zeros_long core.dims in
    let size = ancestors_long core.dims.dimensions finest (get_or core.shape.points place []) long (length-point core.dims.dimensions (get_or core.shape.points place []) (place_point core place ok l)) in
    let levels_are : levels ≡ finest = a ∙ ap (λ (n : ℕ). take n finest) (all ∙ sym long) ∙ take-length finest in
    let key_is : key ≡ leaves_at core place = b ∙ ap (λ (n : ℕ). take n (leaves_at core place)) (all ∙ sym size) ∙ take-length (leaves_at core place) in
    rw (levels_are, key_is) (refl, cell_fits core place ok l)

-- no cell of a place looks at the policy
pub any_policy : (core : Core) (p : Policy) (place : ℕ) → core_cell (unprotected core) place ≡ core_cell (shown core p) place
unfolding key_at
any_policy core p place = refl
