-- Values with what is added to them, and what so many facts can carry.
use Rattle.std.specs.Prelude.{unsigned_abs}
use Rattle.std.proofs.Common.{◌≡◌, ℕ, zero, suc, ◌+◌, ◌*◌, ◌<◌, ◌≤◌, List, [], ◌∷◌, ◌++◌, length, take, get_or, ℤ, pos, negsuc, ◌+ℤ◌, refl, sym, ap, ap₂, ◌∙◌, arith, add-one, sum}
use Rattle.std.proofs.lemmas.Int.{ints}
use Rattle.std.proofs.lemmas.List.{take_all}
use Rattle.std.proofs.lemmas.List.Sums.{get_or-le-sum_by}
use Rattle.cube_model.specs.Cores.{Core, IsCore, IsSumOf}
use Rattle.cube_model.specs.Twins.{added}
use Rattle.cube_model.proofs.Sources.{Each-get_or}

-- one place more
added_more : (vs ds : List ℤ) (i : ℕ) → i < length vs → i < length ds → added (take (suc i) vs) (take (suc i) ds) ≡ added (take i vs) (take i ds) ++ (get_or vs i (pos 0) +ℤ get_or ds i (pos 0)) ∷ []
added_more [] ds i l k = absurd (omega (arith, l))
added_more (v ∷ vs) [] i l k = absurd (omega (arith, k))
added_more (v ∷ vs) (d ∷ ds) zero l k = refl
added_more (v ∷ vs) (d ∷ ds) (suc i) l k = ap (λ (xs : List ℤ). (v +ℤ d) ∷ xs) (added_more vs ds i (omega (arith, l)) (omega (arith, k)))

pub sum_more : (vs ds made new : List ℤ) (i : ℕ) (x : ℤ) → i < length vs → i < length ds → made ≡ added (take i vs) (take i ds) → x ≡ get_or vs i (pos 0) +ℤ get_or ds i (pos 0) → new ≡ made ++ x ∷ [] → new ≡ added (take (i + 1) vs) (take (i + 1) ds)
sum_more vs ds made new i x l k so_far is grown =
    rw (add-one i) (grown ∙ ap₂ (λ (ys : List ℤ) (y : ℤ). ys ++ y ∷ []) so_far is ∙ sym (added_more vs ds i l k))

-- a place has at most as many facts as there are
pub facts_few : (fs : List ℕ) (i : ℕ) → i < length fs → get_or fs i 0 ≤ sum fs
facts_few fs i l = get_or-le-sum_by (λ (x : ℕ). x) fs i 0 l

-- a sum of so many numbers, each at most 10^12 in absolute value
pub sum_within : (n : ℕ) (v : ℤ) → IsSumOf n v → unsigned_abs v ≤ 1000000000000 * n
sum_within n (pos a) h = let above = h.1 in omega (arith, ints, above)
sum_within n (negsuc a) h = let below = h.0 in omega (arith, ints, below)

pub sum_small : (core : Core) (i : ℕ) (v : ℤ) → IsCore core → i < length core.shape.points → IsSumOf (get_or core.shape.facts i 0) v → unsigned_abs v ≤ 1000000000000000000
sum_small core i v ok l h =
    let within = sum_within (get_or core.shape.facts i 0) v h in
    let even = ok.facts in
    let few = facts_few core.shape.facts i (omega (arith, even, l)) in
    let all = ok.few_facts in
    omega (arith, within, few, all)

-- a measure has a value at each place
pub values_long : (core : Core) (m : ℕ) → IsCore core → m < length core.dims.measures → length (get_or core.cube m []) ≡ length core.shape.points
values_long core m ok l = let many = ok.measures in Each-get_or (λ (vs : List ℤ). length vs ≡ length core.shape.points) core.cube m [] ok.values (omega (arith, many, l))

pub all_added : (vs ds made : List ℤ) (i : ℕ) → length vs ≤ i → length ds ≤ i → made ≡ added (take i vs) (take i ds) → made ≡ added vs ds
all_added vs ds made i l k so_far = so_far ∙ ap₂ added (take_all i vs l) (take_all i ds k)
