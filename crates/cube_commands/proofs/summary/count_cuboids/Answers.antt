use Rattle.std.proofs.Common.{◌≡◌, ℕ, suc, ◌+◌, ◌*◌, ◌<◌, ◌≤◌, List, [], ◌∷◌, length, get_or, map, drop, sym, ap, ◌∙◌, arith}
use Rattle.std.proofs.Math.Nat.{mul-le-mul_left}
use Rattle.std.proofs.lemmas.List.{drop_more, drop_all, get_or_read}
use Rattle.cube_model.specs.Cubes.{Dimension, cuboid_count}
use Rattle.cube_model.specs.Dims.{NamedDimension, plain, no_dimension}
use Rattle.cube_commands.proofs.summary.count_cuboids.Goals as goal

some_cuboids : (ds : List Dimension) → 1 ≤ cuboid_count ds
some_cuboids [] = omega arith
some_cuboids (d ∷ ds) =
    let rest = some_cuboids ds in
    let step : suc d.levels * 1 ≤ suc d.levels * cuboid_count ds = mul-le-mul_left (suc d.levels) rest in
    omega (arith, step)

regrouped : (n a b c : ℕ) → a ≡ b → (n * (a + 1)) * c ≡ n * (suc b * c)
regrouped n a b c e = ap (λ (x : ℕ). (n * (x + 1)) * c) e ∙ omega arith

-- the cuboids of the dimensions so far, times those of the rest
one_more : (ds : List NamedDimension) (i n : ℕ) (d : NamedDimension) (levels : List (List ℕ)) → i < length ds → d ≡ get_or ds i d → levels ≡ d.levels → n * cuboid_count (map plain (drop i ds)) ≡ cuboid_count (map plain ds)
    → (n * (length levels + 1)) * cuboid_count (map plain (drop (i + 1) ds)) ≡ cuboid_count (map plain ds)
one_more ds i n d levels l at named is =
    let here : drop i ds ≡ d ∷ drop (i + 1) ds = drop_more ds i no_dimension l ∙ ap (λ x. x ∷ drop (i + 1) ds) (sym (get_or_read ds i d l at no_dimension)) in
    let split : n * (suc (length d.levels) * cuboid_count (map plain (drop (i + 1) ds))) ≡ cuboid_count (map plain ds) = ap (λ (xs : List NamedDimension). n * cuboid_count (map plain xs)) (sym here) ∙ is in
    regrouped n (length levels) (length d.levels) (cuboid_count (map plain (drop (i + 1) ds))) (ap length named) ∙ split

pub loop-dimension-init : goal.loop-dimension-init
loop-dimension-init c = omega arith

pub loop-dimension-preserved : goal.loop-dimension-preserved
loop-dimension-preserved c =
    let ds = c.args.dims.now.dimensions in
    let i = c.loop-dimension.dimension-index in
    let d = c.dimension-item.result in
    let items = c.dimensions-dimension-items.ensures.dimensions in
    let long = ap length items in
    let all = one_more ds i c.loop-dimension.count d c.levels.result.now (omega (arith, long, c.loop-dimension-test.true)) (c.dimension-item.is ∙ ap (λ xs. get_or xs i d) items) c.levels.ensures.levels c.loop-dimension.invariant in
    all

pub overflow_mul-count : goal.overflow_mul-count
overflow_mul-count c =
    let ds = c.args.dims.now.dimensions in
    let i = c.loop-dimension.dimension-index in
    let d = c.dimension-item.result in
    let items = c.dimensions-dimension-items.ensures.dimensions in
    let long = ap length items in
    let all = one_more ds i c.loop-dimension.count d c.levels.result.now (omega (arith, long, c.loop-dimension-test.true)) (c.dimension-item.is ∙ ap (λ xs. get_or xs i d) items) c.levels.ensures.levels c.loop-dimension.invariant in
    let more = mul-le-mul_left (c.loop-dimension.count * (length c.levels.result.now + 1)) (some_cuboids (map plain (drop (i + 1) ds))) in
    omega (arith, all, more, c.dimensions-dimension-items.ensures.rules.few_cuboids)

pub returns : goal.returns
returns c =
    let long = ap length c.dimensions-dimension-items.ensures.dimensions in
    let past : length c.args.dims.now.dimensions ≤ c.loop-dimension.dimension-index = omega (arith, long, c.loop-dimension-test.false) in
    let none = ap (λ (xs : List NamedDimension). c.loop-dimension.count * cuboid_count (map plain xs)) (drop_all c.loop-dimension.dimension-index c.args.dims.now.dimensions past) in
    omega (arith, none, c.loop-dimension.invariant)
