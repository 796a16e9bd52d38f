use Rattle.std.proofs.Common.{◌≡◌, ℕ, suc, ◌+◌, ◌*◌, ◌<◌, ◌≤◌, List, [], ◌∷◌, length, get_or, map, drop, ltb, refl, sym, ap, ◌∙◌, arith}
use Rattle.std.proofs.Math.Nat.{mul-le-mul_left}
use Rattle.std.proofs.lemmas.Bool.{lt-ltb, le-ltb}
use Rattle.std.proofs.lemmas.List.{drop_more, drop_all, get_or_read}
use Rattle.cube_model.specs.Cubes.{Dimension, cuboid_count}
use Rattle.cube_model.specs.Dims.{NamedDimension, plain, no_dimension}
use Rattle.cube_dims.specs.declared.fault.DimsFault.TheVariants.{NoMemory, Limit}
use Rattle.cube_model.specs.declared.limit.LimitKind.TheVariants.{Cuboids}
use Rattle.cube_tables.proofs.Turns.{check_fault, check_none, accepted}
use Rattle.cube_dims.proofs.read.check_cuboids.Goals as goal

some_cuboids : (ds : List Dimension) → 1 ≤ cuboid_count ds
some_cuboids [] = omega arith
some_cuboids (d ∷ ds) =
    let rest = some_cuboids ds in
    let step : suc d.levels * 1 ≤ suc d.levels * cuboid_count ds = mul-le-mul_left (suc d.levels) rest in
    omega (arith, step)

-- the cuboids of the dimensions so far, times those of the rest
one_more : (ds : List NamedDimension) (i n : ℕ) (d : NamedDimension) (levels : List (List ℕ)) → i < length ds → d ≡ get_or ds i d → levels ≡ d.levels → n * cuboid_count (map plain (drop i ds)) ≡ cuboid_count (map plain ds)
    → (n * (length levels + 1)) * cuboid_count (map plain (drop (i + 1) ds)) ≡ cuboid_count (map plain ds)
one_more ds i n d levels l at named is =
    let here : drop i ds ≡ d ∷ drop (i + 1) ds = drop_more ds i no_dimension l ∙ ap (λ x. x ∷ drop (i + 1) ds) (sym (get_or_read ds i d l at no_dimension)) in
    let split : n * (suc (length d.levels) * cuboid_count (map plain (drop (i + 1) ds))) ≡ cuboid_count (map plain ds) = ap (λ (xs : List NamedDimension). n * cuboid_count (map plain xs)) (sym here) ∙ is in
    let long = ap length named in
    regrouped n (length levels) (length d.levels) (cuboid_count (map plain (drop (i + 1) ds))) long ∙ split
  where
    regrouped : (n a b c : ℕ) → a ≡ b → (n * (a + 1)) * c ≡ n * (suc b * c)
    regrouped n a b c e = ap (λ (x : ℕ). (n * (x + 1)) * c) e ∙ omega arith

pub loop-dimension-preserved : goal.loop-dimension-preserved
loop-dimension-preserved c = (
  one_more c.args.dimensions.now c.loop-dimension.dimension-index c.loop-dimension.count c.dimension-item.result c.levels.result.now c.loop-dimension-test.true c.dimension-item.is c.levels.ensures.levels c.loop-dimension.invariant.0,
  c.if-count-gt256.false,
)

pub returns-then-count-gt256 : goal.returns-then-count-gt256
returns-then-count-gt256 c =
    let ds = c.args.dimensions.now in
    let i = c.loop-dimension.dimension-index in
    let all = one_more c.args.dimensions.now c.loop-dimension.dimension-index c.loop-dimension.count c.dimension-item.result c.levels.result.now c.loop-dimension-test.true c.dimension-item.is c.levels.ensures.levels c.loop-dimension.invariant.0 in
    let rest = mul-le-mul_left (c.loop-dimension.count * (length c.levels.result.now + 1)) (some_cuboids (map plain (drop (i + 1) ds))) in
    check_fault NoMemory (Limit Cuboids 256) (Limit Cuboids 256) (ltb 256 (cuboid_count (map plain ds)))
    (lt-ltb 256 (cuboid_count (map plain ds)) (omega (arith, all, rest, c.if-count-gt256.true)))
    refl

pub returns : goal.returns
returns c =
    let ds = c.args.dimensions.now in
    let i = c.loop-dimension.dimension-index in
    let none = ap (λ (xs : List NamedDimension). c.loop-dimension.count * cuboid_count (map plain xs)) (drop_all i ds c.loop-dimension-test.false) in
    accepted _ _ _ (check_none (Limit Cuboids 256) (ltb 256 (cuboid_count (map plain ds))) (le-ltb 256 (cuboid_count (map plain ds)) (omega (arith, none, c.loop-dimension.invariant.0, c.loop-dimension.invariant.1)))) refl
