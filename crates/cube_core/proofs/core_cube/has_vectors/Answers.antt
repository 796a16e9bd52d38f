use Rattle.std.specs.List.{AllByRecursion}
use Rattle.std.proofs.Common.{◌≡◌, ℕ, zero, suc, ◌+◌, ◌*◌, ◌<◌, ◌≤◌, ◌==◌, false, List, ◌∷◌, [], length, drop, get_or, sym, ap, ◌∙◌, arith}
use Rattle.std.proofs.Math.Nat.{mul-le-mul_left, mul-le-mul}
use Rattle.std.proofs.lemmas.Bool.Decides.{nat_tests}
use Rattle.std.proofs.lemmas.List.{drop_more, drop_all, get_or_read}
use Rattle.cube_model.specs.Dims.{NamedDimension, IsDimension, no_dimension}
use Rattle.cube_core.specs.Full.{vector_count}
use Rattle.cube_core.proofs.core_cube.has_vectors.Goals as goal

-- there is a vector of leaves
some_vectors : (ds : List NamedDimension) (i : ℕ) → AllByRecursion IsDimension ds → 1 ≤ vector_count (drop i ds)
some_vectors [] zero h = omega arith
some_vectors [] (suc i) h = omega arith
some_vectors (d ∷ ds) zero h =
    let rest : 1 ≤ vector_count ds = some_vectors ds 0 h.1 in
    let own = h.0.has_leaves in
    let both = mul-le-mul own rest in
    omega (arith, both)
some_vectors (d ∷ ds) (suc i) h = some_vectors ds i h.1

-- the vectors of the dimensions so far, times those of the rest
one_more : (ds : List NamedDimension) (i n : ℕ) (d : NamedDimension) (m : ℕ) → i < length ds → d ≡ get_or ds i d → m ≡ length d.paths → n * vector_count (drop i ds) ≡ vector_count ds
    → (n * m) * vector_count (drop (i + 1) ds) ≡ vector_count ds
one_more ds i n d m l at e is =
    let here : drop i ds ≡ d ∷ drop (i + 1) ds = drop_more ds i no_dimension l ∙ ap (λ x. x ∷ drop (i + 1) ds) (sym (get_or_read ds i d l at no_dimension)) in
    let split : n * (length d.paths * vector_count (drop (i + 1) ds)) ≡ vector_count ds = ap (λ (xs : List NamedDimension). n * vector_count xs) (sym here) ∙ is in
    ap (λ (x : ℕ). (n * x) * vector_count (drop (i + 1) ds)) e ∙ omega arith ∙ split

-- what is more so far is more in all
more_is_other : (number n rest all : ℕ) → number < n → 1 ≤ rest → n * rest ≡ all → (number == all) ≡ false
more_is_other number n rest all l r e =
    let some = mul-le-mul_left n r in
    let other : number < all = omega (arith, some, e, l) in
    grind (arith, nat_tests)

pub overflow_mul-vectors : goal.overflow_mul-vectors
overflow_mul-vectors c =
    let few = c.dimensions.invariant.few in
    let size = ap length c.paths.ensures.paths in
    let most = c.paths.ensures.rules.few_leaves in
    let leaves : length c.paths.result.now ≤ 65536 = omega (arith, size, most) in
    let all = mul-le-mul few leaves in
    omega (arith, all)

pub dimensions-preserved : goal.dimensions-preserved
dimensions-preserved c = record {
  counted = one_more c.args.dimensions.now c.dimensions.dimension-index c.dimensions.vectors c.dimension-item.result (length c.paths.result.now) c.dimensions-test.true c.dimension-item.is (ap length c.paths.ensures.paths) c.dimensions.invariant.counted;
  few = omega (arith, c.if-vectors-number.false, c.requires.number);
}

pub returns-then-vectors-number : goal.returns-then-vectors-number
returns-then-vectors-number c =
    let all = one_more c.args.dimensions.now c.dimensions.dimension-index c.dimensions.vectors c.dimension-item.result (length c.paths.result.now) c.dimensions-test.true c.dimension-item.is (ap length c.paths.ensures.paths) c.dimensions.invariant.counted in
    sym (more_is_other c.args.number (c.dimensions.vectors * length c.paths.result.now) (vector_count (drop (c.dimensions.dimension-index + 1) c.args.dimensions.now)) (vector_count c.args.dimensions.now) c.if-vectors-number.true (some_vectors c.args.dimensions.now (c.dimensions.dimension-index + 1) c.requires.rules) all)

pub returns : goal.returns
returns c =
    let none = ap (λ (xs : List NamedDimension). c.dimensions.vectors * vector_count xs) (drop_all c.dimensions.dimension-index c.args.dimensions.now c.dimensions-test.false) in
    let all : c.dimensions.vectors ≡ vector_count c.args.dimensions.now = omega (arith, none, c.dimensions.invariant.counted) in
    ap (λ (n : ℕ). c.args.number == n) all
