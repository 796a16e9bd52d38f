use Rattle.std.proofs.Common.{◌∙◌, ap, ap₂, sym, Ok, subst, All, ◌<◌, ◌+◌, ◌*◌, length, map, get_or, pos, [], List, ℕ}
use Rattle.cube_model.specs.Cubes.{count_from}
use Rattle.cube_facts.specs.FactFile.{filled}
use Rattle.cube_facts.proofs.Filled.{counts_long, sums_long, shape_filled, cube_filled, core_of_facts}
use Rattle.cube_facts.proofs.file.read_facts_of.Goals as goal

pub shape-requires-clause-places : goal.shape-requires-clause-places
shape-requires-clause-places g c =
    let (facts, said, are, gathers) = c.in_ok-points.ensures.ok in
    let order = c.in_ok-order.ensures c.args.dims.now facts gathers in
    subst (All (λ place. place < length c.in_ok-points.points.leaves)) (sym c.as_slice.ensures.value) order.below

pub shape-requires-clause-facts : goal.shape-requires-clause-facts
shape-requires-clause-facts g c =
    let (facts, said, are, gathers) = c.in_ok-points.ensures.ok in
    let order = c.in_ok-order.ensures c.args.dims.now facts gathers in
    subst (All (λ place. place < length c.in_ok-points.points.facts.items)) (sym c.as_slice.ensures.value) (counts_long c.args.dims.now facts c.in_ok-points.points c.in_ok-order.order.items gathers order)

pub cube-requires : goal.cube-requires
cube-requires g c =
    let (facts, said, are, gathers) = c.in_ok-points.ensures.ok in
    let order = c.in_ok-order.ensures c.args.dims.now facts gathers in
    λ m below. subst (All (λ place. place * c.in_ok-points.points.measures + m < length c.in_ok-points.points.sums.items)) (sym c.as_slice-2.ensures.value) (sums_long c.args.dims.now facts c.in_ok-points.points c.in_ok-order.order.items gathers order m below)

pub returns-clause-said : goal.returns-clause-said
returns-clause-said g c =
    let (facts, said, are, gathers) = c.in_ok-points.ensures.ok in
    let order = c.in_ok-order.ensures c.args.dims.now facts gathers in
    let points = c.in_ok-points.points in
    let places = c.in_ok-order.order.items in
    let points_are = c.in_ok-shape.ensures.points ∙ ap (map (λ place. get_or points.leaves place [])) c.as_slice.ensures.value in
    let facts_are = c.in_ok-shape.ensures.facts ∙ ap (map (λ place. get_or points.facts.items place 0)) c.as_slice.ensures.value in
    let sums_are = c.in_ok-cube.ensures ∙ ap (λ (ps : List ℕ). map (λ m. map (λ place. get_or points.sums.items (place * points.measures + m) (pos 0)) ps) (count_from 0 points.measures)) c.as_slice-2.ensures.value in
    let shape = shape_filled c.args.dims.now facts points places c.in_ok-shape.shape gathers order points_are facts_are in
    let cube = cube_filled c.args.dims.now facts points places c.in_ok-cube.cube gathers order sums_are in
    ap (filled c.args.dims.now) said ∙ ap₂ (λ a b. Ok (a, b)) (sym shape) (sym cube)

pub returns-clause-rules : goal.returns-clause-rules
returns-clause-rules g c =
    let (facts, said, are, gathers) = c.in_ok-points.ensures.ok in
    let order = c.in_ok-order.ensures c.args.dims.now facts gathers in
    let points = c.in_ok-points.points in
    let places = c.in_ok-order.order.items in
    let points_are = c.in_ok-shape.ensures.points ∙ ap (map (λ place. get_or points.leaves place [])) c.as_slice.ensures.value in
    let facts_are = c.in_ok-shape.ensures.facts ∙ ap (map (λ place. get_or points.facts.items place 0)) c.as_slice.ensures.value in
    let sums_are = c.in_ok-cube.ensures ∙ ap (λ (ps : List ℕ). map (λ m. map (λ place. get_or points.sums.items (place * points.measures + m) (pos 0)) ps) (count_from 0 points.measures)) c.as_slice-2.ensures.value in
    let shape = shape_filled c.args.dims.now facts points places c.in_ok-shape.shape gathers order points_are facts_are in
    let cube = cube_filled c.args.dims.now facts points places c.in_ok-cube.cube gathers order sums_are in
    rw (shape, cube) (core_of_facts c.args.dims.now facts c.in_ok-points.ensures.rules are)
