use Rattle.std.specs.List.{flat_map}
use Rattle.std.proofs.Common.{ℕ, ◌++◌, List, length, filter, take, sym, ap, ◌∙◌, arith}
use Rattle.std.proofs.lemmas.List.{append-nil, append_assoc, take_all}
use Rattle.cube_model.specs.declared.cell.Cell.{Cell}
use Rattle.cube_model.specs.Dims.{plains}
use Rattle.cube_model.specs.Protection.{touched}
use Rattle.cube_source.specs.Blocks.{bare}
use Rattle.cube_source.specs.Fresh.{is_fresh}
use Rattle.cube_source.proofs.Growing.{kept_twice, take_short}
use Rattle.cube_source.proofs.Keys.{below_levels}
use Rattle.cube_source.proofs.Repeats.{cuboid_more}
use Rattle.cube_source.proofs.listing.add_under.Goals as goal

pub add_fresh-requires-clause-levels : goal.add_fresh-requires-clause-levels
add_fresh-requires-clause-levels c = below_levels (plains c.args.core.now.dims) c.args.object.now.levels c.as_slice-levels-items.result.now c.levels.levels-index c.levels-item.result c.requires.levels (c.as_slice-levels-items.ensures ∙ c.in_ok-cuboids.ensures) c.levels-test.true c.levels-item.is

pub levels-init : goal.levels-init
levels-init c = record {
  room = c.requires.room;
  added = sym (ap (take c.args.most) (append-nil c.args.cells.now) ∙ take_all c.args.most c.args.cells.now c.requires.room);
}

pub levels-preserved : goal.levels-preserved
levels-preserved c =
    let fresh = is_fresh (bare c.args.core.now) c.args.earlier.now c.args.object.now.measure in
    let done = filter fresh (flat_map (touched (bare c.args.core.now) c.args.object.now) (take c.levels.levels-index c.as_slice-levels-items.result.now)) in
    let more = filter fresh (touched (bare c.args.core.now) c.args.object.now c.levels-item.result) in
    let is = c.in_ok-add_fresh.ensures
    ∙ ap (λ (ts : List Cell). take c.args.most (ts ++ more)) c.levels.invariant.added
    ∙ kept_twice c.args.most (c.args.cells.now ++ done) more
    ∙ ap (take c.args.most) (append_assoc c.args.cells.now done more ∙ ap (λ (ts : List Cell). c.args.cells.now ++ ts) (sym (cuboid_more (bare c.args.core.now) c.args.earlier.now c.args.object.now c.as_slice-levels-items.result.now c.levels.levels-index c.levels-item.result c.levels-test.true c.levels-item.is))) in
    let size = ap length c.in_ok-add_fresh.ensures in
    let short = take_short c.args.most (c.levels.cells ++ more) in
    record { room = omega (arith, size, short); added = is }

pub returns : goal.returns
returns c =
    let fresh = is_fresh (bare c.args.core.now) c.args.earlier.now c.args.object.now.measure in
    c.levels.invariant.added
    ∙ ap (λ (cuboids : List (List ℕ)). take c.args.most (c.args.cells.now ++ filter fresh (flat_map (touched (bare c.args.core.now) c.args.object.now) cuboids)))
    (take_all c.levels.levels-index c.as_slice-levels-items.result.now c.levels-test.false ∙ c.as_slice-levels-items.ensures ∙ c.in_ok-cuboids.ensures)
