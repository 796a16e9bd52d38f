use Rattle.std.proofs.Common.{ℕ, length, None, Option, sym, ap, ap₂, ◌∙◌}
use Rattle.std.proofs.lemmas.List.Sums.{fold_more}
use Rattle.cube_model.specs.declared.answer.Row.{Row}
use Rattle.cube_source.specs.Blocks.{bare}
use Rattle.cube_source.specs.Pairs.{lesser, block_pair}
use Rattle.cube_source.proofs.Rows.{block_places}
use Rattle.cube_source.proofs.pair.least_pair.Goals as goal

pub block_pair-requires-clause-places : goal.block_pair-requires-clause-places
block_pair-requires-clause-places c = block_places (length c.args.core.now.shape.points) c.args.blocks.now c.rows.block-index c.block-item.result c.as_slice.result.now c.requires.blocks c.rows-test.true c.block-item.is c.as_slice.ensures

pub rows-preserved : goal.rows-preserved
rows-preserved c =
    let step = λ (least : Option (ℕ × ℕ)) (block : Row). lesser least (block_pair (bare c.args.core.now) c.args.cell.now block.places) in
    let own = c.block_pair.ensures ∙ ap (block_pair (bare c.args.core.now) c.args.cell.now) (c.as_slice.ensures ∙ ap (λ (r : Row). r.places) c.block-item.is) in
    c.lesser-least.ensures ∙ ap₂ lesser c.rows.invariant own ∙ sym (fold_more step None c.args.blocks.now c.rows.block-index c.block-item.result c.rows-test.true)
