use Rattle.std.proofs.Common.{◌≡◌, ℕ, ◌+◌, Bool, true, false, ◌||◌, List, length, take, get_or, sym, ap, ◌∙◌, subst, arith}
use Rattle.std.proofs.lemmas.List.{length-replicate, get_or-replicate, take_all, with_items_is}
use Rattle.cube_model.specs.Protection.{listed}
use Rattle.cube_model.specs.declared.answer.Row.{Row}
use Rattle.cube_source.specs.Blocks.{bare, is_split, is_mixed, AreFlags}
use Rattle.cube_source.proofs.Rows.{block_places, flags_same, flags_more}
use Rattle.cube_source.proofs.blocks.mixed_places.Goals as goal
use Rattle.cube_source.proofs.blocks.mixed_places.Goals.{then-is_split, else-is_split}

pub is_split-requires-clause-places : goal.is_split-requires-clause-places
is_split-requires-clause-places c = block_places (length c.args.core.now.shape.points) c.args.blocks.now c.rows.block-index c.block-item.result c.as_slice-places.result.now c.requires.blocks c.rows-test.true c.block-item.is c.as_slice-places.ensures

pub mark-requires : goal.mark-requires
mark-requires c = λ k d l.
    let below = block_places (length c.args.core.now.shape.points) c.args.blocks.now c.rows.block-index c.block-item.result c.as_slice-places.result.now c.requires.blocks c.rows-test.true c.block-item.is c.as_slice-places.ensures k d l in
    let size = ap length c.as_mut_slice.ensures.value in
    let long = c.rows.invariant.long in
    omega (arith, below, size, long)

pub rows-init : goal.rows-init
rows-init c = record {
  long = ap length c.in_ok-flags.ensures ∙ length-replicate c.len.result false ∙ c.len.ensures.len;
  at = λ k l. (let size = c.len.ensures.len in ap (λ (fs : List Bool). get_or fs k false) c.in_ok-flags.ensures ∙ get_or-replicate c.len.result k false false (omega (arith, l, size)));
}

pub rows-preserved : goal.rows-preserved
rows-preserved c = elim c.if-is_split.branch [
  | then-is_split w ↦ (
      let split : is_split (bare c.args.core.now) c.args.levels.now c.as_slice-places.result.now ≡ true =
      ap (λ (ls : List ℕ). is_split (bare c.args.core.now) ls c.as_slice-places.result.now) (sym c.as_slice.ensures) ∙ sym c.is_split.ensures ∙ w.if-is_split.true in
      let old = w.as_mut_slice.ensures.value in
      let size = w.mark.ensures.long ∙ ap length old in
      let own = w.as_mut_slice.ensures.len in
      let items = ap (λ v. v.items) w.flags-is ∙ with_items_is c.rows.flags w.mark.new.flags (w.mark.ensures.long ∙ own) in
      subst (λ (fs : List Bool). AreFlags (length c.args.core.now.shape.points) (is_mixed (bare c.args.core.now) c.args.levels.now (take (c.rows.block-index + 1) c.args.blocks.now)) fs) (sym items)
      (flags_more (length c.args.core.now.shape.points) (bare c.args.core.now) c.args.levels.now c.args.blocks.now c.rows.block-index c.block-item.result c.as_slice-places.result.now c.rows.flags.items w.mark.new.flags c.rows-test.true c.block-item.is c.as_slice-places.ensures split size
      (λ k l. (let here = ap length old in w.mark.ensures.marked k (omega (arith, l, here)) ∙ ap (λ (fs : List Bool). get_or fs k false || listed k c.as_slice-places.result.now) old)) c.rows.invariant))
  | else-is_split w ↦ (
      let one : is_split (bare c.args.core.now) c.args.levels.now c.as_slice-places.result.now ≡ false =
      ap (λ (ls : List ℕ). is_split (bare c.args.core.now) ls c.as_slice-places.result.now) (sym c.as_slice.ensures) ∙ sym c.is_split.ensures ∙ w.if-is_split.false in
      subst (λ (fs : List Bool). AreFlags (length c.args.core.now.shape.points) (is_mixed (bare c.args.core.now) c.args.levels.now (take (c.rows.block-index + 1) c.args.blocks.now)) fs) (sym (ap (λ v. v.items) w.flags-is))
      (flags_same (length c.args.core.now.shape.points) (bare c.args.core.now) c.args.levels.now c.args.blocks.now c.rows.block-index c.block-item.result c.as_slice-places.result.now c.rows.flags.items c.rows-test.true c.block-item.is c.as_slice-places.ensures one c.rows.invariant))
]

pub returns : goal.returns
returns c = subst (λ (rs : List Row). AreFlags (length c.args.core.now.shape.points) (is_mixed (bare c.args.core.now) c.args.levels.now rs) c.rows.flags.items) (take_all c.rows.block-index c.args.blocks.now c.rows-test.false) c.rows.invariant
