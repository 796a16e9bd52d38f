use Rattle.std.proofs.Common.{ℕ, ◌<◌, ◌∙◌, length, length-set, arith, subst, List}
use Rattle.cube_facts.specs.Filling.{IsNoted}
use Rattle.cube_facts.proofs.Awaiting.{noted_next, noted_at}
use Rattle.cube_facts.proofs.blocks.noted_places.Goals as goal

pub loop-place-preserved : goal.loop-place-preserved
loop-place-preserved c =
    let points = c.args.points.now in
    let block = c.args.block.now in
    let i = c.loop-place.place in
    let h = c.index-block-place.result in
    let there : i < length c.loop-place.noted = omega (arith, c.loop-place.invariant.long, c.loop-place-test.true, c.requires.short) in
    let at = subst (λ (xs : List ℕ). IsNoted points xs c.noted.result) c.as_slice.ensures.value c.noted.ensures in
    let now = noted_at points block i h c.noted.result c.loop-place-test.true c.index-block-place.is at in
    record {
      long = length-set c.loop-place.noted i c.noted.result ∙ c.loop-place.invariant.long;
      noted = noted_next points c.loop-place.noted block i c.noted.result there c.loop-place-test.true c.loop-place.invariant.noted now;
    }

pub returns : goal.returns
returns c = λ i d l. c.loop-place.invariant.noted i d (omega (arith, l, c.loop-place-test.false))
