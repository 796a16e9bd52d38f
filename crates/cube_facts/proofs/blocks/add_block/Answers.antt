use Rattle.std.proofs.Common.{List, ℕ, ◌+◌, ◌≡◌, ap₂, sym, inr, subst, arith, ℤ, map, drop, get_or}
use Rattle.cube_facts.specs.Filling.{IsNoted}
use Rattle.cube_facts.specs.declared.blocks.Held.{Held}
use Rattle.cube_facts.specs.FactFile.{Fact}
use Rattle.cube_facts.specs.Blocks.{fact_held, Awaits}
use Rattle.cube_facts.proofs.Awaiting.{at_front, all_added, awaits_fits, awaits_more, awaits_points, may_look}
use Rattle.cube_facts.proofs.blocks.add_block.Goals as goal

pub add-requires : goal.add-requires
add-requires c =
    let m = c.requires.may in
    let f : Fact = record { leaves = c.as_slice.result.now; units = c.as_slice-in-loop-place.result.now } in
    let is : fact_held c.index-block-place.result ≡ f = ap₂ (λ (l : List ℕ) (u : List ℤ). record { leaves = l; units = u }) (sym c.as_slice.ensures.value) (sym c.as_slice-in-loop-place.ensures.value) in
    let w = at_front m.s m.all m.header c.loop-place.points (c.args.earlier + c.loop-place.place) c.args.block.now c.loop-place.place c.index-block-place.result f m.rest c.loop-place-test.true c.index-block-place.is is (c.loop-place.invariant.awaits m.s m.all m.header m.rest m.awaits) in
    let n = get_or c.noted_places-noted.result c.loop-place.place 0 in
    record {
      fits = awaits_fits m.s m.header m.all c.loop-place.points (c.args.earlier + c.loop-place.place) f (map fact_held (drop (c.loop-place.place + 1) c.args.block.now)) m.rest m.rules w;
      noted = subst (λ (xs : List ℕ). IsNoted c.loop-place.points xs n) (sym c.as_slice.ensures.value)
          (subst (λ (h : Held). IsNoted c.loop-place.points h.leaves.items n) (sym c.index-block-place.is) (c.loop-place.invariant.noted c.loop-place.place c.index-block-place.result c.loop-place-test.true));
    }

pub returns-then-len-gt-MAX_POINTS-clause-err : goal.returns-then-len-gt-MAX_POINTS-clause-err
returns-then-len-gt-MAX_POINTS-clause-err c = λ s all header rest a. (
    let f : Fact = record { leaves = c.as_slice.result.now; units = c.as_slice-in-loop-place.result.now } in
    let is : fact_held c.index-block-place.result ≡ f = ap₂ (λ (l : List ℕ) (u : List ℤ). record { leaves = l; units = u }) (sym c.as_slice.ensures.value) (sym c.as_slice-in-loop-place.ensures.value) in
    let w = at_front s all header c.loop-place.points (c.args.earlier + c.loop-place.place) c.args.block.now c.loop-place.place c.index-block-place.result f rest c.loop-place-test.true c.index-block-place.is is (c.loop-place.invariant.awaits s all header rest a) in
    inr (awaits_points s header all c.loop-place.points c.add.new.self (c.args.earlier + c.loop-place.place) f (map fact_held (drop (c.loop-place.place + 1) c.args.block.now)) rest w (λ fs. c.in_ok-add.ensures.adds s fs) (omega (arith, c.len.ensures, c.if-len-gt-MAX_POINTS.true))))

pub loop-place-preserved : goal.loop-place-preserved
loop-place-preserved c = record {
  awaits = λ s all header rest a. (
      let f : Fact = record { leaves = c.as_slice.result.now; units = c.as_slice-in-loop-place.result.now } in
      let is : fact_held c.index-block-place.result ≡ f = ap₂ (λ (l : List ℕ) (u : List ℤ). record { leaves = l; units = u }) (sym c.as_slice.ensures.value) (sym c.as_slice-in-loop-place.ensures.value) in
      let w = at_front s all header c.loop-place.points (c.args.earlier + c.loop-place.place) c.args.block.now c.loop-place.place c.index-block-place.result f rest c.loop-place-test.true c.index-block-place.is is (c.loop-place.invariant.awaits s all header rest a) in
      let next : c.args.earlier + c.loop-place.place + 1 ≡ c.args.earlier + (c.loop-place.place + 1) = omega arith in
      subst (λ (n : ℕ). Awaits s all header c.add.new.self n (map fact_held (drop (c.loop-place.place + 1) c.args.block.now)) rest) next
      (awaits_more s header all c.loop-place.points c.add.new.self (c.args.earlier + c.loop-place.place) f (map fact_held (drop (c.loop-place.place + 1) c.args.block.now)) rest w (λ fs. c.in_ok-add.ensures.adds s fs) (omega (arith, c.len.ensures, c.if-len-gt-MAX_POINTS.false))));
  noted = λ i d l. c.in_ok-add.ensures.kept (get_or c.args.block.now i d).leaves.items (get_or c.noted_places-noted.result i 0) (c.loop-place.invariant.noted i d l);
}

pub returns-clause-ok : goal.returns-clause-ok
returns-clause-ok c = λ s all header rest a.
    all_added s all header c.loop-place.points c.args.earlier c.args.block.now c.loop-place.place rest (omega (arith, c.loop-place-test.false, c.loop-place.auto.place-end)) (c.loop-place.invariant.awaits s all header rest a)

pub noted_places-noted-requires-clause-may : goal.noted_places-noted-requires-clause-may
noted_places-noted-requires-clause-may c = may_look c.args.points.now c.args.earlier c.args.block.now c.requires.may
