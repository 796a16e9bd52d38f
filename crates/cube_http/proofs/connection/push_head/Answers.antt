use Rattle.std.proofs.Common.{arith, refl}
use Rattle.cube_http.proofs.Heads.{kept_more}
use Rattle.cube_http.proofs.connection.push_head.Goals as goal

pub returns-then-push_byte-clause-stops : goal.returns-then-push_byte-clause-stops
returns-then-push_byte-clause-stops c = (
  omega arith,
  omega arith,
  kept_more c.args.head.now.items _ _ c.args.piece.now c.loop-place.place _ c.loop-place-test.true c.loop-place.invariant.kept c.push_byte.ensures.kept refl,
  c.if-push_byte.ensures.stops,
)

pub loop-place-preserved : goal.loop-place-preserved
loop-place-preserved c = record {
  kept = kept_more c.args.head.now.items _ _ c.args.piece.now c.loop-place.place _ c.loop-place-test.true c.loop-place.invariant.kept c.push_byte.ensures.kept refl;
  goes_on = c.if-push_byte.ensures.stops;
  capacity = c.push_byte.ensures.capacity;
}
