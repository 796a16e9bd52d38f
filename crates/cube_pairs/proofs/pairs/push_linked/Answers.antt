use Rattle.std.proofs.Common.{arith}
use Rattle.cube_pairs.proofs.Pairing.{pair_more}
use Rattle.cube_pairs.proofs.pairs.push_linked.Goals as goal

pub pairs-preserved : goal.pairs-preserved
pairs-preserved c = record {
  made = pair_more c.pairs.links.items _ c.push_reserved.new.self.items c.args.places.now c.pairs.number (omega arith) c.push_reserved.ensures.items c.pairs.invariant.made;
  room = omega (arith, c.pairs.invariant.room, c.push_reserved.ensures.len, c.push_reserved.ensures.capacity);
}
