use Rattle.std.proofs.Common.{◌≡◌, ◌+◌, ◌-◌, ◌*◌, ◌≤◌, ◌++◌, drop, length}
use Rattle.std.specs.Vec.{vec_len, vec_capacity}
use Rattle.cube_model.specs.Links.{linked}
use Rattle.cube_pairs.proofs.pairs.push_linked.Given as goal

abbrev pub invariant-pairs : goal.invariant-pairs
invariant-pairs l = record {
  made : l.links.items ++ linked (drop (2 * l.number) l.places) ≡ l.initial.links.items ++ linked l.places;
  room : vec_len l.links + (length l.places - l.pairs) ≤ vec_capacity l.links + l.number;
}
