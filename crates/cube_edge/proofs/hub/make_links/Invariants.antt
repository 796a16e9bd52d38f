use Rattle.std.proofs.Common.{◌≡◌, ◌≤◌, vec_len, vec_capacity, All}
use Rattle.cube_edge.specs.declared.link.Stage.TheVariants as stage
use Rattle.cube_edge.proofs.hub.make_links.Given as goal

abbrev pub invariant-loop-place : goal.invariant-loop-place
invariant-loop-place l = record {
  full : vec_len l.links ≡ l._place;
  capacity : 128 ≤ vec_capacity l.links;
  free : All (λ link. link.stage ≡ stage.Free) l.links.items;
}
