use Rattle.std.proofs.Common.{◌≡◌, ◌-◌, ◌<◌, length}
use Rattle.std.specs.Bool.{xor}
use Rattle.cube_colour.specs.Forests.{node_at, Labels, IsLabelled}
use Rattle.cube_colour.proofs.forest.Forest.find.Given as goal

abbrev pub invariant-up : goal.invariant-up
invariant-up l = record {
  below : l.root < length l.nodes;
  labels : (labels : Labels) → IsLabelled l.nodes labels → (labels.root l.root ≡ labels.root l.place) × (xor l.opposite (labels.opposite l.root) ≡ labels.opposite l.place);
}

abbrev pub decreases-up : goal.decreases-up
decreases-up l = length l.nodes - (node_at l.nodes l.root).rank
