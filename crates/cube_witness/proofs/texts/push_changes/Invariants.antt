use Rattle.std.proofs.Common.{◌≡◌, ◌++◌, drop, flat_map}
use Rattle.cube_witness.specs.WitnessText.{change_line}
use Rattle.cube_witness.proofs.texts.push_changes.Given as goal

abbrev pub invariant-loop-change : goal.invariant-loop-change
invariant-loop-change l = l.text ++ flat_map (change_line l.dims l.shape) (drop l.change-index l.changes) ≡ l.fn.text ++ flat_map (change_line l.dims l.shape) l.changes
