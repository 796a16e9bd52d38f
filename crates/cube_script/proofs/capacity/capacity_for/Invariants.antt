use Rattle.std.proofs.Common.{◌≡◌, take, map, sum_by}
use Rattle.cube_script.specs.Plays.{played}
use Rattle.cube_script.specs.Capacity.{entries_for, bytes_for}
use Rattle.cube_script.proofs.capacity.capacity_for.Given as goal

abbrev pub invariant-loop-play : goal.invariant-loop-play
invariant-loop-play l = record {
  entries : l.entries ≡ sum_by entries_for (map played (take l.play-index l.plays));
  bytes : l.bytes ≡ sum_by bytes_for (map played (take l.play-index l.plays));
}
