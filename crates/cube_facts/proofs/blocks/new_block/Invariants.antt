use Rattle.std.proofs.Common.{◌≤◌, length}
use Rattle.cube_facts.proofs.blocks.new_block.Given as goal

abbrev pub invariant-loop : goal.invariant-loop
invariant-loop l = length l.block.items ≤ l.counter
