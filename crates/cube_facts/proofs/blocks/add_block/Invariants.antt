use Rattle.std.proofs.Common.{ℕ, List, ◌+◌, map, drop}
use Rattle.cube_model.specs.Dims.{Dims}
use Rattle.cube_facts.specs.Blocks.{fact_held, Awaits, AreNoted}
use Rattle.cube_facts.proofs.blocks.add_block.Given as goal

abbrev pub invariant-loop-place : goal.invariant-loop-place
invariant-loop-place l = record {
  awaits : (s : Dims) (all : List (List (List ℕ))) (header : List (List ℕ)) (rest : List (List (List ℕ)))
      → Awaits s all header l.fn.points l.earlier (map fact_held l.block) rest → Awaits s all header l.points (l.earlier + l.place) (map fact_held (drop l.place l.block)) rest;
  noted : AreNoted l.points l.noted l.block;
}
