use Rattle.std.proofs.Common.{◌≡◌, ◌≤◌, ◌++◌, take, vec_capacity}
use Rattle.cube_http.specs.Buffers.{GoesOn}
use Rattle.cube_http.specs.Head.{rest}
use Rattle.cube_http.specs.Stream.{is_break, most_head}
use Rattle.cube_http.proofs.connection.push_head.Given as goal

abbrev pub invariant-loop-place : goal.invariant-loop-place
invariant-loop-place l = record {
  kept : l.head.items ≡ rest is_break (l.initial.head.items ++ take l.place l.piece);
  goes_on : GoesOn l.head.items;
  capacity : most_head ≤ vec_capacity l.head;
}
