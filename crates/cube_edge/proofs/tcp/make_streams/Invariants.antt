use Rattle.std.proofs.Common.{◌≡◌, ◌≤◌, vec_len, vec_capacity}
use Rattle.cube_edge.proofs.tcp.make_streams.Given as goal

abbrev pub invariant-loop-place : goal.invariant-loop-place
invariant-loop-place l = record { full : vec_len l.streams ≡ l._place; capacity : 128 ≤ vec_capacity l.streams }
