use Rattle.std.proofs.Common.{◌≡◌, ◌≤◌, vec_len, vec_capacity}
use Rattle.cube_server.proofs.lines.make_spare.Given as goal

abbrev pub invariant-loop-place : goal.invariant-loop-place
invariant-loop-place l = record { full : vec_len l.spare ≡ l._place; capacity : 64 ≤ vec_capacity l.spare }
