use Rattle.std.proofs.Common.{◌≡◌, take, true}
use Rattle.cube_demo.specs.Hiding.{cancel_in}
use Rattle.cube_demo.proofs.sums.cancel_in.Given as goal

abbrev pub invariant-rows : goal.invariant-rows
invariant-rows l = cancel_in l.signs (take l.row-index l.rows) ≡ true
