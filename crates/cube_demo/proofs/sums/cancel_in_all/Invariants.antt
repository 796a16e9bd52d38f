use Rattle.std.specs.List.{list_all}
use Rattle.std.proofs.Common.{◌≡◌, take, true}
use Rattle.cube_demo.specs.Hiding.{cancel_in}
use Rattle.cube_demo.proofs.sums.cancel_in_all.Given as goal

abbrev pub invariant-tables : goal.invariant-tables
invariant-tables l = list_all (cancel_in l.signs) (take l.rows-index l.tables) ≡ true
