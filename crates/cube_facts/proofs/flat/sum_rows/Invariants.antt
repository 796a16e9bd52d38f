use Rattle.std.proofs.Common.{◌≡◌, ◌≤◌, ◌-◌, length, take}
use Rattle.cube_facts.specs.Flat.{parts, sum_of}
use Rattle.cube_model.specs.Cores.{IsSumOf}
use Rattle.cube_facts.specs.Table.{rows_in}
use Rattle.cube_facts.proofs.flat.sum_rows.Given as goal

abbrev pub invariant-blocks-2 : goal.invariant-blocks-2
invariant-blocks-2 l = record {
  within : l.start ≤ length l.values;
  sum : l.sum ≡ sum_of (parts l.line) (take l.start (rows_in l.width l.fields l.values));
  bounded : IsSumOf l.start l.sum;
}

abbrev pub decreases-blocks-2 : goal.decreases-blocks-2
decreases-blocks-2 l = length l.values - l.start
