use Rattle.std.proofs.Common.{◌≡◌, take}
use Rattle.cube_model.specs.Cores.{IsSumOf}
use Rattle.cube_facts.specs.Table.{kept_sum}
use Rattle.cube_facts.proofs.flat.sum_kept.Given as goal

abbrev pub invariant-loop-row : goal.invariant-loop-row
invariant-loop-row l = record {
  sum : l.sum ≡ kept_sum (take l.row l.kept) (take l.row l.values);
  bounded : IsSumOf l.row l.sum;
}
