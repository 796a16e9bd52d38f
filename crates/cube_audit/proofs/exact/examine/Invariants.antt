use Rattle.std.proofs.Common.{◌≡◌, ◌+◌, take, drop}
use Rattle.cube_model.specs.declared.policy.Policy.{Policy}
use Rattle.cube_model.specs.Cores.{world}
use Rattle.cube_audit.specs.Audits.{inexact_from, asked_by}
use Rattle.cube_audit.proofs.exact.examine.Given as goal

abbrev pub invariant-items : goal.invariant-items
invariant-items g l = record {
  exact : (p : Policy) → inexact_from l.core.dims (world l.core p) (l.number + 1) (drop l.number l.items) ≡ inexact_from l.core.dims (world l.core p) 1 l.items;
  asked : l.requests ≡ asked_by l.core.dims (take l.number l.items);
}
