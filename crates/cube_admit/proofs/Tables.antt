-- The table of judged sources under a policy of a core.
use Rattle.std.proofs.Common.{sym, ◌∙◌}
use Rattle.cube_model.specs.declared.policy.Policy.{Policy}
use Rattle.cube_model.specs.Cores.{Core, shown}
use Rattle.cube_model.specs.Policies.{IsPolicy}
use Rattle.cube_source.specs.Tables.{Table, TableStands}
use Rattle.cube_admit.specs.States.{IsTableOf}

-- a table of what is public stands for the core and the policy, since each measure has a method
pub stands_by : (c : Core) (p : Policy) (t : Table) → IsPolicy c.dims p → IsTableOf (shown c p) t → TableStands c p t
stands_by c p t even table = record { measures = table.measures ∙ even.methods; cuboids = table.cuboids; found = table.found }

-- and back
pub stands_back : (c : Core) (p : Policy) (t : Table) → IsPolicy c.dims p → TableStands c p t → IsTableOf (shown c p) t
stands_back c p t even stands = record { measures = stands.measures ∙ sym even.methods; cuboids = stands.cuboids; found = stands.found }
