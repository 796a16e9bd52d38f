use Rattle.std.specs.List.{All}
use Rattle.std.proofs.Common.{◌≡◌, ◌++◌, drop, length}
use Rattle.cube_model.specs.declared.policy.Policy.{Policy}
use Rattle.cube_model.specs.Cores.{shown}
use Rattle.cube_core.specs.Rows.{ArePlaces}
use Rattle.cube_demo.specs.Hiding.{rows_on}
use Rattle.cube_demo.proofs.answers.rows_on.Given as goal

abbrev pub invariant-requests : goal.invariant-requests
invariant-requests l = record {
  rows : (p : Policy) → l.tables ++ rows_on (shown l.core p) l.measure (drop l.number l.requests) (drop l.number l.verdicts) ≡ rows_on (shown l.core p) l.measure l.requests l.verdicts;
  places : All (λ rows. All (λ row. ArePlaces (length l.core.shape.points) row.places) rows) l.tables;
}
