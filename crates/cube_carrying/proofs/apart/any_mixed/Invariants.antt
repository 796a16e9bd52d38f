use Rattle.std.specs.List.{list_any}
use Rattle.std.proofs.Common.{◌≡◌, drop}
use Rattle.cube_carrying.specs.Standing.{is_mixed}
use Rattle.cube_carrying.proofs.apart.any_mixed.Given as goal

abbrev pub invariant-rows : goal.invariant-rows
invariant-rows l = list_any (λ row. is_mixed l.flags row.places) (drop l.row-index l.rows) ≡ list_any (λ row. is_mixed l.flags row.places) l.rows
