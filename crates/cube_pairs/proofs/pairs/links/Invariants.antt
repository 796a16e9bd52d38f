use Rattle.std.proofs.Common.{◌≡◌, take}
use Rattle.std.specs.List.{flat_map}
use Rattle.cube_model.specs.Links.{linked}
use Rattle.cube_pairs.proofs.pairs.links.Given as goal

abbrev pub invariant-rows : goal.invariant-rows
invariant-rows l = l.links.items ≡ flat_map (λ row. linked row.places) (take l.row-index l.row-items)
