use Rattle.std.specs.List.{list_any}
use Rattle.std.proofs.Common.{ap, ap₂, ◌∙◌}
use Rattle.cube_model.specs.declared.cell.Cell.{Cell}
use Rattle.cube_model.specs.Cores.{shown}
use Rattle.cube_model.specs.Dims.{Dims}
use Rattle.cube_model.specs.Protection.{same_cell, protected}
use Rattle.cube_carry.specs.Names.{carried_cell}
use Rattle.cube_carrying.proofs.protecting.is_protected.Goals as goal

pub returns : goal.returns
returns c =
    c.protects.ensures
    ∙ ap (λ (t : Cell). list_any (same_cell t) (protected (shown c.args.crossing.now.new.now c.args.crossing.now.new_policy.now) c.args.crossing.now.measure))
    (c.in_ok-carried.ensures ∙ ap₂ (λ (s z : Dims). carried_cell s z c.args.cell.now) c.dims.ensures.dims c.dims-2.ensures.dims)
