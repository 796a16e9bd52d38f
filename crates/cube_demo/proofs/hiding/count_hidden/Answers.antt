use Rattle.std.proofs.Common.{subst, sym}
use Rattle.cube_model.specs.declared.cell.Cell.{Cell}
use Rattle.cube_model.specs.Cores.{shown}
use Rattle.cube_model.specs.Cubes.{IsIn}
use Rattle.cube_model.specs.Protection.{protected}
use Rattle.cube_demo.proofs.hiding.count_hidden.Goals as goal

pub has_witness-requires-clause-protected : goal.has_witness-requires-clause-protected
has_witness-requires-clause-protected c = subst (λ (t : Cell). IsIn t (protected (shown c.args.core.now c.args.policy.now) c.args.measure)) (sym c.cell-item.is) (c.requires.protected c.cells.cell-index c.cell-item.result c.cells-test.true)
