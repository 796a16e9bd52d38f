use Rattle.std.proofs.Common.{◌*◌, ◌+◌, ap, ◌∙◌, arith}
use Rattle.cube_model.specs.Dims.{plains}
use Rattle.cube_model.proofs.Numbers.{number_below}
use Rattle.cube_source.specs.Tables.{Table}
use Rattle.cube_source.proofs.Tables.{is_slot, slot_fits}
use Rattle.cube_source.proofs.table.JudgeTable.slot.Goals as goal

pub overflow_add-result : goal.overflow_add-result
overflow_add-result c =
    let measures = ap (λ (t : Table). t.measures) c.self.view_is ∙ c.requires.measures in
    let cuboids = ap (λ (t : Table). t.cuboids) c.self.view_is ∙ c.requires.cuboids in
    let below = number_below (plains c.args.dims.now) c.args.levels.now c.requires.levels in
    let number = c.cuboid_number-number.ensures in
    let fits = slot_fits c.self.inside.measures c.self.inside.cuboids c.args.measure c.cuboid_number-number.result c.self.invariant.1 c.self.invariant.2 (omega (arith, measures, c.requires.measure)) (omega (arith, number, below, cuboids)) in
    omega (arith, fits)

pub returns : goal.returns
returns c =
    let cuboids = ap (λ (t : Table). t.cuboids) c.self.view_is in
    is_slot c.args.dims.now c.args.self.now c.args.measure c.cuboid_number-number.result _ c.args.levels.now c.requires.measures c.requires.cuboids c.requires.measure c.requires.levels c.cuboid_number-number.ensures (ap (λ n. c.args.measure * n + c.cuboid_number-number.result) cuboids)
