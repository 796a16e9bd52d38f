use Rattle.std.proofs.Common.{rules, ◌≡◌, ◌<◌, length, arith}
use Rattle.std.proofs.lemmas.List.{length-map}
use Rattle.cube_model.specs.Dims.{plain, plains}
use Rattle.cube_answers.proofs.Keys.{levels_next, key_next, cell_done}
use Rattle.cube_answers.proofs.cells.cell_at.Goals as goal

pub loop-d-preserved : goal.loop-d-preserved
loop-d-preserved c =
    let below : c.loop-d.d < length c.args.core.now.dims.dimensions = search rules in
    let size = length-map c.args.core.now.dims.dimensions plain in
    record {
      levels = levels_next (plains c.args.core.now.dims) c.loop-d.d c.loop-d.levels c.push.new.self (omega (arith, below, size)) c.loop-d.invariant.levels (c.in_ok-push.ensures.ok);
      key = key_next c.args.core.now c.args.place c.loop-d.d c.loop-d.key c.push-in-loop-d.new.self c.key_at.result c.dims.ensures.rules c.requires below c.loop-d.invariant.key c.key_at.ensures.ancestor (c.in_ok-push-2.ensures.ok);
    }

pub returns-clause-cell : goal.returns-clause-cell
returns-clause-cell c =
    let all : c.loop-d.d ≡ length c.args.core.now.dims.dimensions = search rules in
    (cell_done c.args.core.now c.args.place c.loop-d.d c.loop-d.levels c.loop-d.key c.dims.ensures.rules c.requires all c.loop-d.invariant.levels c.loop-d.invariant.key).0

pub returns-clause-there : goal.returns-clause-there
returns-clause-there c =
    let all : c.loop-d.d ≡ length c.args.core.now.dims.dimensions = search rules in
    (cell_done c.args.core.now c.args.place c.loop-d.d c.loop-d.levels c.loop-d.key c.dims.ensures.rules c.requires all c.loop-d.invariant.levels c.loop-d.invariant.key).1
