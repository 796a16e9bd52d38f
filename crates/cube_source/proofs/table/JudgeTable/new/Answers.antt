use Rattle.std.proofs.Common.{refl, ap, length}
use Rattle.cube_source.proofs.Tables.{keeps_none, none_stands}
use Rattle.cube_source.proofs.table.JudgeTable.new.Goals as goal

pub returns-clause-empty : goal.returns-clause-empty
returns-clause-empty c = keeps_none _ c.args.dims.now _ c.in_ok-cuboids.cuboids _ c.in_ok-slots.slots.items refl (ap length c.measures.ensures.measures) c.in_ok-cuboids.ensures.count c.in_ok-slots.ensures

pub returns-clause-stands : goal.returns-clause-stands
returns-clause-stands c = λ core same. none_stands core c.args._policy.now _ c.args.dims.now (keeps_none _ c.args.dims.now _ c.in_ok-cuboids.cuboids _ c.in_ok-slots.slots.items refl (ap length c.measures.ensures.measures) c.in_ok-cuboids.ensures.count c.in_ok-slots.ensures) same
