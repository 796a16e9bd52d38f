use Rattle.cube_source.proofs.Tables.{was_kept, now_kept}
use Rattle.cube_source.proofs.table.JudgeTable.judge.Goals as goal

pub returns-in-Some-clause-judged : goal.returns-in-Some-clause-judged
returns-in-Some-clause-judged c =
    (was_kept c.args.core.now c.args.policy.now c.args.self.now c.dims.result.now c.args.measure c.slot-slot.result c.args.levels.now c.in-Some.judged c.dims.ensures.dims c.requires.stands c.slot-slot.ensures c.requires.levels (c.in_ok-judged.ensures c.in-Some.judged c.in-Some.is)).verdict

pub returns-clause-stands : goal.returns-clause-stands
returns-clause-stands c =
    (now_kept c.args.core.now c.args.policy.now c.args.self.now c.keep.new.self c.dims.result.now c.args.measure c.slot-slot.result c.args.levels.now c.in_ok-judged-2.judged c.in_ok-copy.copy c.dims.ensures.dims c.requires.stands c.slot-slot.ensures c.requires.levels
    c.in_ok-judged-2.ensures c.in_ok-copy.ensures c.keep.ensures.measures c.keep.ensures.cuboids c.keep.ensures.kept c.keep.ensures.others).stands
