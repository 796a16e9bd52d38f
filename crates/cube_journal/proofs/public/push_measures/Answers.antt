use Rattle.std.proofs.Common.{◌<◌, length, arith}
use Rattle.cube_journal.specs.PublicText.{measure_line}
use Rattle.cube_journal.proofs.Publics.{zip_item}
use Rattle.cube_journal.proofs.public.push_measures.Goals as goal

pub loop-i-preserved : goal.loop-i-preserved
loop-i-preserved c =
    let there : c.loop-i.i < length c.args.methods.now = omega (arith, c.requires, c.loop-i-test.true) in
    zip_item measure_line c.args.measures.now c.args.methods.now c.loop-i.i c.index-measures-i.result _ _ _ _ c.loop-i-test.true there c.index-measures-i.is c.loop-i.invariant c.in_ok-push_measure.ensures
