use Rattle.std.proofs.Common.{◌∙◌, ap, not, sym}
use Rattle.cube_source.specs.Blocks.{bare}
use Rattle.cube_source.proofs.Guards.{guarded_none, guarded_some}
use Rattle.cube_source.proofs.protecting.is_guarded.Goals as goal

pub returns-then-not-has_measure : goal.returns-then-not-has_measure
returns-then-not-has_measure c = ap not c.if-not-has_measure.true ∙ guarded_none (bare c.args.core.now) c.args.measure c.args.objects.now c.args.place (sym c.has_measure.ensures ∙ c.if-not-has_measure.true)

pub returns-else-not-has_measure : goal.returns-else-not-has_measure
returns-else-not-has_measure c = guarded_some (bare c.args.core.now) c.args.measure c.args.objects.now c.args.place c.is_guarded_by.result (sym c.has_measure.ensures ∙ c.if-not-has_measure.false) c.is_guarded_by.ensures
