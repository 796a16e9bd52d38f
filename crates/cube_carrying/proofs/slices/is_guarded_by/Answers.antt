use Rattle.std.proofs.Common.{◌∙◌, ap, not, sym}
use Rattle.cube_source.specs.Blocks.{bare}
use Rattle.cube_source.proofs.Guards.{guarded_none, guarded_some}
use Rattle.cube_carrying.proofs.slices.is_guarded_by.Goals as goal

pub returns-then-not-has_object : goal.returns-then-not-has_object
returns-then-not-has_object c = ap not c.if-not-has_object.true ∙ guarded_none (bare c.args.core.now) c.args.measure c.args.objects.now c.args.place (sym c.has_object.ensures ∙ c.if-not-has_object.true)

pub returns-else-not-has_object : goal.returns-else-not-has_object
returns-else-not-has_object c = guarded_some (bare c.args.core.now) c.args.measure c.args.objects.now c.args.place c.is_guarded_place.result (sym c.has_object.ensures ∙ c.if-not-has_object.false) c.is_guarded_place.ensures
