use Rattle.std.proofs.Common.{sym, ◌∙◌}
use Rattle.cube_carrying.proofs.Walked.{kept_by_place}
use Rattle.cube_carrying.proofs.protecting.is_kept.Goals as goal

pub returns-then-any_under : goal.returns-then-any_under
returns-then-any_under c = sym (kept_by_place c.args.crossing.now.old.now c.args.crossing.now.new.now c.args.crossing.now.new_policy.now c.args.crossing.now.measure c.args.crossing.now.places.now c.args.cell.now c.args.levels.now c.args.covered.now c.requires.suffice c.requires.cell c.requires.levels c.requires.below c.requires.covered (sym c.any_under.ensures ∙ c.if-any_under.true))
