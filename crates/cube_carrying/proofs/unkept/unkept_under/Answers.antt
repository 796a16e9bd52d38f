use Rattle.std.proofs.Common.{sym, ◌∙◌}
use Rattle.cube_carrying.proofs.Walked.{none_under}
use Rattle.cube_carrying.proofs.unkept.unkept_under.Goals as goal

pub returns-then-not-branch : goal.returns-then-not-branch
returns-then-not-branch c = sym (none_under c.args.crossing.now.old.now c.args.crossing.now.new.now c.args.crossing.now.new_policy.now c.args.crossing.now.measure c.args.crossing.now.places.now c.requires.suffice c.args.object.now c.requires.carries c.requires.levels (sym c.in_ok-is_exposed.ensures ∙ c.if-not-branch.true))
