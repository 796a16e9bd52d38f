use Rattle.std.proofs.Common.{arith, sym, ◌∙◌}
use Rattle.cube_carrying.proofs.Searches.{before_short, before_end}
use Rattle.cube_carrying.proofs.keys.is_before.Goals as goal

pub returns-then-number-other : goal.returns-then-number-other
returns-then-number-other c = sym (before_short c.args.key.now c.args.other.now c.members.number c.members-test.true (omega (arith, c.if-number-other.true))) ∙ c.members.invariant.rest

pub returns : goal.returns
returns c = sym (before_end c.args.key.now c.args.other.now c.members.number (omega (arith, c.members-test.false, c.members.auto.number-end)) c.members.invariant.within) ∙ c.members.invariant.rest
