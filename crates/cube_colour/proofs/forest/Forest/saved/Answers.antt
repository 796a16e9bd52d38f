use Rattle.cube_colour.proofs.Nodes.{fixed_back, joined_back}
use Rattle.cube_colour.proofs.forest.Forest.saved.Goals as goal

pub returns-in-Fix-clause-back : goal.returns-in-Fix-clause-back
returns-in-Fix-clause-back c =
    let h = rw c.in-Fix.is at c.requires in
    rw (c.saved_at.ensures, c.in-Fix.is) (fixed_back c.args.self.now c.in-Fix.root h.1 h.0)

pub returns-in-Join-clause-back : goal.returns-in-Join-clause-back
returns-in-Join-clause-back c =
    let h = rw c.in-Join.is at c.requires in
    rw (c.saved_at-in-Join.ensures, c.in-Join.is) (joined_back c.args.self.now c.in-Join.child c.in-Join.parent c.in-Join.field-2 h)
