use Rattle.std.proofs.Common.{arith}
use Rattle.cube_gen.proofs.Steps.{branch_more, dims_whole}
use Rattle.cube_gen.proofs.tables.make_dims.Goals as goal

pub branches-preserved : goal.branches-preserved
branches-preserved c = branch_more c.args.size c.branches.branch c.branches.text c.push_branch.new.text c.branches.invariant c.in_ok-push_branch.ensures

pub returns : goal.returns
returns c =
    let size = c.from-branch-end.ensures in
    dims_whole c.args.size c.branches.branch c.branches.text c.push_others.new.text c.branches.invariant (omega (arith, c.branches-test.false, c.branches.auto.branch-end, size)) c.in_ok-push_others.ensures
