use Rattle.std.proofs.Common.{◌+◌, arith}
use Rattle.csv.specs.Records.{fields_of}
use Rattle.cube_facts.proofs.Recorded.{said, no_faults, no_own_faults}
use Rattle.cube_facts.proofs.layout.Layout.read_fact.Goals as goal

pub returns-then-branch-2-clause-fact : goal.returns-then-branch-2-clause-fact
returns-then-branch-2-clause-fact c =
    said c.args.self.now.dims.now c.args.self.now.header (fields_of c.args.row.now) c.take_leaves.new.leaves.items c.take_units.new.units.items
    (c.in_ok-take_leaves.ensures c.if-branch.true) (c.in_ok-take_units.ensures.said c.if-branch-2.true)

pub returns-then-branch-2-clause-ok : goal.returns-then-branch-2-clause-ok
returns-then-branch-2-clause-ok c =
    let self = c.args.self.now in
    let fields = fields_of c.args.row.now in
    let none = no_faults self.dims.now self.header fields self.once (c.args.earlier + 1) c.take_leaves.new.leaves.items c.take_units.new.units.items
    (c.in_ok-take_leaves.ensures c.if-branch.true) (c.in_ok-take_units.ensures.said c.if-branch-2.true) in
    no_own_faults self.dims.now self.header fields c.args.earlier (omega (arith, c.if-earlier-ge-MAX_FACTS.false)) (omega (arith, c.len.ensures, c.len-2.ensures, c.if-len.false)) none
