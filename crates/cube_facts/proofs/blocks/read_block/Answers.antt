use Rattle.std.proofs.Common.{List, ℕ, ◌+◌, ◌<◌, sym, subst, arith, length, map, take, length-set, ◌∙◌}
use Rattle.csv.specs.Records.{fields_of}
use Rattle.cube_facts.specs.FactFile.{Fact}
use Rattle.cube_facts.specs.Blocks.{fact_held, SaysFact, Takes}
use Rattle.cube_facts.proofs.Awaiting.{takes_more, filled_more, filled_many}
use Rattle.cube_facts.proofs.blocks.read_block.Goals as goal

pub loop-many-preserved : goal.loop-many-preserved
loop-many-preserved g c =
    let s = c.args.layout.now.dims.now in
    let header = c.args.layout.now.header in
    let block = c.loop-many.block.items in
    let i = c.loop-many.many in
    let held = c.read_held.new.held in
    let f = fields_of c.read_held.new.row in
    let (next, says) = c.in-Ok-true.ensures.found c.in-Ok-true.field-0-test in
    let (takes, long) = c.loop-many.invariant in
    let below : i < length block = omega (arith, long, c.len-many-end.ensures, c.loop-many-test.true) in
    let many = filled_many block i (omega (arith, below)) in
    let here : SaysFact s header (c.args.earlier + length (map fact_held (take i block))) (fact_held held) f = subst (λ (n : ℕ). SaysFact s header (c.args.earlier + n) (fact_held held) f) (sym many) says in
    let more = takes_more s header c.args.earlier (g.R.Records.left c.args.records.now) (g.R.Records.left c.loop-many.records) (g.R.Records.left c.read_held.new.records) (map fact_held (take i block)) (fact_held held) f takes next here in (
      subst (λ (fs : List Fact). Takes s header c.args.earlier (g.R.Records.left c.args.records.now) fs (g.R.Records.left c.read_held.new.records)) (sym (filled_more block i held below)) more,
      length-set block i held ∙ long,
    )
