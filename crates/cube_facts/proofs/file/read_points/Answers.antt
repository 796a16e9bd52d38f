use Rattle.std.proofs.Common.{List, ◌+◌, ◌≤◌, ◌∷◌, ◌∙◌, ap, sym, inl, inr, Ok, subst, arith, length, map, take}
use Rattle.cube_facts.specs.Blocks.{fact_held, Reads}
use Rattle.cube_facts.specs.declared.blocks.Held.{Held}
use Rattle.cube_facts.proofs.Awaiting.{taken, EndsAs, awaits_taken, reads_many, reads_few, reads_faulty}
use Rattle.cube_facts.proofs.Filled.{reads_start, reads_end}
use Rattle.cube_facts.proofs.file.read_points.Goals as goal

pub turns-init : goal.turns-init
turns-init g c =
    let first = c.in_ok-next_record.ensures.found c.if-not-branch.false in
    let step = first ∙ ap (λ h. h ∷ g.R.Records.left c.next_record.new.self) (sym c.in-Ok.ensures.ok.0) in
    let once = rw c.in-Ok.ensures.ok.1 at c.in-Ok.layout.once in (
      reads_start c.args.dims.now (g.R.Records.left c.args.records.now) c.in-Ok.layout.header c.in_ok-points.points (g.R.Records.left c.next_record.new.self) step once c.in_ok-points.ensures.none,
      c.in_ok-block.ensures,
      omega arith,
    )

pub add_block-requires-clause-may : goal.add_block-requires-clause-may
add_block-requires-clause-may g c =
    let s = c.args.dims.now in
    let all = g.R.Records.left c.args.records.now in
    let header = c.in-Ok.layout.header in
    let told = c.read_block-many.ensures in
    let many = c.read_block-many.result.0 in
    let block = c.deref.result.now in
    let facts = map fact_held (take many block) in
    let t = taken c.in-Ok.layout.dims.now s c.in-Ok.ensures.ok.1 header c.turns.earlier many (g.R.Records.left c.turns.records) (g.R.Records.left c.read_block-many.new.records) (map fact_held (take many c.read_block-many.new.block.items)) facts (ap (λ (b : List Held). map fact_held (take many b)) c.deref.ensures.value) c.read_block-many.result.1 told.full told.end told.err in
    let w = awaits_taken s header all c.turns.points c.turns.earlier (g.R.Records.left c.turns.records) t.rest facts c.turns.invariant.0 t.takes in
    record { s = s; rules = c.in-Ok.ensures.rules; all = all; header = header; rest = t.rest; awaits = w }

pub returns-in-Err-add_block-clause-err : goal.returns-in-Err-add_block-clause-err
returns-in-Err-add_block-clause-err g c =
    let s = c.args.dims.now in
    let all = g.R.Records.left c.args.records.now in
    let header = c.in-Ok.layout.header in
    let told = c.read_block-many.ensures in
    let many = c.read_block-many.result.0 in
    let block = c.deref.result.now in
    let facts = map fact_held (take many block) in
    let t = taken c.in-Ok.layout.dims.now s c.in-Ok.ensures.ok.1 header c.turns.earlier many (g.R.Records.left c.turns.records) (g.R.Records.left c.read_block-many.new.records) (map fact_held (take many c.read_block-many.new.block.items)) facts (ap (λ (b : List Held). map fact_held (take many b)) c.deref.ensures.value) c.read_block-many.result.1 told.full told.end told.err in
    let w = awaits_taken s header all c.turns.points c.turns.earlier (g.R.Records.left c.turns.records) t.rest facts c.turns.invariant.0 t.takes in
    c.in-Err-add_block.ensures.err s all header t.rest w

pub turns-preserved : goal.turns-preserved
turns-preserved g c =
    let s = c.args.dims.now in
    let all = g.R.Records.left c.args.records.now in
    let header = c.in-Ok.layout.header in
    let told = c.read_block-many.ensures in
    let many = c.read_block-many.result.0 in
    let block = c.deref.result.now in
    let facts = map fact_held (take many block) in
    let t = taken c.in-Ok.layout.dims.now s c.in-Ok.ensures.ok.1 header c.turns.earlier many (g.R.Records.left c.turns.records) (g.R.Records.left c.read_block-many.new.records) (map fact_held (take many c.read_block-many.new.block.items)) facts (ap (λ (b : List Held). map fact_held (take many b)) c.deref.ensures.value) c.read_block-many.result.1 told.full told.end told.err in
    let w = awaits_taken s header all c.turns.points c.turns.earlier (g.R.Records.left c.turns.records) t.rest facts c.turns.invariant.0 t.takes in
    let within : many ≤ length block = subst (λ (b : List Held). many ≤ length b) (sym c.deref.ensures.value) told.many in
    let reads = reads_many s all header c.add_block.new.points c.turns.earlier block many t.rest within (c.in-Ok-add_block.ensures.ok s all header t.rest w) in
    let ended = subst (EndsAs s header (c.turns.earlier + many) (g.R.Records.left c.read_block-many.new.records) t.rest) (c.in-Ok-true.is ∙ ap Ok c.in-Ok-true.field-0-test) t.ends in
    let more = subst (Reads s all header c.add_block.new.points (c.turns.earlier + many)) ended reads in (
      more,
      omega (arith, told.same, c.turns.invariant.1),
      reads_few s header all c.add_block.new.points (c.turns.earlier + many) (g.R.Records.left c.read_block-many.new.records) more,
    )

pub returns-in-Ok-false-clause-ok : goal.returns-in-Ok-false-clause-ok
returns-in-Ok-false-clause-ok g c =
    let s = c.args.dims.now in
    let all = g.R.Records.left c.args.records.now in
    let header = c.in-Ok.layout.header in
    let told = c.read_block-many.ensures in
    let many = c.read_block-many.result.0 in
    let block = c.deref.result.now in
    let facts = map fact_held (take many block) in
    let t = taken c.in-Ok.layout.dims.now s c.in-Ok.ensures.ok.1 header c.turns.earlier many (g.R.Records.left c.turns.records) (g.R.Records.left c.read_block-many.new.records) (map fact_held (take many c.read_block-many.new.block.items)) facts (ap (λ (b : List Held). map fact_held (take many b)) c.deref.ensures.value) c.read_block-many.result.1 told.full told.end told.err in
    let w = awaits_taken s header all c.turns.points c.turns.earlier (g.R.Records.left c.turns.records) t.rest facts c.turns.invariant.0 t.takes in
    let within : many ≤ length block = subst (λ (b : List Held). many ≤ length b) (sym c.deref.ensures.value) told.many in
    let reads = reads_many s all header c.add_block.new.points c.turns.earlier block many t.rest within (c.in-Ok-add_block.ensures.ok s all header t.rest w) in
    let ended = subst (EndsAs s header (c.turns.earlier + many) (g.R.Records.left c.read_block-many.new.records) t.rest) (c.in-Ok-false.is ∙ ap Ok c.in-Ok-false.field-0-test) t.ends in
    reads_end s all header c.add_block.new.points (c.turns.earlier + many) t.rest reads ended

pub returns-in-Err-ending-clause-err : goal.returns-in-Err-ending-clause-err
returns-in-Err-ending-clause-err g c =
    let s = c.args.dims.now in
    let all = g.R.Records.left c.args.records.now in
    let header = c.in-Ok.layout.header in
    let told = c.read_block-many.ensures in
    let many = c.read_block-many.result.0 in
    let block = c.deref.result.now in
    let facts = map fact_held (take many block) in
    let t = taken c.in-Ok.layout.dims.now s c.in-Ok.ensures.ok.1 header c.turns.earlier many (g.R.Records.left c.turns.records) (g.R.Records.left c.read_block-many.new.records) (map fact_held (take many c.read_block-many.new.block.items)) facts (ap (λ (b : List Held). map fact_held (take many b)) c.deref.ensures.value) c.read_block-many.result.1 told.full told.end told.err in
    let w = awaits_taken s header all c.turns.points c.turns.earlier (g.R.Records.left c.turns.records) t.rest facts c.turns.invariant.0 t.takes in
    let within : many ≤ length block = subst (λ (b : List Held). many ≤ length b) (sym c.deref.ensures.value) told.many in
    let reads = reads_many s all header c.add_block.new.points c.turns.earlier block many t.rest within (c.in-Ok-add_block.ensures.ok s all header t.rest w) in
    elim (subst (EndsAs s header (c.turns.earlier + many) (g.R.Records.left c.read_block-many.new.records) t.rest) c.in-Err-ending.is t.ends) [
      | inl memory ↦ inl memory
      | inr faulty ↦ inr (reads_faulty s header all c.add_block.new.points (c.turns.earlier + many) t.rest c.in-Err-ending.fault reads faulty)
    ]
