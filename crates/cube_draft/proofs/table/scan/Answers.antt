use Rattle.std.proofs.Common.{rules, true, Bor, List, ℕ, ◌∙◌, inl, inr, Some}
use Rattle.csv.specs.Records.{fields_of}
use Rattle.csv.specs.Reading.{strip_bom}
use Rattle.cube_facts.proofs.Whole.{left-end, left-more, first-more}
use Rattle.cube_facts.proofs.Left.{left_from}
use Rattle.cube_draft.proofs.Steps.{passed_start, passed_more, passed_end}
use Rattle.cube_draft.proofs.table.scan.Goals as goal

pub returns-in-Ok-false-read_byte_record-clause-scanned : goal.returns-in-Ok-false-read_byte_record-clause-scanned
returns-in-Ok-false-read_byte_record-clause-scanned c =
    let (a, b, d, plain, ready, config, between, y, source, passed) = c.records.invariant in
    let read = rw c.in-Ok-false-read_byte_record.field-0-test at (c.in-Ok-false-read_byte_record.ensures.reads plain ready) in
    let none = left-end (λ (s : Bor (List ℕ)). Some s.now) c.records.reader c.read_byte_record-in-records.new.self (fields_of c.read_byte_record-in-records.new.row) y config source read in
    passed_end c.args.bytes.now c.args.members.now c.records.fields.items c.records.earlier c.len-width.result c.records.decimals.items c.records.sound (left_from c.records.reader.state y) passed none

pub records-init : goal.records-init
records-init c =
    let fr = c.open_records-reader.ensures in
    let read = rw c.in-Ok-true.field-0-test at (c.in-Ok-true.ensures.reads fr.trim (inr (inr (fr.has_headers, fr.headers)))) in
    let (z, at_z, between, step) = first-more (λ (s : Bor (List ℕ)). Some s.now) c.open_records-reader.result c.read_byte_record.new.self (fields_of c.read_byte_record.new.row) (strip_bom c.args.bytes.now) fr.config fr.source fr.state read in (
      c.in_ok-fields.ensures.long,
      search rules,
      search rules,
      read.3 ∙ fr.trim,
      inl (c.in-Ok-true.ensures.ready fr.trim),
      read.2 ∙ fr.config,
      between,
      z,
      at_z,
      passed_start c.args.bytes.now c.args.members.now c.in_ok-fields.fields.items c.len-width.result c.args.least.items true (fields_of c.read_byte_record.new.row) (left_from c.read_byte_record.new.self.state z) step c.in_ok-fields.ensures.empty c.len-width.ensures,
    )

pub records-preserved : goal.records-preserved
records-preserved c =
    let (a, b, d, plain, ready, config, between, y, source, passed) = c.records.invariant in
    let read = rw c.in-Ok-true-read_byte_record.field-0-test at (c.in-Ok-true-read_byte_record.ensures.reads plain ready) in
    let f = fields_of c.read_byte_record-in-records.new.row in
    let (z, at_z, next_between, step) = left-more (λ (s : Bor (List ℕ)). Some s.now) c.records.reader c.read_byte_record-in-records.new.self f y config source between read in (
      c.push_fields.ensures.long ∙ a,
      c.note_fields-read.ensures.decimals ∙ b,
      c.note_fields-read.ensures.turned ∙ d,
      read.3 ∙ plain,
      inl (c.in-Ok-true-read_byte_record.ensures.ready plain),
      read.2 ∙ config,
      next_between,
      z,
      at_z,
      passed_more c.args.bytes.now c.args.members.now c.records.fields.items c.push_fields.new.columns.items c.records.earlier c.len-width.result c.records.decimals.items c.note_fields-read.new.decimals.items c.records.sound c.both-sound.result (left_from c.records.reader.state y) (left_from c.read_byte_record-in-records.new.self.state z) f passed step c.in_ok-push_fields.ensures.grows
          (record {
            few = c.in_ok-check_record.ensures.few;
            wide = c.in_ok-check_record.ensures.wide;
            before = c.both-sound.ensures.one;
            steady = λ yes. c.note_fields-read.ensures.steady (c.both-sound.ensures.other yes);
            numbers = λ yes. c.note_fields-read.ensures.read (c.both-sound.ensures.other yes);
          }),
    )
