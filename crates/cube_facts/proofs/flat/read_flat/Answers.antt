use Rattle.std.proofs.Common.{Bor, List, ℕ, ◌∙◌, sym, inl, inr, Some, w64, SFits, rules, arith}
use Rattle.std.proofs.lemmas.Int.{to_z-of_z}
use Rattle.csv.specs.Records.{fields_of}
use Rattle.csv.specs.Reading.{strip_bom}
use Rattle.cube_facts.proofs.Whole.{left-end, left-more, first-end, first-more}
use Rattle.cube_facts.proofs.Left.{left_from}
use Rattle.cube_facts.proofs.Load.{start_marked, start_none, start_narrow, loaded_start, loaded_more, loaded_fault, loaded_end}
use Rattle.cube_facts.proofs.flat.read_flat.Goals as goal

pub returns-then-has_second_mark : goal.returns-then-has_second_mark
returns-then-has_second_mark c = inr (start_marked c.args.bytes.now (sym c.has_second_mark.ensures ∙ c.if-has_second_mark.true))

pub returns-in-Ok-false : goal.returns-in-Ok-false
returns-in-Ok-false c =
    let fr = c.open_records-reader.ensures in
    let read = rw c.in-Ok-false.field-0-test at (c.in-Ok-false.ensures.reads fr.trim (inr (inr (fr.has_headers, fr.headers)))) in
    let none = first-end (λ (s : Bor (List ℕ)). Some s.now) c.open_records-reader.result c.read_byte_record.new.self (fields_of c.read_byte_record.new.row) (strip_bom c.args.bytes.now) fr.config fr.source fr.state read in
    inr (start_none c.args.bytes.now (sym c.has_second_mark.ensures ∙ c.if-has_second_mark.false) none)

pub returns-then-columns-lt2 : goal.returns-then-columns-lt2
returns-then-columns-lt2 c =
    let fr = c.open_records-reader.ensures in
    let read = rw c.in-Ok-true.field-0-test at (c.in-Ok-true.ensures.reads fr.trim (inr (inr (fr.has_headers, fr.headers)))) in
    let first = first-more (λ (s : Bor (List ℕ)). Some s.now) c.open_records-reader.result c.read_byte_record.new.self (fields_of c.read_byte_record.new.row) (strip_bom c.args.bytes.now) fr.config fr.source fr.state read in
    inr (start_narrow c.args.bytes.now (fields_of c.read_byte_record.new.row) (left_from c.read_byte_record.new.self.state first.0) (sym c.has_second_mark.ensures ∙ c.if-has_second_mark.false) first.3 (omega (arith, c.len-columns.ensures, c.if-columns-lt2.true)))

pub records-init : goal.records-init
records-init c =
    let fr = c.open_records-reader.ensures in
    let read = rw c.in-Ok-true.field-0-test at (c.in-Ok-true.ensures.reads fr.trim (inr (inr (fr.has_headers, fr.headers)))) in
    let (z, at_z, between, step) = first-more (λ (s : Bor (List ℕ)). Some s.now) c.open_records-reader.result c.read_byte_record.new.self (fields_of c.read_byte_record.new.row) (strip_bom c.args.bytes.now) fr.config fr.source fr.state read in
    let last = c.as_slice-last.ensures ∙ c.in_ok-column.ensures ∙ c.last_of.ensures in (
      read.3 ∙ fr.trim,
      inl (c.in-Ok-true.ensures.ready fr.trim),
      read.2 ∙ fr.config,
      between,
      z,
      at_z,
      loaded_start c.args.bytes.now c.len-columns.result c.as_slice-last.result.now (fields_of c.read_byte_record.new.row) (left_from c.read_byte_record.new.self.state z) c.new-fields.result c.new-values.result.items (sym c.has_second_mark.ensures ∙ c.if-has_second_mark.false) step c.len-columns.ensures last c.if-columns-lt2.false c.new-fields.ensures c.new-values.ensures.items,
    )

pub returns-in-Ok-false-read_byte_record : goal.returns-in-Ok-false-read_byte_record
returns-in-Ok-false-read_byte_record c =
    let (plain, ready, config, between, y, source, loaded) = c.records.invariant in
    let read = rw c.in-Ok-false-read_byte_record.field-0-test at (c.in-Ok-false-read_byte_record.ensures.reads plain ready) in
    let none = left-end (λ (s : Bor (List ℕ)). Some s.now) c.records.reader c.read_byte_record-in-records.new.self (fields_of c.read_byte_record-in-records.new.row) y config source read in
    loaded_end c.args.bytes.now c.len-columns.result c.as_slice-last.result.now c.records.fields c.records.values.items c.records.earlier (left_from c.records.reader.state y) loaded none

pub returns-in-Err-row_value : goal.returns-in-Err-row_value
returns-in-Err-row_value c =
    let (plain, ready, config, between, y, source, loaded) = c.records.invariant in
    let read = rw c.in-Ok-true-read_byte_record.field-0-test at (c.in-Ok-true-read_byte_record.ensures.reads plain ready) in
    let f = fields_of c.read_byte_record-in-records.new.row in
    let (z, at_z, next_between, step) = left-more (λ (s : Bor (List ℕ)). Some s.now) c.records.reader c.read_byte_record-in-records.new.self f y config source between read in
    elim c.in-Err-row_value.ensures.err [
      | inl memory ↦ inl memory
      | inr fault ↦ inr (loaded_fault c.args.bytes.now c.len-columns.result c.as_slice-last.result.now c.records.fields f c.records.values.items c.records.earlier (left_from c.records.reader.state y) (left_from c.read_byte_record-in-records.new.self.state z) c.in-Err-row_value.fault loaded step fault)
    ]

pub records-preserved : goal.records-preserved
records-preserved c =
    let (plain, ready, config, between, y, source, loaded) = c.records.invariant in
    let read = rw c.in-Ok-true-read_byte_record.field-0-test at (c.in-Ok-true-read_byte_record.ensures.reads plain ready) in
    let f = fields_of c.read_byte_record-in-records.new.row in
    let (z, at_z, next_between, step) = left-more (λ (s : Bor (List ℕ)). Some s.now) c.records.reader c.read_byte_record-in-records.new.self f y config source between read in
    let range : SFits w64 c.in-Ok.value = search rules in
    let pushed = rw (to_z-of_z w64 c.in-Ok.value range) at c.in_ok-push_value.ensures in (
      read.3 ∙ plain,
      inl (c.in-Ok-true-read_byte_record.ensures.ready plain),
      read.2 ∙ config,
      next_between,
      z,
      at_z,
      loaded_more c.args.bytes.now c.len-columns.result c.as_slice-last.result.now c.records.fields c.in_ok-fields.fields f c.records.values.items c.push_value.new.values.items c.records.earlier (left_from c.records.reader.state y) (left_from c.read_byte_record-in-records.new.self.state z) c.in-Ok.value
          loaded step c.in-Ok.ensures.ok c.in-Ok.ensures.long c.in-Ok.ensures.few c.in-Ok.ensures.value c.in-Ok.ensures.bounded c.in_ok-fields.ensures pushed,
    )
