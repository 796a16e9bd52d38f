use Rattle.std.proofs.Common.{Bor, List, ℕ, ◌∷◌, ◌∙◌, ap, sym, inr, Some}
use Rattle.csv.specs.Records.{fields_of}
use Rattle.csv.specs.Reading.{strip_bom}
use Rattle.cube_facts.proofs.Whole.{first-more}
use Rattle.cube_facts.proofs.Left.{left_from}
use Rattle.cube_draft.proofs.columns.read_header.Goals as goal

pub returns-clause-begins : goal.returns-clause-begins
returns-clause-begins c =
    let fr = c.open_records-reader.ensures in
    let read = rw c.in-Ok-true.field-0-test at (c.in-Ok-true.ensures.reads fr.trim (inr (inr (fr.has_headers, fr.headers)))) in
    let (z, at_z, between, step) = first-more (λ (s : Bor (List ℕ)). Some s.now) c.open_records-reader.result c.read_byte_record.new.self (fields_of c.read_byte_record.new.row) (strip_bom c.args.bytes.now) fr.config fr.source fr.state read in
    let left = left_from c.read_byte_record.new.self.state z in
    record { rows = left; records = step ∙ ap (λ (h : List (List ℕ)). h ∷ left) (sym c.in_ok-header.ensures) }
