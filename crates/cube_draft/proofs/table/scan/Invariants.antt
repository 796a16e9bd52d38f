use Rattle.std.proofs.Common.{◌≡◌, ℕ, List, Some, false, length}
use Rattle.csv.specs.Machine.{ends_at_end}
use Rattle.csv.specs.Reading.{Ready, default_config, source_of}
use Rattle.csv.specs.declared.reader.Trim.TheVariants as trim
use Rattle.cube_facts.proofs.Left.{left_from}
use Rattle.cube_draft.proofs.Steps.{Passed}
use Rattle.cube_draft.proofs.table.scan.Given as goal

abbrev pub invariant-records : goal.invariant-records
invariant-records l = (length l.fields.items ≡ length l.members) × (length l.decimals.items ≡ length l.members) × (length l.turned.items ≡ length l.members)
    × (l.reader.trim ≡ trim.None) × Ready l.reader × (l.reader.config ≡ default_config) × (ends_at_end l.reader.state ≡ false)
    × (y : List ℕ) × (source_of (λ s. Some s.now) l.reader ≡ Some y)
    × Passed l.fn.bytes l.members l.fields.items l.earlier l.width l.decimals.items l.sound (left_from l.reader.state y)
