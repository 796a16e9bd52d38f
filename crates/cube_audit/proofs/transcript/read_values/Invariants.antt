use Rattle.std.proofs.Common.{◌≡◌, ◌+◌, length, map, drop}
use Rattle.serde_json.specs.View.{view}
use Rattle.cube_audit.specs.Transcripts.{items_from}
use Rattle.cube_audit.proofs.Reading.{behind}
use Rattle.cube_audit.proofs.transcript.read_values.Given as goal

abbrev pub invariant-values : goal.invariant-values
invariant-values l = record {
  read : behind l.items (items_from (l.number + 1) (map view (drop l.number l.values))) ≡ items_from 1 (map view l.values);
  long : length l.items ≡ l.number;
}
