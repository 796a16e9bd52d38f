use Rattle.std.proofs.Common.{sym, refl, rules, inl, inr}
use Rattle.std.proofs.lemmas.Bool.{cases_Bool}
use Rattle.std.proofs.lemmas.Str.{is_utf8-from_IsUtf8, IsUtf8-from_is_utf8}
use Rattle.std.specs.Str.{is_utf8}
use Rattle.cube_audit.specs.Transcripts.{json_of}
use Rattle.cube_audit.proofs.transcript.read_json.Goals as goal

pub returns-in-Ok : goal.returns-in-Ok
unfolding json_of
returns-in-Ok c = rw (is_utf8-from_IsUtf8 c.args.bytes.now c.in-Ok.ensures.ok.0) (sym c.in-Ok.ensures.ok.1)

pub returns-else-is_memory : goal.returns-else-is_memory
unfolding json_of
returns-else-is_memory c =
    elim (cases_Bool (is_utf8 c.args.bytes.now)) [
      | inl text ↦ rw text (sym (c.in-Err.ensures.err (search rules) (IsUtf8-from_is_utf8 _ text)))
      | inr other ↦ rw other refl
    ]
