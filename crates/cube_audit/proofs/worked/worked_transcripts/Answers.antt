use Rattle.std.proofs.Common.{refl}
use Rattle.std.specs.Fmt.{digits}
use Rattle.std.specs.Str.{is_utf8, chars}
use Rattle.serde_json.proofs.OnLiterals.{serde_json_on_literals}
use Rattle.cube_audit.specs.Transcripts.{json_of, item_of, items_of, transcript_of}
use Rattle.cube_audit.proofs.worked.worked_transcripts.Goals as goal

pub returns-clause-none : goal.returns-clause-none
unfolding digits is_utf8 chars lib.Utf8.encode serde_json_on_literals json_of item_of items_of transcript_of
returns-clause-none c = refl

pub returns-clause-one : goal.returns-clause-one
unfolding digits is_utf8 chars lib.Utf8.encode serde_json_on_literals json_of item_of items_of transcript_of
returns-clause-one c = refl

pub returns-clause-others_and_twice : goal.returns-clause-others_and_twice
unfolding digits is_utf8 chars lib.Utf8.encode serde_json_on_literals json_of item_of items_of transcript_of
returns-clause-others_and_twice c = refl

pub returns-clause-not_json : goal.returns-clause-not_json
unfolding digits is_utf8 chars lib.Utf8.encode serde_json_on_literals json_of item_of items_of transcript_of
returns-clause-not_json c = refl

pub returns-clause-not_array : goal.returns-clause-not_array
unfolding digits is_utf8 chars lib.Utf8.encode serde_json_on_literals json_of item_of items_of transcript_of
returns-clause-not_array c = refl

pub returns-clause-no_object : goal.returns-clause-no_object
unfolding digits is_utf8 chars lib.Utf8.encode serde_json_on_literals json_of item_of items_of transcript_of
returns-clause-no_object c = refl

pub returns-clause-no_body : goal.returns-clause-no_body
unfolding digits is_utf8 chars lib.Utf8.encode serde_json_on_literals json_of item_of items_of transcript_of
returns-clause-no_body c = refl

pub returns-clause-point : goal.returns-clause-point
unfolding digits is_utf8 chars lib.Utf8.encode serde_json_on_literals json_of item_of items_of transcript_of
returns-clause-point c = refl

pub returns-clause-low : goal.returns-clause-low
unfolding digits is_utf8 chars lib.Utf8.encode serde_json_on_literals json_of item_of items_of transcript_of
returns-clause-low c = refl

pub returns-clause-second : goal.returns-clause-second
unfolding digits is_utf8 chars lib.Utf8.encode serde_json_on_literals json_of item_of items_of transcript_of
returns-clause-second c = refl
