use Rattle.std.proofs.Common.{refl}
use Rattle.std.specs.Fmt.{digits}
use Rattle.std.specs.Str.{is_utf8, chars}
use Rattle.serde_json.proofs.OnLiterals.{serde_json_on_literals}
use Rattle.cube_model.specs.Cubes.{up, key_at}
use Rattle.cube_model.specs.Links.{links, suiting}
use Rattle.cube_model.specs.Protection.{protected, cutting_pairs}
use Rattle.cube_model.specs.Requests.{is_picked, grain}
use Rattle.cube_model.specs.Verdicts.{source, links_of}
use Rattle.cube_query.specs.Faults.{request_of}
use Rattle.cube_query.specs.Grammar.{queries, is_begun, syntax_at, query_of}
use Rattle.cube_query.specs.Requests.{resolved}
use Rattle.cube_text.specs.Quoting.{is_bare}
use Rattle.cube_audit.specs.Audits.{audited}
use Rattle.cube_audit.specs.Transcripts.{json_of, item_of, items_of, transcript_of}
use Rattle.cube_audit.proofs.worked.worked_audits.Goals as goal

pub returns-clause-nothing : goal.returns-clause-nothing
unfolding digits up key_at protected cutting_pairs is_bare is_picked queries is_begun syntax_at query_of request_of resolved grain source links suiting links_of audited
returns-clause-nothing c = refl

pub returns-clause-months : goal.returns-clause-months
unfolding digits up key_at protected cutting_pairs is_bare is_picked queries is_begun syntax_at query_of request_of resolved grain source links suiting links_of audited
returns-clause-months c = refl

pub returns-clause-then_areas : goal.returns-clause-then_areas
unfolding digits up key_at protected cutting_pairs is_bare is_picked queries is_begun syntax_at query_of request_of resolved grain source links suiting links_of audited
returns-clause-then_areas c = refl

pub returns-clause-wrong : goal.returns-clause-wrong
unfolding digits up key_at protected cutting_pairs is_bare is_picked queries is_begun syntax_at query_of request_of resolved grain source links suiting links_of audited
returns-clause-wrong c = refl

pub returns-clause-passed_over : goal.returns-clause-passed_over
unfolding digits up key_at protected cutting_pairs is_bare is_picked queries is_begun syntax_at query_of request_of resolved grain source links suiting links_of audited
returns-clause-passed_over c = refl

pub returns-clause-counted_with_all : goal.returns-clause-counted_with_all
unfolding digits up key_at protected cutting_pairs is_bare is_picked queries is_begun syntax_at query_of request_of resolved grain source links suiting links_of audited
returns-clause-counted_with_all c = refl

pub returns-clause-links : goal.returns-clause-links
unfolding digits up key_at protected cutting_pairs is_bare is_picked queries is_begun syntax_at query_of request_of resolved grain source links suiting links_of audited
returns-clause-links c = refl

pub returns-clause-from_bytes : goal.returns-clause-from_bytes
unfolding digits up key_at protected cutting_pairs is_bare is_picked queries is_begun syntax_at query_of request_of resolved grain source links suiting links_of audited is_utf8 chars lib.Utf8.encode serde_json_on_literals json_of item_of items_of transcript_of
returns-clause-from_bytes c = refl
