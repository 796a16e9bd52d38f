use Rattle.std.proofs.Common.{refl}
use Rattle.std.specs.Fmt.{digits}
use Rattle.std.specs.Str.{is_utf8, chars}
use Rattle.cube_text.specs.Quoting.{is_bare}
use Rattle.cube_query.specs.Grammar.{queries, is_begun, syntax_at, query_of}
use Rattle.cube_query.specs.Requests.{resolved}
use Rattle.cube_query.specs.Canonical.{request_text}
use Rattle.cube_query.specs.Faults.{request_of}
use Rattle.cube_journal.specs.PublicText.{public_text_of}
use Rattle.cube_journal.specs.Recovery.{recovered, entry_of}
use Rattle.cube_journal.proofs.worked.worked_journals.Goals as goal

pub returns-clause-public : goal.returns-clause-public
unfolding digits is_utf8 chars lib.Utf8.encode public_text_of recovered entry_of request_of request_text query_of queries is_begun syntax_at resolved is_bare
returns-clause-public c = refl

pub returns-clause-few : goal.returns-clause-few
unfolding digits is_utf8 chars lib.Utf8.encode public_text_of recovered entry_of request_of request_text query_of queries is_begun syntax_at resolved is_bare
returns-clause-few c = refl

pub returns-clause-months : goal.returns-clause-months
unfolding digits is_utf8 chars lib.Utf8.encode public_text_of recovered entry_of request_of request_text query_of queries is_begun syntax_at resolved is_bare
returns-clause-months c = refl

pub returns-clause-begun : goal.returns-clause-begun
unfolding digits is_utf8 chars lib.Utf8.encode public_text_of recovered entry_of request_of request_text query_of queries is_begun syntax_at resolved is_bare
returns-clause-begun c = refl

pub returns-clause-diary : goal.returns-clause-diary
unfolding digits is_utf8 chars lib.Utf8.encode public_text_of recovered entry_of request_of request_text query_of queries is_begun syntax_at resolved is_bare
returns-clause-diary c = refl

pub returns-clause-blanks : goal.returns-clause-blanks
unfolding digits is_utf8 chars lib.Utf8.encode public_text_of recovered entry_of request_of request_text query_of queries is_begun syntax_at resolved is_bare
returns-clause-blanks c = refl

pub returns-clause-count : goal.returns-clause-count
unfolding digits is_utf8 chars lib.Utf8.encode public_text_of recovered entry_of request_of request_text query_of queries is_begun syntax_at resolved is_bare
returns-clause-count c = refl

pub returns-clause-old_source : goal.returns-clause-old_source
unfolding digits is_utf8 chars lib.Utf8.encode public_text_of recovered entry_of request_of request_text query_of queries is_begun syntax_at resolved is_bare
returns-clause-old_source c = refl

pub returns-clause-second : goal.returns-clause-second
unfolding digits is_utf8 chars lib.Utf8.encode public_text_of recovered entry_of request_of request_text query_of queries is_begun syntax_at resolved is_bare
returns-clause-second c = refl

pub returns-clause-late : goal.returns-clause-late
unfolding digits is_utf8 chars lib.Utf8.encode public_text_of recovered entry_of request_of request_text query_of queries is_begun syntax_at resolved is_bare
returns-clause-late c = refl

pub returns-clause-same_place : goal.returns-clause-same_place
unfolding digits is_utf8 chars lib.Utf8.encode public_text_of recovered entry_of request_of request_text query_of queries is_begun syntax_at resolved is_bare
returns-clause-same_place c = refl

pub returns-clause-leading_zero : goal.returns-clause-leading_zero
unfolding digits is_utf8 chars lib.Utf8.encode public_text_of recovered entry_of request_of request_text query_of queries is_begun syntax_at resolved is_bare
returns-clause-leading_zero c = refl

pub returns-clause-compact : goal.returns-clause-compact
unfolding digits is_utf8 chars lib.Utf8.encode public_text_of recovered entry_of request_of request_text query_of queries is_begun syntax_at resolved is_bare
returns-clause-compact c = refl

pub returns-clause-compact_back : goal.returns-clause-compact_back
unfolding digits is_utf8 chars lib.Utf8.encode public_text_of recovered entry_of request_of request_text query_of queries is_begun syntax_at resolved is_bare
returns-clause-compact_back c = refl
