use Rattle.std.proofs.Common.{refl}
use Rattle.std.specs.Fmt.{digits}
use Rattle.cube_model.specs.Cubes.{up, key_at}
use Rattle.cube_model.specs.Protection.{protected, cutting_pairs}
use Rattle.cube_model.specs.Requests.{is_picked, is_valid, grain}
use Rattle.cube_model.specs.Twins.{changes}
use Rattle.cube_model.specs.Verdicts.{source, verdict}
use Rattle.cube_query.specs.Faults.{request_of}
use Rattle.cube_query.specs.Grammar.{queries, is_begun, syntax_at, query_of}
use Rattle.cube_query.specs.Requests.{resolved}
use Rattle.cube_text.specs.Quoting.{is_bare}
use Rattle.cube_engine.proofs.worked.worked_changes.Goals as goal

pub returns-clause-at_first : goal.returns-clause-at_first
unfolding digits up key_at protected cutting_pairs is_bare is_picked queries is_begun syntax_at query_of request_of resolved grain source verdict is_valid changes
returns-clause-at_first c = refl

pub returns-clause-after_months : goal.returns-clause-after_months
unfolding digits up key_at protected cutting_pairs is_bare is_picked queries is_begun syntax_at query_of request_of resolved grain source verdict is_valid changes
returns-clause-after_months c = refl

pub returns-clause-stays : goal.returns-clause-stays
unfolding digits up key_at protected cutting_pairs is_bare is_picked queries is_begun syntax_at query_of request_of resolved grain source verdict is_valid changes
returns-clause-stays c = refl

pub returns-clause-empty : goal.returns-clause-empty
unfolding digits up key_at protected cutting_pairs is_bare is_picked queries is_begun syntax_at query_of request_of resolved grain source verdict is_valid changes
returns-clause-empty c = refl

pub returns-clause-not_protected : goal.returns-clause-not_protected
unfolding digits up key_at protected cutting_pairs is_bare is_picked queries is_begun syntax_at query_of request_of resolved grain source verdict is_valid changes
returns-clause-not_protected c = refl

pub returns-clause-count : goal.returns-clause-count
unfolding digits up key_at protected cutting_pairs is_bare is_picked queries is_begun syntax_at query_of request_of resolved grain source verdict is_valid changes
returns-clause-count c = refl

pub returns-clause-slice : goal.returns-clause-slice
unfolding digits up key_at protected cutting_pairs is_bare is_picked queries is_begun syntax_at query_of request_of resolved grain source verdict is_valid changes
returns-clause-slice c = refl

pub returns-clause-span : goal.returns-clause-span
unfolding digits up key_at protected cutting_pairs is_bare is_picked queries is_begun syntax_at query_of request_of resolved grain source verdict is_valid changes
returns-clause-span c = refl

pub returns-clause-word : goal.returns-clause-word
unfolding digits up key_at protected cutting_pairs is_bare is_picked queries is_begun syntax_at query_of request_of resolved grain source verdict is_valid changes
returns-clause-word c = refl

pub returns-clause-memory : goal.returns-clause-memory
unfolding digits up key_at protected cutting_pairs is_bare is_picked queries is_begun syntax_at query_of request_of resolved grain source verdict is_valid changes
returns-clause-memory c = refl
