use Rattle.std.proofs.Common.{refl}
use Rattle.std.specs.Fmt.{digits}
use Rattle.cube_model.specs.Cubes.{up, key_at}
use Rattle.cube_model.specs.Protection.{protected, cutting_pairs}
use Rattle.cube_model.specs.Requests.{is_picked, is_valid, grain}
use Rattle.cube_model.specs.Verdicts.{source, verdict}
use Rattle.cube_query.specs.Faults.{request_of}
use Rattle.cube_query.specs.Grammar.{queries, is_begun, syntax_at, query_of}
use Rattle.cube_query.specs.Requests.{resolved}
use Rattle.cube_text.specs.Quoting.{is_bare}
use Rattle.cube_engine.proofs.worked.worked_asks.Goals as goal

pub returns-clause-sum : goal.returns-clause-sum
unfolding digits up key_at protected cutting_pairs is_bare is_picked queries is_begun syntax_at query_of request_of resolved grain source verdict is_valid
returns-clause-sum c = refl

pub returns-clause-months : goal.returns-clause-months
unfolding digits up key_at protected cutting_pairs is_bare is_picked queries is_begun syntax_at query_of request_of resolved grain source verdict is_valid
returns-clause-months c = refl

pub returns-clause-enters : goal.returns-clause-enters
unfolding digits up key_at protected cutting_pairs is_bare is_picked queries is_begun syntax_at query_of request_of resolved grain source verdict is_valid
returns-clause-enters c = refl

pub returns-clause-areas : goal.returns-clause-areas
unfolding digits up key_at protected cutting_pairs is_bare is_picked queries is_begun syntax_at query_of request_of resolved grain source verdict is_valid
returns-clause-areas c = refl

pub returns-clause-areas_after_months : goal.returns-clause-areas_after_months
unfolding digits up key_at protected cutting_pairs is_bare is_picked queries is_begun syntax_at query_of request_of resolved grain source verdict is_valid
returns-clause-areas_after_months c = refl

pub returns-clause-refused_stays : goal.returns-clause-refused_stays
unfolding digits up key_at protected cutting_pairs is_bare is_picked queries is_begun syntax_at query_of request_of resolved grain source verdict is_valid
returns-clause-refused_stays c = refl

pub returns-clause-quarter_stays : goal.returns-clause-quarter_stays
unfolding digits up key_at protected cutting_pairs is_bare is_picked queries is_begun syntax_at query_of request_of resolved grain source verdict is_valid
returns-clause-quarter_stays c = refl

pub returns-clause-word : goal.returns-clause-word
unfolding digits up key_at protected cutting_pairs is_bare is_picked queries is_begun syntax_at query_of request_of resolved grain source verdict is_valid
returns-clause-word c = refl

pub returns-clause-member : goal.returns-clause-member
unfolding digits up key_at protected cutting_pairs is_bare is_picked queries is_begun syntax_at query_of request_of resolved grain source verdict is_valid
returns-clause-member c = refl

pub returns-clause-backwards : goal.returns-clause-backwards
unfolding digits up key_at protected cutting_pairs is_bare is_picked queries is_begun syntax_at query_of request_of resolved grain source verdict is_valid
returns-clause-backwards c = refl

pub returns-clause-group : goal.returns-clause-group
unfolding digits up key_at protected cutting_pairs is_bare is_picked queries is_begun syntax_at query_of request_of resolved grain source verdict is_valid
returns-clause-group c = refl

pub returns-clause-memory : goal.returns-clause-memory
unfolding digits up key_at protected cutting_pairs is_bare is_picked queries is_begun syntax_at query_of request_of resolved grain source verdict is_valid
returns-clause-memory c = refl

pub returns-clause-memory_stays : goal.returns-clause-memory_stays
unfolding digits up key_at protected cutting_pairs is_bare is_picked queries is_begun syntax_at query_of request_of resolved grain source verdict is_valid
returns-clause-memory_stays c = refl

pub returns-clause-quarter_after_months : goal.returns-clause-quarter_after_months
unfolding digits up key_at protected cutting_pairs is_bare is_picked queries is_begun syntax_at query_of request_of resolved grain source verdict is_valid
returns-clause-quarter_after_months c = refl

pub returns-clause-months_have_two_cells : goal.returns-clause-months_have_two_cells
unfolding digits up key_at protected cutting_pairs is_bare is_picked queries is_begun syntax_at query_of request_of resolved grain source verdict is_valid
returns-clause-months_have_two_cells c = refl
