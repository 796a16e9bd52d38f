use Rattle.std.proofs.Common.{refl}
use Rattle.std.specs.Fmt.{digits}
use Rattle.cube_model.specs.Cubes.{up, key_at}
use Rattle.cube_model.specs.Links.{links, suiting}
use Rattle.cube_model.specs.Protection.{protected, cutting_pairs}
use Rattle.cube_model.specs.Requests.{grain, is_picked}
use Rattle.cube_model.specs.Verdicts.{source, links_of, verdict}
use Rattle.cube_text.specs.Quoting.{is_bare}
use Rattle.cube_query.specs.Faults.{request_of}
use Rattle.cube_query.specs.Grammar.{queries, is_begun, syntax_at, query_of}
use Rattle.cube_query.specs.Requests.{resolved}
use Rattle.cube_advise.proofs.worked.worked_words.Goals as goal

pub returns-clause-three : goal.returns-clause-three
unfolding digits up key_at is_picked protected cutting_pairs source links_of links suiting verdict grain is_bare queries is_begun syntax_at query_of request_of resolved
returns-clause-three c = refl

pub returns-clause-single : goal.returns-clause-single
unfolding digits up key_at is_picked protected cutting_pairs source links_of links suiting verdict grain is_bare queries is_begun syntax_at query_of request_of resolved
returns-clause-single c = refl

pub returns-clause-file : goal.returns-clause-file
unfolding digits up key_at is_picked protected cutting_pairs source links_of links suiting verdict grain is_bare queries is_begun syntax_at query_of request_of resolved
returns-clause-file c = refl
