use Rattle.std.proofs.Common.{refl}
use Rattle.cube_text.specs.Quoting.{is_bare}
use Rattle.cube_query.specs.Grammar.{queries, is_begun, syntax_at, query_of}
use Rattle.cube_query.proofs.worked_places.Goals as goal

pub returns-clause-longer_word : goal.returns-clause-longer_word
unfolding is_bare queries is_begun syntax_at query_of
returns-clause-longer_word c = refl

pub returns-clause-three_points : goal.returns-clause-three_points
unfolding is_bare queries is_begun syntax_at query_of
returns-clause-three_points c = refl

pub returns-clause-comma : goal.returns-clause-comma
unfolding is_bare queries is_begun syntax_at query_of
returns-clause-comma c = refl

pub returns-clause-no_level : goal.returns-clause-no_level
unfolding is_bare queries is_begun syntax_at query_of
returns-clause-no_level c = refl

pub returns-clause-open_quote : goal.returns-clause-open_quote
unfolding is_bare queries is_begun syntax_at query_of
returns-clause-open_quote c = refl

pub returns-clause-escape : goal.returns-clause-escape
unfolding is_bare queries is_begun syntax_at query_of
returns-clause-escape c = refl

pub returns-clause-no_value : goal.returns-clause-no_value
unfolding is_bare queries is_begun syntax_at query_of
returns-clause-no_value c = refl

pub returns-clause-word : goal.returns-clause-word
unfolding is_bare queries is_begun syntax_at query_of
returns-clause-word c = refl

pub returns-clause-blanks : goal.returns-clause-blanks
unfolding is_bare queries is_begun syntax_at query_of
returns-clause-blanks c = refl
