-- What the grammar of queries means.
use Rattle.std.specs.Prelude.{◌≡◌, ◌↔◌, ◌<◌, ◌≤◌, ℕ, true, false, List, ◌++◌, length, take, Ok}
use Rattle.cube_model.specs.Cubes.{IsIn}
use Rattle.cube_query.specs.declared.query.Query.{Query}
use Rattle.cube_query.specs.Grammar.{queries, is_begun, syntax_at, query_of}
use Rattle.cube_query.specs.Reading.{read_in}
use Rattle.cube_model.specs.Dims.{Dims, IsDims}
use Rattle.cube_model.specs.declared.request.Request.{Request}
use Rattle.cube_query.specs.Canonical.{is_request, request_text}
use Rattle.cube_query.specs.Faults.{request_of}

-- the place of a syntax fault: so many bytes begin a query text, and no longer front of the text does
pub record IsLongest (text : List ℕ) (at : ℕ) : Type 0 where
  pub within : at ≤ length text
  pub begins : is_begun (take at text) ≡ true
  pub no_longer : (n : ℕ) → at < n → n ≤ length text → is_begun (take n text) ≡ false

abbrev pub LongestFront : Type 0
LongestFront = (text : List ℕ) → IsLongest text (syntax_at text)

-- a text is begun exactly where it is a prefix of some query text
abbrev pub BegunIsPrefix : Type 0
BegunIsPrefix = (text : List ℕ) → (is_begun text ≡ true) ↔ ((more : List ℕ) × (q : Query) × IsIn q (queries (text ++ more)))

-- a text is at most one query
abbrev pub AtMostOne : Type 0
AtMostOne = (text : List ℕ) (q r : Query) → IsIn q (queries text) → IsIn r (queries text) → q ≡ r

-- reading with no step back finds just the query that the grammar finds, or the same place
abbrev pub ReadsAsSaid : Type 0
ReadsAsSaid = (text : List ℕ) → query_of text ≡ read_in text

-- the canonical text of a valid request reads back as that request
abbrev pub ReadsBack : Type 0
ReadsBack = (s : Dims) (r : Request) → IsDims s → is_request s r ≡ true → request_of s (request_text s r) ≡ Ok r

-- a request that was read is valid
abbrev pub ReadIsValid : Type 0
ReadIsValid = (s : Dims) (text : List ℕ) (r : Request) → IsDims s → request_of s text ≡ Ok r → is_request s r ≡ true
