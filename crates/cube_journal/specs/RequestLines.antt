-- The line of a request.
use Rattle.std.specs.Prelude.{ℕ, List, [], ◌∷◌, ◌++◌, codes}
use Rattle.cube_model.specs.Dims.{Dims}
use Rattle.cube_model.specs.declared.request.Request.{Request}
use Rattle.cube_query.specs.Canonical.{request_text}

-- a word, the canonical text of the request, and a line feed
abbrev pub request_line : Dims → Request → List ℕ
request_line s r = codes "q " ++ request_text s r ++ 10 ∷ []
