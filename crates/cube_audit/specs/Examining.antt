-- What becomes of the items of a transcript that are examined.
use Rattle.std.specs.Prelude.{ℕ, List, Option, Some, None}
use Rattle.cube_model.specs.declared.request.Request.{Request}
use Rattle.cube_audit.specs.declared.exact.Examined.{Examined}
use Rattle.cube_audit.specs.declared.exact.Examined.TheVariants.{Exact, Inexact}

-- the requests where no item is inexact
abbrev pub examined_as : Option ℕ → List Request → Examined
examined_as None rs = Exact rs
examined_as (Some k) rs = Inexact k
