use Rattle.std.proofs.Common.{◌≡◌, ℕ, ◌<◌, None}
use Rattle.cube_model.specs.Dims.{dimension_at}
use Rattle.cube_carry.specs.Continues.{has_path}
use Rattle.cube_carrying.specs.Firsts.{first_failing}
use Rattle.cube_carrying.proofs.paths.missing_path.Given as goal

abbrev pub invariant-each : goal.invariant-each
invariant-each l = (k : ℕ) → k < l.number → first_failing (has_path l.other (dimension_at l.dims k)) (dimension_at l.dims k).paths ≡ None
