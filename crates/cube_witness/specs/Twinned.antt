-- A core, and the values that one of its measures gets.
use Rattle.std.specs.Prelude.{◌≡◌, ℕ, ◌*◌, ◌<◌, ◌≤◌, List, length, slice_index_or, slice_set, ℤ, pos, unsigned_abs}
use Rattle.cube_model.specs.Cores.{IsCore}
use Rattle.cube_witness.specs.Leaves.{finest}
use Rattle.cube_witness.specs.TwinFile.{facts_at}
use Rattle.cube_witness.specs.declared.file.Twin.{Twin}

abbrev pub cube_of : Twin → List (List ℤ)
cube_of t = slice_set t.core.now.cube t.measure t.values

-- a value for each place, each at most 10^12 for each fact of the place
pub record IsTwin (t : Twin) : Type 0 where
  pub rules : IsCore t.core.now
  pub levels : t.levels ≡ finest t.core.now.dims
  pub measure : t.measure < length t.core.now.dims.measures
  pub long : length t.values ≡ length t.core.now.shape.points
  pub within : (i : ℕ) → i < length t.core.now.shape.points → unsigned_abs (slice_index_or t.values i (pos 0)) ≤ 1000000000000 * facts_at t.core.now.shape i
