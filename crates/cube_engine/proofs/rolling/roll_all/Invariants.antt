use Rattle.std.proofs.Common.{◌≡◌, ℕ, ◌<◌, length, get_or, None}
use Rattle.cube_model.specs.Cores.{shown}
use Rattle.cube_rollup.specs.Rollups.{kept_at, IsCuboidAt}
use Rattle.cube_engine.proofs.rolling.roll_all.Given as goal

abbrev pub invariant-measures : goal.invariant-measures
invariant-measures g l = record {
  long : length l.rollups.kept ≡ l.measure;
  none : l.rollups.next ≡ None;
  each : (m : ℕ) → m < l.measure → IsCuboidAt l.core m (kept_at (shown l.core l.policy) l.state.history m) (get_or l.rollups.kept m None);
}
