-- The made dimensions and measures obey the rules.
use Rattle.std.proofs.Common.{ℕ, subst}
use Rattle.cube_model.specs.Dims.{IsDims}
use Rattle.cube_dims.proofs.Whole.{is_dims}
use Rattle.cube_made.specs.Laws.{IsSize}
use Rattle.cube_made.specs.Values.{dims_said}
use Rattle.cube_made.proofs.DimsText.{made_table}
use Rattle.cube_made.proofs.DimsKept.{made_none, made_said}

pub dims_rules : (s : ℕ) → IsSize s → IsDims (dims_said s)
dims_rules s size = subst IsDims (made_said s) (is_dims (made_table s) (made_none s size))
