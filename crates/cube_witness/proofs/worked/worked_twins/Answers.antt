use Rattle.std.proofs.Common.{refl}
use Rattle.std.specs.Fmt.{digits}
use Rattle.cube_model.specs.Cubes.{up, key_at}
use Rattle.cube_model.specs.Protection.{cutting_pairs}
use Rattle.cube_model.specs.Twins.{changes}
use Rattle.cube_model.specs.Verdicts.{source}
use Rattle.cube_witness.proofs.worked.worked_twins.Goals as goal

pub returns-clause-at_first : goal.returns-clause-at_first
unfolding changes source key_at up cutting_pairs digits
returns-clause-at_first c = refl

pub returns-clause-after_months : goal.returns-clause-after_months
unfolding changes source key_at up cutting_pairs digits
returns-clause-after_months c = refl

pub returns-clause-shared : goal.returns-clause-shared
unfolding changes source key_at up cutting_pairs digits
returns-clause-shared c = refl

pub returns-clause-within : goal.returns-clause-within
unfolding changes source key_at up cutting_pairs digits
returns-clause-within c = refl

pub returns-clause-beyond : goal.returns-clause-beyond
unfolding changes source key_at up cutting_pairs digits
returns-clause-beyond c = refl
