use Rattle.std.proofs.Common.{refl}
use Rattle.cube_model.specs.Cubes.{up, key_at}
use Rattle.cube_model.specs.Protection.{protected, cutting_pairs}
use Rattle.cube_model.specs.Requests.{grain}
use Rattle.cube_model.specs.Verdicts.{source}
use Rattle.cube_text.specs.Quoting.{is_bare}
use Rattle.cube_advise.proofs.worked.worked_advice.Goals as goal

pub returns-clause-first : goal.returns-clause-first
unfolding up key_at protected cutting_pairs source is_bare
returns-clause-first c = refl

pub returns-clause-alone : goal.returns-clause-alone
unfolding up key_at protected cutting_pairs source is_bare
returns-clause-alone c = refl

pub returns-clause-behind : goal.returns-clause-behind
unfolding up key_at protected cutting_pairs source is_bare grain
returns-clause-behind c = refl
