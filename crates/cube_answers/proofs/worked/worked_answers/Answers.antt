use Rattle.std.proofs.Common.{refl}
use Rattle.std.specs.Fmt.{digits}
use Rattle.cube_answers.proofs.worked.worked_answers.Goals as goal

pub returns-clause-cell : goal.returns-clause-cell
unfolding digits
returns-clause-cell c = refl

pub returns-clause-count : goal.returns-clause-count
unfolding digits
returns-clause-count c = refl

pub returns-clause-nothing : goal.returns-clause-nothing
unfolding digits
returns-clause-nothing c = refl

pub returns-clause-areas : goal.returns-clause-areas
unfolding digits
returns-clause-areas c = refl

pub returns-clause-both : goal.returns-clause-both
unfolding digits
returns-clause-both c = refl

pub returns-clause-decimals : goal.returns-clause-decimals
unfolding digits
returns-clause-decimals c = refl

pub returns-clause-whole_count : goal.returns-clause-whole_count
unfolding digits
returns-clause-whole_count c = refl
