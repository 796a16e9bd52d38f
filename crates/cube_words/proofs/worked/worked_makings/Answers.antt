use Rattle.std.proofs.Common.{refl}
use Rattle.std.specs.Fmt.{digits}
use Rattle.cube_words.proofs.worked.worked_makings.Goals as goal

pub returns-clause-greatest : goal.returns-clause-greatest
unfolding digits
returns-clause-greatest c = refl

pub returns-clause-too_great : goal.returns-clause-too_great
unfolding digits
returns-clause-too_great c = refl

pub returns-clause-too_long : goal.returns-clause-too_long
unfolding digits
returns-clause-too_long c = refl

pub returns-clause-empty : goal.returns-clause-empty
unfolding digits
returns-clause-empty c = refl

pub returns-clause-size : goal.returns-clause-size
unfolding digits
returns-clause-size c = refl

pub returns-clause-no_size : goal.returns-clause-no_size
unfolding digits
returns-clause-no_size c = refl

pub returns-clause-too_large : goal.returns-clause-too_large
unfolding digits
returns-clause-too_large c = refl
