use Rattle.std.proofs.Common.{refl}
use Rattle.std.specs.Str.{chars}
use Rattle.strsim.specs.Edits.{cost_at, osa_row, osa_from}
use Rattle.cube_notes.proofs.worked.worked_nearness.Goals as goal

pub returns-clause-same : goal.returns-clause-same
unfolding chars cost_at osa_row osa_from
returns-clause-same c = refl

pub returns-clause-put : goal.returns-clause-put
unfolding chars cost_at osa_row osa_from
returns-clause-put c = refl

pub returns-clause-taken : goal.returns-clause-taken
unfolding chars cost_at osa_row osa_from
returns-clause-taken c = refl

pub returns-clause-changed : goal.returns-clause-changed
unfolding chars cost_at osa_row osa_from
returns-clause-changed c = refl

pub returns-clause-turned : goal.returns-clause-turned
unfolding chars cost_at osa_row osa_from
returns-clause-turned c = refl

pub returns-clause-far : goal.returns-clause-far
unfolding chars cost_at osa_row osa_from
returns-clause-far c = refl

pub returns-clause-most : goal.returns-clause-most
unfolding chars
returns-clause-most c = refl

pub returns-clause-short : goal.returns-clause-short
unfolding chars
returns-clause-short c = refl

pub returns-clause-longer : goal.returns-clause-longer
unfolding chars
returns-clause-longer c = refl

pub returns-clause-gap : goal.returns-clause-gap
unfolding chars
returns-clause-gap c = refl
