use Rattle.std.proofs.Common.{inr, subst, sym, ap}
use Rattle.cube_model.specs.Answers.{Answers}
use Rattle.cube_dims.specs.DimsFile.{dims_of, dims_said}
use Rattle.cube_dims.specs.declared.fault.DimsFault.TheVariants.{NoMemory}
use Rattle.cube_dims.proofs.read.read_dims.Goals as goal

pub returns-in-Some : goal.returns-in-Some
unfolding dims_of
returns-in-Some c =
    let found = rw c.in-Some.is at c.in_ok-table.ensures in
    subst (λ table. Answers NoMemory c.read_in.result (dims_said table)) found c.read_in.ensures

pub returns-in-None : goal.returns-in-None
unfolding dims_of
returns-in-None c =
    let found = rw c.in-None.is at c.in_ok-table.ensures in
    inr (ap dims_said (sym found))
