use Rattle.std.proofs.Common.{inl, inr, sym, subst, ℕ, List, Option}
use Rattle.cube_io.specs.Seen.{seen}
use Rattle.cube_opening.specs.Opening.{names_of}
use Rattle.cube_opening.proofs.Behind.{ends_behind}
use Rattle.cube_commands.specs.Advising.{workload_said, EndsAtWorkload}
use Rattle.cube_commands.proofs.advising.open_advisable.Goals as goal

pub returns-in-Err-clause-err : goal.returns-in-Err-clause-err
returns-in-Err-clause-err g c = inl c.in-Err.ensures.err

pub returns-in-Err-open_workload-clause-err : goal.returns-in-Err-open_workload-clause-err
returns-in-Err-open_workload-clause-err g c =
    let x = c.in-Ok.ensures in
    let cube = c.args.cube.now in
    let tells = g.F.Folder.state in
    let old = c.args.files.now in
    let new = c.open_workload.new.files in
    let r = c.in-Err-open_workload.report in
    inr (subst (λ (w : Option (List ℕ)). EndsAtWorkload cube w (seen tells old new) r) (sym c.in-Some.is) (
    record {
      core = c.in-Ok.opened.value.core;
      policy = c.in-Ok.opened.value.policy;
      files_make = x.ok.1;
      ends = ends_behind (names_of cube) workload_said c.in-Some.name tells old c.open_guarded.new.files new r x.behind.asked x.reads.files x.behind.steady c.in-Err-open_workload.ensures.err;
    }))
