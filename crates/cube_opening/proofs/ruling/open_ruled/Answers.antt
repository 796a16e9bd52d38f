use Rattle.std.proofs.Common.{[], ◌∷◌, inl, inr, subst}
use Rattle.cube_model.specs.Dims.{Dims}
use Rattle.cube_io.specs.Seen.{seen}
use Rattle.cube_opening.specs.Ruling.{EndsAtRules}
use Rattle.cube_opening.proofs.Groups.{rules_behind}
use Rattle.cube_opening.proofs.ruling.open_ruled.Goals as goal

pub returns-in-Err-clause-err : goal.returns-in-Err-clause-err
returns-in-Err-clause-err g c = inl c.in-Err.ensures.err

pub returns-in-Err-open_rules-clause-err : goal.returns-in-Err-open_rules-clause-err
returns-in-Err-open_rules-clause-err g c =
    let cube = c.args.cube.now in
    let tells = g.F.Folder.state in
    let old = c.args.files.now in
    let new = c.open_rules.new.files in
    let x = c.in-Ok.ensures in
    inr (
      c.in-Ok.opened.value,
      x.ok.1,
      subst (λ (s : Dims). EndsAtRules s (cube.dims ∷ cube.facts ∷ []) cube.rules (seen tells old new) c.in-Err-open_rules.report) c.dims.ensures.dims
          (rules_behind tells old c.open_core.new.files new c.in-Err-open_rules.report (cube.dims ∷ cube.facts ∷ []) x.behind.asked x.reads.files x.behind.steady c.dims.result.now [] cube.rules c.in-Err-open_rules.ensures.err),
    )
