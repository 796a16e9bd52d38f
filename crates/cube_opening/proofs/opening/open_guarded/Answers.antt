use Rattle.std.proofs.Common.{[], ◌∷◌, ◌∙◌, inl, inr, subst}
use Rattle.cube_model.specs.Dims.{Dims}
use Rattle.cube_io.specs.Seen.{seen}
use Rattle.cube_opening.specs.Opening.{policy_said, EndsAt}
use Rattle.cube_opening.proofs.Behind.{asked_then, ends_behind}
use Rattle.cube_opening.proofs.opening.open_guarded.Goals as goal

pub returns-in-Err-clause-err : goal.returns-in-Err-clause-err
returns-in-Err-clause-err g c = inl c.in-Err.ensures.err

pub returns-in-Err-opened-clause-err : goal.returns-in-Err-opened-clause-err
returns-in-Err-opened-clause-err g c =
    let cube = c.args.cube.now in
    let tells = g.F.Folder.state in
    let old = c.args.files.now in
    let mid = c.open_core.new.files in
    let core = c.in-Ok.opened.value in
    let x = c.in-Ok.ensures in
    inr (
      core,
      x.ok.1,
      subst (λ (s : Dims). EndsAt (cube.dims ∷ cube.facts ∷ []) (policy_said s) cube.policy (seen tells old c.open_policy-opened.new.files) c.in-Err-opened.report) c.dims.ensures.dims
          (ends_behind (cube.dims ∷ cube.facts ∷ []) (policy_said c.dims.result.now) cube.policy tells old mid c.open_policy-opened.new.files c.in-Err-opened.report x.behind.asked x.reads.files x.behind.steady c.in-Err-opened.ensures.err),
    )

pub returns-in-Ok-opened-clause-behind : goal.returns-in-Ok-opened-clause-behind
returns-in-Ok-opened-clause-behind g c =
    let cube = c.args.cube.now in
    let x = c.in-Ok.ensures in
    let z = c.in-Ok-opened.ensures in
    record {
      asked = asked_then (cube.dims ∷ cube.facts ∷ []) (cube.policy ∷ []) g.F.Folder.state c.args.files.now c.open_core.new.files c.open_policy-opened.new.files x.behind.asked z.asks;
      steady = z.reads.steady ∙ x.behind.steady;
    }
