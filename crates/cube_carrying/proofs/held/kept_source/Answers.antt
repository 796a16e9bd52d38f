use Rattle.std.proofs.Common.{length, sym, ap, ◌∙◌, arith}
use Rattle.cube_model.specs.Dims.{Dims}
use Rattle.cube_carrying.proofs.Handed.{source_beyond}
use Rattle.cube_carrying.proofs.held.kept_source.Goals as goal

pub returns-else-number-measures : goal.returns-else-number-measures
returns-else-number-measures c =
    let size = ap length (c.measures.ensures.measures ∙ ap (λ (s : Dims). s.measures) c.dims.ensures.dims) in
    let test = c.if-number-measures.false in
    sym (source_beyond c.args.core.now c.args.policy.now c.args.state.now c.args.number c.requires.policy c.requires.stands c.requires.none (omega (arith, size, test)))
