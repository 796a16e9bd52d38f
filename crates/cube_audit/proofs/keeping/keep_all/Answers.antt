use Rattle.std.proofs.Common.{rules, ◌<◌, length, sym, ◌∙◌}
use Rattle.cube_model.specs.Entries.{asked}
use Rattle.cube_audit.specs.Keeping.{public_of}
use Rattle.cube_audit.proofs.Kept.{next_measure}
use Rattle.cube_audit.proofs.keeping.keep_all.Goals as goal

pub measures-preserved : goal.measures-preserved
measures-preserved c =
    let below : c.measures.measure < length c.args.asked.now.core.now.dims.measures = search rules in
    next_measure (length c.args.asked.now.requests.now) (public_of c.args.asked.now) (asked c.args.asked.now.requests.now) c.measures.measure (length c.args.asked.now.core.now.dims.measures) below
    (sym c.in_default.is ∙ c.in_ok-cell.ensures)
    ∙ c.measures.invariant
