use Rattle.std.proofs.Common.{◌≡◌, ◌-◌, length}
use Rattle.cube_model.specs.Cubes.{count_from}
use Rattle.cube_model.specs.Entries.{asked}
use Rattle.cube_audit.specs.Audits.{kept_or_fixed}
use Rattle.cube_audit.specs.Keeping.{public_of}
use Rattle.cube_audit.proofs.keeping.keep_all.Given as goal

abbrev pub invariant-measures : goal.invariant-measures
invariant-measures l =
    kept_or_fixed (length l.asked.requests.now) (public_of l.asked) (asked l.asked.requests.now) (count_from l.measure (length l.asked.core.now.dims.measures - l.measure))
    ≡ kept_or_fixed (length l.asked.requests.now) (public_of l.asked) (asked l.asked.requests.now) (count_from 0 (length l.asked.core.now.dims.measures))
