use Rattle.std.proofs.Common.{◌≡◌, take}
use Rattle.cube_draft.specs.Kept.{level_names}
use Rattle.cube_draft.proofs.check.are_named.Given as goal

abbrev pub invariant-loop-level : goal.invariant-loop-level
invariant-loop-level l = take l.level l.levels ≡ level_names l.header (take l.level l.columns)
