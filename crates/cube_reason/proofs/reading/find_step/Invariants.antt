use Rattle.std.proofs.Common.{take}
use Rattle.cube_source.specs.Blocks.{bare}
use Rattle.cube_reason.specs.Read.{BeginsWithNone}
use Rattle.cube_reason.proofs.reading.find_step.Given as goal

abbrev pub invariant-joints : goal.invariant-joints
invariant-joints l = BeginsWithNone l.core.dims (bare l.core) (take l.joint-index l.joints) l.from l.lines
