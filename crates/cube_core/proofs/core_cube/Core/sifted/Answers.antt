use Rattle.std.proofs.Common.{◌∙◌, sym}
use Rattle.cube_core.proofs.Stretches.{none_left_out}
use Rattle.cube_core.proofs.core_cube.Core.sifted.Goals as goal

pub returns-then-count-len : goal.returns-then-count-len
returns-then-count-len c = none_left_out c.args.self.now c.args.request.now c.args.number c.args.places (sym c.count.ensures ∙ c.if-count-len.true ∙ c.len.ensures.len) c.requires.places
