use Rattle.std.proofs.Common.{ap, ◌∙◌}
use Rattle.cube_model.specs.Protection.{first}
use Rattle.cube_source.specs.Blocks.{bare}
use Rattle.cube_source.specs.Pairs.{least_pair}
use Rattle.cube_source.proofs.Least.{least_is}
use Rattle.cube_source.proofs.Uncut.{pairs_bare}
use Rattle.cube_source.proofs.pair.cutting_pair.Goals as goal

pub returns : goal.returns
returns c = λ p.
    c.least_pair.ensures ∙ ap (least_pair (bare c.args.core.now) c.args.cell.now) (c.as_slice.ensures ∙ c.in_ok-blocks.ensures.rows)
    ∙ least_is (bare c.args.core.now) c.args.levels.now c.args.cell.now ∙ ap first (pairs_bare c.args.core.now p c.args.levels.now c.args.cell.now)
