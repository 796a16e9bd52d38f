use Rattle.std.proofs.Common.{not, sym, ◌∙◌}
use Rattle.cube_model.specs.declared.cell.Cell.{Cell}
use Rattle.cube_source.specs.Blocks.{bare, is_parted}
use Rattle.cube_source.proofs.Contained.{none_contained}
use Rattle.cube_source.proofs.judging.uncut_new.Goals as goal

pub returns-then-is_contained : goal.returns-then-is_contained
returns-then-is_contained c = sym (none_contained (bare c.args.core.now) (λ (t : Cell). not (is_parted (bare c.args.core.now) c.args.blocks.now t)) c.args.earlier.now c.args.object.now (sym c.is_contained.ensures ∙ c.if-is_contained.true) c.requires.passed)
