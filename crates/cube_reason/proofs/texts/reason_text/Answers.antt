use Rattle.std.proofs.Common.{ℕ, List, ◌++◌, ap, ◌∙◌}
use Rattle.cube_source.specs.Blocks.{bare}
use Rattle.cube_reason.specs.ReasonText.{reason_words}
use Rattle.cube_reason.proofs.Named.{words_bare}
use Rattle.cube_reason.proofs.texts.reason_text.Goals as goal

pub returns : goal.returns
returns c p = c.in_ok-push_reason.ensures ∙ ap (λ (t : List ℕ). t ++ reason_words c.args.core.now.dims (bare c.args.core.now) c.args.reason.now) c.new-text.ensures ∙ words_bare c.args.core.now p c.args.reason.now
