use Rattle.std.proofs.Common.{◌∙◌, ap, refl}
use Rattle.serde_json.specs.Written.{compact_text}
use Rattle.cube_model.specs.Cores.{shown}
use Rattle.cube_shape.proofs.Floats.{shape_whole}
use Rattle.cube_shape.proofs.whole.shape_text.Goals as goal

pub returns : goal.returns
returns c =
    let same = c.in_ok-value.ensures in
    c.from_vec.ensures ∙ c.in_ok-to_vec.ensures.text (rw (same, shape_whole c.args.core.now.dims (shown c.args.core.now c.args.policy.now)) refl) ∙ ap compact_text same
