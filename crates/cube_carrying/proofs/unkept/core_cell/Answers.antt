use Rattle.std.proofs.Common.{◌<◌, ℕ, List, [], length, get_or, ap, ap₂, ◌∙◌, arith}
use Rattle.std.proofs.lemmas.List.{get_or_default}
use Rattle.cube_model.specs.declared.shape.Shape.{Shape}
use Rattle.cube_source.proofs.Fewer.{cell}
use Rattle.cube_carrying.proofs.Walked.{core_point}
use Rattle.cube_carrying.proofs.unkept.core_cell.Goals as goal

pub returns : goal.returns
returns c =
    let points = c.as_slice-points.ensures ∙ ap (λ (s : Shape). s.points) c.shape.ensures.shape in
    let size = ap length points in
    let below : c.args.place < length c.as_slice-points.result.now = omega (arith, size, c.requires) in
    let here = c.index-points-place.is ∙ get_or_default c.as_slice-points.result.now c.args.place c.index-points-place.result [] below ∙ ap (λ (ps : List (List ℕ)). get_or ps c.args.place []) points in
    ap₂ cell c.in_ok-levels.ensures (c.in_ok-key.ensures ∙ here ∙ core_point c.args.core.now c.args.place c.shape.ensures.rules c.requires)
