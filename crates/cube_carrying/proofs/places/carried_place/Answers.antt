use Rattle.std.proofs.Common.{◌≡◌, ℕ, List, [], length, get_or, ap, ap₂, ◌∙◌, arith}
use Rattle.std.proofs.lemmas.List.{get_or_default}
use Rattle.cube_model.specs.Cubes.{place_of}
use Rattle.cube_model.specs.Dims.{Dims}
use Rattle.cube_model.specs.declared.shape.Shape.{Shape}
use Rattle.cube_carry.specs.Names.{carried_point}
use Rattle.cube_carrying.proofs.Found.{place_within}
use Rattle.cube_carrying.proofs.places.carried_place.Goals as goal

pub overflow_cast-result : goal.overflow_cast-result
overflow_cast-result c =
    let within = place_within c.as_slice-3.result.now c.as_slice-2.result.now in
    let all = ap length c.as_slice-2.ensures in
    let size = ap (λ (s : Shape). length s.points) c.shape-2.ensures.shape in
    omega (arith, c.place_in.ensures, within, all, size, c.shape-2.ensures.rules.few_points)

pub returns : goal.returns
returns c =
    let s = c.args.old.now.dims in
    let z = c.args.new.now.dims in
    let all = c.as_slice.ensures ∙ ap (λ (s : Shape). s.points) c.shape.ensures.shape in
    let here : c.as_slice-point.result.now ≡ get_or c.args.old.now.shape.points c.args.place [] =
    c.as_slice-point.ensures ∙ c.index-as_slice-place.is ∙ ap (λ (ks : List (List ℕ)). get_or ks c.args.place c.index-as_slice-place.result) all
    ∙ get_or_default c.args.old.now.shape.points c.args.place c.index-as_slice-place.result [] c.requires.place in
    let key =
    c.as_slice-3.ensures ∙ c.in_ok-key.ensures
    ∙ ap (λ (d : Dims). carried_point d c.dims-2.result.now c.as_slice-point.result.now) c.dims.ensures.dims
    ∙ ap (λ (d : Dims). carried_point s d c.as_slice-point.result.now) c.dims-2.ensures.dims
    ∙ ap (carried_point s z) here in
    c.place_in.ensures ∙ ap₂ place_of key (c.as_slice-2.ensures ∙ ap (λ (s : Shape). s.points) c.shape-2.ensures.shape)
