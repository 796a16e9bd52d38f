use Rattle.std.proofs.Common.{◌≡◌, ◌-◌, ◌++◌, ◌∷◌, [], List, length, map, flat_map, ap, ap₂, ◌∙◌}
use Rattle.std.proofs.lemmas.Result.{on_ok_weaker}
use Rattle.cube_model.specs.declared.shape.Shape.{Shape}
use Rattle.cube_model.specs.Cubes.{count_from}
use Rattle.cube_model.specs.Dims.{Dims, NamedMeasure}
use Rattle.cube_text.specs.Keys.{closed}
use Rattle.cube_witness.specs.Leaves.{leaf_names}
use Rattle.cube_witness.specs.TwinFile.{share_text}
use Rattle.cube_witness.specs.Twinned.{cube_of}
use Rattle.cube_witness.proofs.Files.{line_done, last_apart}
use Rattle.cube_witness.proofs.file.push_fact.Goals as goal

pub returns : goal.returns
returns g c =
    let core = c.args.twin.now.core.now in
    let names = leaf_names core.dims core.shape c.args.place in
    let shares = share_text core.dims core.shape (cube_of c.args.twin.now) c.args.place c.args.number in
    let last = length c.measures.result.now - 1 in
    let some = c.requires.twin.rules.dims.has_measures in
    let many : last ≡ length core.dims.measures - 1 = ap (λ (ms : List NamedMeasure). length ms - 1) (c.measures.ensures.measures ∙ ap (λ (s : Dims). s.measures) c.dims.ensures.dims) in
    let rules = λ (s : Dims) (h : Shape). c.args.text.now ++ flat_map closed (leaf_names s h c.args.place) in
    let same : rules c.dims-2.result.now c.shape.result.now ≡ rules core.dims core.shape = ap₂ rules c.dims-2.ensures.dims c.shape.ensures.shape in
    let leaves : c.push_leaves.new.text ≡ c.args.text.now ++ flat_map closed names = ◌∙◌ {c = c.args.text.now ++ flat_map closed names} c.in_ok-push_leaves.ensures same in
    let all = last_apart shares names c.as_slice.result.now last (length core.dims.measures) some many (c.as_slice.ensures ∙ c.in_ok-share.ensures) in
    on_ok_weaker c.push.result
    (λ (e : c.push.new.self ≡ c.push_field.new.text ++ 10 ∷ []).
    line_done c.args.text.now c.push_leaves.new.text c.push_shares.new.text c.push_field.new.text c.push.new.self names (map shares (count_from 0 last)) (names ++ map shares (count_from 0 (length core.dims.measures))) c.as_slice.result.now leaves c.in_ok-push_shares.ensures c.in_ok-push_field.ensures e all)
    c.push.ensures.ok
