use Rattle.std.proofs.Common.{◌≡◌, ◌<◌, [], map, length, sym, ap, ◌∙◌, arith}
use Rattle.std.proofs.lemmas.List.{length-map, get_or-map}
use Rattle.std.proofs.lemmas.Option.{get_or_from_slice_get, slice_get_within}
use Rattle.std.proofs.lemmas.Slice.Eq.{bytes_eq-Decides}
use Rattle.cube_model.proofs.Found.{found_in}
use Rattle.cube_model.proofs.dims.has_number.Goals as goal

pub returns-in-Some : goal.returns-in-Some
returns-in-Some c = λ equal. (
    let keys = c.args.names.now.keys in
    let other = c.in-Some.other.now in
    let same : c.as_slice.result.now ≡ c.args.name.now = (bytes_eq-Decides c.as_slice.result.now c.args.name.now).0 (sym c.eq.ensures ∙ equal) in
    let long : length (map (λ k. k.items) keys) ≡ length keys = length-map keys (λ k. k.items) in
    let within : c.args.number < length keys = slice_get_within keys c.args.number other (sym c.in-Some.ensures.key) in
    let at = get_or-map (λ k. k.items) keys c.args.number other [] within ∙ ap (λ k. k.items) (get_or_from_slice_get keys c.args.number other other (sym c.in-Some.ensures.key)) in
    found_in (map (λ k. k.items) keys) c.args.number c.args.name.now c.requires (omega (arith, long, within)) (at ∙ sym c.as_slice.ensures.value ∙ same))
