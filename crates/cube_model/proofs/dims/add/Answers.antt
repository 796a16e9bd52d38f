use Rattle.std.proofs.Common.{◌∷◌, [], refl}
use Rattle.std.specs.Str.{bytes_eq}
use Rattle.std.proofs.lemmas.List.{map-append}
use Rattle.cube_model.proofs.Parts.{list_any-map, position_or_len-map}
use Rattle.cube_model.proofs.dims.add.Goals as goal

pub returns-clause-names : goal.returns-clause-names
returns-clause-names c =
    let old = c.args.names.now.keys in
    let name = c.args.name.items in
    rw (c.in_ok-number.ensures.keys, ← list_any-map (λ k. k.items) (bytes_eq name) old, c.requires) (map-append (λ k. k.items) old (c.args.name ∷ []))

pub returns-clause-number : goal.returns-clause-number
returns-clause-number c = rw (c.in_ok-number.ensures.index, position_or_len-map (λ k. k.items) (bytes_eq c.args.name.items) c.args.names.now.keys) refl
