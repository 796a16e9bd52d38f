use Rattle.std.proofs.Common.{◌∙◌, ap, sym}
use Rattle.std.specs.Str.{bytes_eq}
use Rattle.std.specs.List.{position}
use Rattle.cube_model.proofs.Parts.{position-map}
use Rattle.cube_model.proofs.dims.NumberedNames.find.Goals as goal

pub returns : goal.returns
returns c =
    let name = c.args.name.now in
    rw c.self.view_is at (c.get_index_of.ensures.index ∙ sym (position-map (λ k. k.items) (bytes_eq name) c.self.inside.names.keys) ∙ ap (position (bytes_eq name)) c.self.invariant.once)
