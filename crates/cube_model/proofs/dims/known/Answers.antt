use Rattle.std.proofs.Common.{sym, ◌∙◌}
use Rattle.std.specs.Str.{bytes_eq}
use Rattle.cube_model.proofs.Parts.{position-map}
use Rattle.cube_model.proofs.dims.known.Goals as goal

pub returns : goal.returns
returns c = c.get_index_of.ensures.index ∙ sym (position-map (λ k. k.items) (bytes_eq c.args.name.now) c.args.names.now.keys)
