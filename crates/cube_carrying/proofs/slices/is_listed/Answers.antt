use Rattle.std.proofs.Common.{◌∙◌}
use Rattle.cube_source.proofs.Listed.{searched_is}
use Rattle.cube_carrying.proofs.slices.is_listed.Goals as goal

pub returns : goal.returns
returns c = c.is_ok.ensures.value ∙ searched_is c.args.members.now c.args.member c.binary_search.result c.requires c.binary_search.ensures.position
