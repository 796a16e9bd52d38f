use Rattle.std.proofs.Common.{◌∙◌}
use Rattle.cube_model.specs.Requests.{grain}
use Rattle.cube_lattice.proofs.Steps.{lesser_zip}
use Rattle.cube_lattice.proofs.grains.grain.Goals as goal

pub returns : goal.returns
unfolding grain
returns c =
    let asked = c.args.request.now in
    c.from_vec.ensures ∙ rw (c.as_slice.ensures, c.as_slice-2.ensures) at c.in_ok-levels.ensures ∙ lesser_zip asked.group asked.picks
