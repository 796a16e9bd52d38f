use Rattle.cube_http.proofs.GoesOn.{goes_on}
use Rattle.cube_http.proofs.laws.streams_go_on.Goals as goal

pub returns : goal.returns
returns c = goes_on
