use Rattle.cube_http.proofs.Anew.{anew}
use Rattle.cube_http.proofs.laws.streams_start_anew.Goals as goal

pub returns : goal.returns
returns c = anew
