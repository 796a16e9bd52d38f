use Rattle.cube_http.proofs.Heads.{breaks_say_nothing}
use Rattle.cube_http.proofs.laws.breaks_say_nothing.Goals as goal

pub returns : goal.returns
returns c = breaks_say_nothing
