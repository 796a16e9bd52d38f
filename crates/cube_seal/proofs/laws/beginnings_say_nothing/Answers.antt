use Rattle.cube_seal.proofs.SealBytes as bytes
use Rattle.cube_seal.proofs.laws.beginnings_say_nothing.Goals as goal

pub returns : goal.returns
returns c = bytes.beginnings_say_nothing
