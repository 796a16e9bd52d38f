use Rattle.cube_seal.proofs.SealBytes as bytes
use Rattle.cube_seal.proofs.laws.lines_say_digits.Goals as goal

pub returns : goal.returns
returns c = bytes.lines_say_digits
