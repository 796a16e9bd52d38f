use Rattle.cube_seal.proofs.SealBytes as bytes
use Rattle.cube_seal.proofs.laws.seals_are_lines.Goals as goal

pub returns : goal.returns
returns c = bytes.seals_are_lines
