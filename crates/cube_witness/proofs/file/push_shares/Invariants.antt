use Rattle.std.proofs.Common.{◌≡◌, ◌++◌, map, flat_map}
use Rattle.cube_model.specs.Cubes.{count_from}
use Rattle.cube_text.specs.Keys.{closed}
use Rattle.cube_witness.specs.TwinFile.{share_text}
use Rattle.cube_witness.specs.Twinned.{cube_of}
use Rattle.cube_witness.proofs.file.push_shares.Given as goal

abbrev pub invariant-measures : goal.invariant-measures
invariant-measures g l = l.text ≡ l.fn.text ++ flat_map closed (map (share_text l.twin.core.now.dims l.twin.core.now.shape (cube_of l.twin) l.place l.number) (count_from 0 l.measure))
