use Rattle.std.proofs.Common.{◌<◌, [], length, ap, arith}
use Rattle.cube_dims.specs.DimsFile.{path_faults}
use Rattle.cube_tables.proofs.Turns.{turn_fault, turn_next, nothing, refused, handed_on}
use Rattle.cube_dims.proofs.paths.check_paths.Goals as goal

pub returns-in_err-check_path : goal.returns-in_err-check_path
returns-in_err-check_path c =
    let d = c.args.parts.now in
    let long = ap length c.paths-leaf-end.ensures in
    let within : c.loop-leaf.leaf < length d.paths = omega (arith, long) in
    handed_on _ _ c.in_err-check_path.field-0.0 _ _ c.from_residual.ensures.1
    (turn_fault (path_faults c.args.entry.now (length d.levels)) _ _ d.paths c.loop-leaf.leaf [] within c.loop-leaf.invariant (refused _ _ _ _ c.in_err-check_path.ensures))

pub loop-leaf-preserved : goal.loop-leaf-preserved
loop-leaf-preserved c =
    let d = c.args.parts.now in
    let long = ap length c.paths-leaf-end.ensures in
    let within : c.loop-leaf.leaf < length d.paths = omega (arith, long) in
    turn_next (path_faults c.args.entry.now (length d.levels)) d.paths c.loop-leaf.leaf [] within c.loop-leaf.invariant (nothing _ _ _ c.in_ok-check_path.ensures)
