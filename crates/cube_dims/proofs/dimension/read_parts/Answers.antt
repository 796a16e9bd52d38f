use Rattle.cube_tables.proofs.Turns.{refused, next, both_nothing, nothing, handed_on}
use Rattle.cube_dims.proofs.dimension.read_parts.Goals as goal

pub returns-in_err-paths : goal.returns-in_err-paths
returns-in_err-paths c =
    let name = nothing _ _ _ c.in_ok-name.ensures in
    let column = nothing _ _ _ c.in_ok-column.ensures in
    let levels = nothing _ _ _ c.in_ok-levels.ensures in
    handed_on _ _ c.in_err-paths.field-0.0 _ _ c.from_residual-in_err-paths.ensures.1 (next _ _ _ _ (both_nothing _ _ (both_nothing _ _ name column) levels) (refused _ _ _ _ c.in_err-paths.ensures))
