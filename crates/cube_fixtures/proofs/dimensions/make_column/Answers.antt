use Rattle.std.proofs.Common.{List, ℕ, sym, ap₂, subst}
use Rattle.cube_model.specs.Dims.{IsDimension}
use Rattle.cube_fixtures.specs.Worked.{column}
use Rattle.cube_fixtures.proofs.Worked.{is_column, pushed}
use Rattle.cube_fixtures.proofs.dimensions.make_column.Goals as goal

pub flat_dimension-requires-clause-rules : goal.flat_dimension-requires-clause-rules
flat_dimension-requires-clause-rules c =
    let paths = pushed c.in_ok-push-3.ensures.ok (pushed c.in_ok-push-2.ensures.ok (pushed c.in_ok-push.ensures.ok c.new-paths.ensures c.in_ok-alone.ensures) c.in_ok-alone-2.ensures) c.in_ok-alone-3.ensures in
    subst IsDimension (sym (ap₂ (λ (ls : List (List ℕ)) (ps : List (List (List ℕ))). record { name = column.name; column = column.column; levels = ls; paths = ps }) c.in_ok-alone-4.ensures paths)) is_column
