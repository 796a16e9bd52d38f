use Rattle.std.proofs.Common.{List, ℕ, sym, ap₂, subst}
use Rattle.cube_model.specs.Dims.{IsDimension}
use Rattle.cube_fixtures.specs.Worked.{time}
use Rattle.cube_fixtures.proofs.Worked.{is_time, pushed}
use Rattle.cube_fixtures.proofs.dimensions.make_time.Goals as goal

pub dimension-requires-clause-rules : goal.dimension-requires-clause-rules
dimension-requires-clause-rules c =
    let paths = pushed c.in_ok-push-2.ensures.ok (pushed c.in_ok-push.ensures.ok c.new-paths.ensures c.in_ok-path.ensures) c.in_ok-path-2.ensures in
    subst IsDimension (sym (ap₂ (λ (ls : List (List ℕ)) (ps : List (List (List ℕ))). record { name = time.name; column = time.column; levels = ls; paths = ps }) c.in_ok-path-3.ensures paths)) is_time
