use Rattle.std.proofs.Common.{List, ℕ, sym, ap₂, subst}
use Rattle.cube_model.specs.Dims.{IsDimension}
use Rattle.cube_fixtures.specs.Worked.{day}
use Rattle.cube_fixtures.proofs.Worked.{is_day, pushed}
use Rattle.cube_fixtures.proofs.dimensions.make_day.Goals as goal

pub dimension-requires-clause-rules : goal.dimension-requires-clause-rules
dimension-requires-clause-rules c =
    let paths = pushed c.in_ok-push-5.ensures.ok (pushed c.in_ok-push-4.ensures.ok (pushed c.in_ok-push-3.ensures.ok (pushed c.in_ok-push-2.ensures.ok (pushed c.in_ok-push.ensures.ok c.new-paths.ensures c.in_ok-path.ensures) c.in_ok-path-2.ensures) c.in_ok-path-3.ensures) c.in_ok-path-4.ensures) c.in_ok-path-5.ensures in
    subst IsDimension (sym (ap₂ (λ (ls : List (List ℕ)) (ps : List (List (List ℕ))). record { name = day.name; column = day.column; levels = ls; paths = ps }) c.in_ok-path-6.ensures paths)) is_day
