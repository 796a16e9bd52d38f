use Rattle.std.proofs.Common.{◌∙◌}
use Rattle.cube_fixtures.specs.Worked.{full_core}
use Rattle.cube_fixtures.proofs.Worked.{is_full_core, same_core, pushed}
use Rattle.cube_fixtures.proofs.cubes.full.Goals as goal

pub returns-clause-rules : goal.returns-clause-rules
returns-clause-rules c =
    let facts = c.from_vec-facts.ensures ∙ c.in_ok-vec.ensures.items in
    let cube = pushed c.in_ok-push-2.ensures.ok (pushed c.in_ok-push.ensures.ok c.new-cube.ensures (c.from_vec.ensures ∙ c.in_ok-vec-2.ensures.items)) (c.from_vec-2.ensures ∙ c.in_ok-vec-3.ensures.items) in
    same_core full_core c.in_ok-pay_dims.field-0 c.in_ok-points.points c.from_vec-facts.result c.push-2.new.self c.in_ok-pay_dims.ensures c.in_ok-points.ensures facts cube is_full_core
