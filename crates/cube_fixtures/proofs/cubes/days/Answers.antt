use Rattle.std.proofs.Common.{List, ℕ, ◌++◌, ◌∷◌, [], ap, ◌∙◌}
use Rattle.cube_fixtures.specs.Worked.{two, day_core}
use Rattle.cube_fixtures.proofs.Worked.{is_day_core, same_core, pushed}
use Rattle.cube_fixtures.proofs.cubes.days.Goals as goal

abbrev days : ℕ → ℕ → List (List ℕ)
days city midst = two city 0 ∷ two city midst ∷ two city 3 ∷ two city 4 ∷ []

pub returns-clause-rules : goal.returns-clause-rules
returns-clause-rules c =
    let lyon = c.in_ok-put_days.ensures ∙ ap (λ (l : List (List ℕ)). l ++ days 0 1) c.new-points.ensures in
    let nice = c.in_ok-put_days-2.ensures ∙ ap (λ (l : List (List ℕ)). l ++ days 1 2) lyon in
    let paris = c.in_ok-put_days-3.ensures ∙ ap (λ (l : List (List ℕ)). l ++ days 2 1) nice in
    let facts = c.from_vec-facts.ensures ∙ c.in_ok-vec.ensures.items in
    let cube = pushed c.in_ok-push.ensures.ok c.new-cube.ensures (c.from_vec.ensures ∙ c.in_ok-values.ensures.items) in
    same_core day_core c.in_ok-day_dims.field-0 c.put_days-3.new.points c.from_vec-facts.result c.push.new.self c.in_ok-day_dims.ensures paris facts cube is_day_core
