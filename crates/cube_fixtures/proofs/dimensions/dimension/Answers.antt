use Rattle.std.proofs.Common.{ℕ, List, ◌∷◌, ◌++◌, [], map, sym, ap, ap₂, ◌∙◌}
use Rattle.cube_model.specs.Cubes.{names_at, count_from}
use Rattle.cube_model.specs.Dims.{NamedDimension}
use Rattle.cube_fixtures.proofs.dimensions.dimension.Goals as goal

pub from_parts-requires-clause-members : goal.from_parts-requires-clause-members
from_parts-requires-clause-members c =
    let d : NamedDimension = record { name = c.in_ok-name.name; column = c.in_ok-column.column; levels = c.args.levels; paths = c.args.paths } in
    c.in_ok-push-2.ensures.ok
    ∙ ap₂ (λ (a : List (List (List ℕ))) (b : List (List ℕ)). a ++ b ∷ []) (c.in_ok-push.ensures.ok ∙ ap₂ (λ (a : List (List (List ℕ))) (b : List (List ℕ)). a ++ b ∷ []) c.new-members.ensures (c.in_ok-at_level.ensures ∙ ap (λ (ps : List (List (List ℕ))). names_at (record { levels = 0; paths = ps }) 0) c.as_slice.ensures)) (c.in_ok-at_level-2.ensures ∙ ap (λ (ps : List (List (List ℕ))). names_at (record { levels = 0; paths = ps }) 1) c.as_slice-2.ensures)
    ∙ sym (ap (λ (n : ℕ). map (names_at (record { levels = n; paths = c.args.paths })) (count_from 0 n)) c.requires.two)
