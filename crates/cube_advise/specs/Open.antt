-- The cuboids that can be released behind a history.
use Rattle.std.specs.Prelude.{◌≡◌, ⊤, ℕ, Bool, true, not, List, filter, Option, Some, None}
use Rattle.cube_model.specs.declared.entry.Entry.{Entry}
use Rattle.cube_model.specs.Cubes.{Dimension, Public, cuboids, are_levels}
use Rattle.cube_model.specs.Verdicts.{narrowed, source}
use Rattle.cube_model.specs.Safe.{is_safe, has_finer}

-- under a source, the cuboid is open: with it the source would cut each protected cell still
abbrev pub is_open_by : Public → Option (List ℕ) → ℕ → List ℕ → Bool
is_open_by g s m c = is_safe g m (narrowed s c)

abbrev pub open_by : Public → Option (List ℕ) → ℕ → List (List ℕ)
open_by g s m = filter (is_open_by g s m) (cuboids g)

-- the open cuboids that no other open one is finer than, by number
abbrev pub finest_by : Public → Option (List ℕ) → ℕ → List (List ℕ)
finest_by g s m = filter (λ c. not (has_finer (open_by g s m) c)) (open_by g s m)

-- The cuboid, narrowed by the source that the history holds, cuts each protected cell.
abbrev pub is_open : Public → List Entry → ℕ → List ℕ → Bool
is_open g h m c = is_open_by g (source h m) m c

-- The open cuboids behind a history that no other open one is finer than, by number.
abbrev pub finest_open : Public → List Entry → ℕ → List (List ℕ)
finest_open g h m = finest_by g (source h m) m

-- where there is a source, it has a level in range for each dimension
abbrev pub InRange : List Dimension → Option (List ℕ) → Type 0
InRange ds None = ⊤
InRange ds (Some s) = are_levels ds s ≡ true
