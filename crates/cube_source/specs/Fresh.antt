-- Which cells of an object no earlier object of its measure protects.
use Rattle.std.specs.List.{list_any}
use Rattle.std.specs.Prelude.{ℕ, Bool, not, ◌&&◌, ◌==◌, List, flat_map}
use Rattle.cube_model.specs.declared.cell.Cell.{Cell}
use Rattle.cube_model.specs.declared.policy.Object.{Object}
use Rattle.cube_model.specs.Cubes.{Public, is_finer}
use Rattle.cube_model.specs.Protection.{under, same_cell}
use Rattle.cube_source.specs.Few.{guards_row}
use Rattle.cube_source.specs.Objects.{of_measure}

-- the cell is not among those of the earlier objects
abbrev pub is_fresh : Public → List Object → ℕ → Cell → Bool
is_fresh g earlier m t = not (list_any (same_cell t) (flat_map (under g) (of_measure m earlier)))

-- an earlier object of the measure stands at or above the cuboid and guards the row of places
abbrev pub is_repeated : Public → List Object → ℕ → List ℕ → List ℕ → Bool
is_repeated g earlier m c is = list_any (λ o. (o.measure == m && is_finer c o.levels) && guards_row g o is) earlier
