-- When an object protects only cells that an earlier one protects.
use Rattle.std.specs.List.{list_all, list_any}
use Rattle.std.specs.Prelude.{ℕ, Bool, true, false, ◌&&◌, ◌==◌, nat_le, List, Option, Some, None}
use Rattle.cube_model.specs.declared.policy.Object.{Object}
use Rattle.cube_model.specs.declared.policy.Within.{Within}
use Rattle.cube_model.specs.Cubes.{is_finer}
use Rattle.cube_model.specs.Protection.{listed}

-- at one level of one dimension, each member of the second list is among those of the first
abbrev pub lists_fewer : Within → Within → Bool
lists_fewer wide w = (w.dimension == wide.dimension && w.level == wide.level) && list_all (λ x. listed x wide.members) w.members

-- for each list of the wide slice the narrow one has such a list
abbrev pub is_narrower : List Within → List Within → Bool
is_narrower narrow wide = list_all (λ w. list_any (lists_fewer w) narrow) wide

-- what has fewer facts than the first number has fewer than the second, where numbers are given
abbrev pub is_wider : Option ℕ → Option ℕ → Bool
is_wider few None = true
is_wider None (Some n) = false
is_wider (Some m) (Some n) = nat_le m n

-- an earlier object of the same measure stands at or above the object, with as wide a slice and as great a number of facts
abbrev pub is_contained : List Object → Object → Bool
is_contained earlier o = list_any (λ e. ((e.measure == o.measure && is_finer o.levels e.levels) && is_narrower o.slice e.slice) && is_wider o.fewer e.fewer) earlier
