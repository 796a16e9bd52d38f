-- Which cuboids can stand for a source, where flags say which places of the new cube the old one had.
use Rattle.std.specs.List.{list_any}
use Rattle.std.specs.Prelude.{ℕ, Bool, false, not, ◌&&◌, List, filter, slice_index_or, is_none, Option}
use Rattle.cube_model.specs.declared.request.What.TheVariants.{Count}
use Rattle.cube_model.specs.Cubes.{Public}
use Rattle.cube_model.specs.Protection.{uncut}
use Rattle.cube_model.specs.Requests.{rows, whole}
use Rattle.cube_carry.specs.Carrying.{last}

-- there are flagged places and others among these
abbrev pub is_mixed : List Bool → List ℕ → Bool
is_mixed flags is = list_any (λ i. slice_index_or flags i false) is && list_any (λ i. not (slice_index_or flags i false)) is

-- no cell of the cuboid covers both
abbrev pub stays_apart : Public → List Bool → List ℕ → Bool
stays_apart g flags c = not (list_any (λ row. is_mixed flags row.places) (rows g (whole Count c)))

-- the cuboid cuts each protected cell of a measure
abbrev pub is_safe : Public → ℕ → List ℕ → Bool
is_safe g m c = is_none (uncut g c m)

-- and no cell of it covers both
abbrev pub can_stand : Public → List Bool → ℕ → List ℕ → Bool
can_stand g flags m c = is_safe g m c && stays_apart g flags c

-- the last of some cuboids that can stand
abbrev pub last_standing : Public → List Bool → ℕ → List (List ℕ) → Option (List ℕ)
last_standing g flags m cs = last (filter (can_stand g flags m) cs)
