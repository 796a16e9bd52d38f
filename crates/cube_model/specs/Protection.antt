-- Which cells are protected, and which cuboids cut them.
use Rattle.std.specs.List.{list_all, list_any}
use Rattle.std.specs.Prelude.{false, ℕ, Bool, true, not, ◌&&◌, ◌==◌, nat_lt, List, [], ◌∷◌, map, filter, flat_map, find, sum, slice_index_or, Option, Some, None, is_some}
use Rattle.cube_model.specs.declared.cell.Cell.{Cell}
use Rattle.cube_model.specs.declared.policy.Method.{Method}
use Rattle.cube_model.specs.declared.policy.Method.TheVariants.{Plain, Lattice, Parity}
use Rattle.cube_model.specs.declared.policy.Object.{Object}
use Rattle.cube_model.specs.declared.policy.Within.{Within}
use Rattle.cube_model.specs.Cubes.{Dimension, Public, up, same, in_order, places, point, key_at, together, covers, covered, core, cuboids_below}

-- how the measure is controlled
abbrev pub method : Public → ℕ → Method
method g m = slice_index_or g.policy.methods m Plain

-- the measure is under this method
abbrev pub is_lattice : Method → Bool
is_lattice Plain = false
is_lattice Lattice = true
is_lattice Parity = false

abbrev pub is_parity : Method → Bool
is_parity Plain = false
is_parity Lattice = false
is_parity Parity = true

-- the number is listed
abbrev pub listed : ℕ → List ℕ → Bool
listed x xs = list_any (λ y. x == y) xs

-- no dimension is named so
abbrev pub no_dimension : Dimension
no_dimension = record { levels = 0; paths = [] }

-- the place's ancestor in the dimension is listed
abbrev pub is_within : Public → ℕ → Within → Bool
is_within g i s = listed (up (slice_index_or g.dimensions s.dimension no_dimension) s.level (slice_index_or (point g i) s.dimension 0)) s.members

-- the place is in the object's slice
abbrev pub in_slice : Public → Object → ℕ → Bool
in_slice g o i = list_all (is_within g i) o.slice

-- the cell of a place at a cuboid
abbrev pub cell_of : Public → List ℕ → ℕ → Cell
cell_of g c i = record { levels = c; key = key_at g c i }

-- how many facts stand at the places of a cell
abbrev pub facts_in : Public → Cell → ℕ
facts_in g t = sum (map (λ i. slice_index_or g.shape.facts i 0) (covered g t))

-- the cell has fewer facts than this, if a number is given
abbrev pub has_fewer : Public → Option ℕ → Cell → Bool
has_fewer g None t = true
has_fewer g (Some n) t = nat_lt (facts_in g t) n

-- the place is in the object's slice, and its cell at the cuboid has few enough facts
abbrev pub guards : Public → Object → List ℕ → ℕ → Bool
guards g o c i = in_slice g o i && has_fewer g o.fewer (cell_of g c i)

-- the cells of a cuboid that cover a place of the slice and have few enough facts, by key
abbrev pub touched : Public → Object → List ℕ → List Cell
touched g o c = map (λ key. record { levels = c; key = key }) (in_order (map (key_at g c) (filter (guards g o c) (places g))))

-- the cells that an object protects, by cuboid number and key
abbrev pub under : Public → Object → List Cell
under g o = flat_map (touched g o) (cuboids_below o.levels)

abbrev pub same_cell : Cell → Cell → Bool
same_cell s t = same s.levels t.levels && same s.key t.key

-- each cell once, where it first stands
abbrev pub each_once : List Cell → List Cell
each_once [] = []
each_once (t ∷ ts) = t ∷ filter (λ s. not (same_cell t s)) (each_once ts)

-- the cell of one place
abbrev pub core_cell : Public → ℕ → Cell
core_cell g i = cell_of g (core g) i

-- the objects of a measure
abbrev pub objects_of : Public → ℕ → List Object
objects_of g m = filter (λ o. o.measure == m) g.policy.objects

-- the place is in the slice of one of these, with few enough facts, or there are none
abbrev pub is_guarded : Public → List Object → ℕ → Bool
is_guarded g [] i = true
is_guarded g (o ∷ os) i = list_any (λ x. guards g x (core g) i) (o ∷ os)

-- the protected places of a parity measure, in order
abbrev pub guarded : Public → ℕ → List ℕ
guarded g m = filter (is_guarded g (objects_of g m)) (places g)

-- the protected cells of a measure under a method
abbrev pub protected_by : Method → Public → ℕ → List Cell
protected_by Plain g m = []
protected_by Lattice g m = each_once (flat_map (under g) (objects_of g m))
protected_by Parity g m = map (core_cell g) (guarded g m)

unfoldable pub protected : Public → ℕ → List Cell
protected g m = protected_by (method g m) g m

-- The pairs of a covered place and one that is not covered, which the cuboid has together: by the first, then by the second.
unfoldable pub cutting_pairs : Public → List ℕ → Cell → List (ℕ × ℕ)
cutting_pairs g c t = flat_map (λ i. map (λ j. (i, j)) (filter (λ j. not (covers g t j) && together g c i j) (places g))) (filter (covers g t) (places g))

abbrev pub first : {X : Type 0} → List X → Option X
first [] = None
first (x ∷ xs) = Some x

-- the cuboid cuts the cell
abbrev pub is_cut : Public → List ℕ → Cell → Bool
is_cut g c t = is_some (first (cutting_pairs g c t))

-- the first protected cell that the cuboid does not cut
abbrev pub uncut : Public → List ℕ → ℕ → Option Cell
uncut g c m = find (λ t. not (is_cut g c t)) (protected g m)
