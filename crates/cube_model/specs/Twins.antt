-- The changes for a protected cell, and the cube with the changes added.
use Rattle.std.specs.Ordering.{int_eq}
use Rattle.std.specs.Prelude.{not, filter, slice_index_or, ℕ, ◌*◌, ◌==◌, List, [], ◌∷◌, length, map, slice_set, if◌then◌else◌, ℤ, pos, negsuc, ◌+ℤ◌, Option, Some, None}
use Rattle.cube_model.specs.declared.cell.Cell.{Cell}
use Rattle.cube_model.specs.declared.change.Change.{Change}
use Rattle.cube_model.specs.declared.entry.Entry.{Entry}
use Rattle.cube_model.specs.declared.policy.Method.{Method}
use Rattle.cube_model.specs.declared.policy.Method.TheVariants.{Plain, Lattice, Parity}
use Rattle.cube_model.specs.Cubes.{Public, World, places, covered}
use Rattle.cube_model.specs.Requests.{values, total}
use Rattle.cube_model.specs.Protection.{method, listed, cutting_pairs, first}
use Rattle.cube_model.specs.Links.{Reached, reached, pairs_among}
use Rattle.cube_model.specs.Verdicts.{source, links_of}

-- +1 at one place
abbrev pub plus_at : ℕ → ℕ → ℤ
plus_at i p = if p == i then pos 1 else pos 0

-- +1 at one place, -1 at another
abbrev pub moved : ℕ × ℕ → ℕ → ℤ
moved e p = if p == e.0 then pos 1 else if p == e.1 then negsuc 0 else pos 0

-- +1 where an even walk leads, -1 where an odd one leads
abbrev pub by_walks : Reached → ℕ → ℤ
by_walks w p = if listed p w.evenly then pos 1 else if listed p w.oddly then negsuc 0 else pos 0

abbrev pub with_first : {X : Type 0} → (X → ℕ → ℤ) → Option X → ℕ → ℤ
with_first f None p = pos 0
with_first f (Some x) p = f x p

-- the change at a place, on a lattice measure with this source
abbrev pub change_under : Option (List ℕ) → Public → Cell → ℕ → ℤ
change_under None g t = with_first plus_at (first (covered g t))
change_under (Some c) g t = with_first moved (first (cutting_pairs g c t))

-- the walks over the pairs of the history from a place
abbrev pub walks : Public → List Entry → ℕ → ℕ → Reached
walks g h m from = reached (length g.shape.points) (pairs_among (links_of g h m)) from (2 * length g.shape.points)

-- the change at a place
abbrev pub change_by : Method → Public → List Entry → ℕ → Cell → ℕ → ℤ
change_by Plain g h m t p = pos 0
change_by Lattice g h m t p = change_under (source h m) g t p
change_by Parity g h m t p = with_first (λ from. by_walks (walks g h m from)) (first (covered g t)) p

-- the changes for a protected cell, one per place
unfoldable pub changes : Public → List Entry → ℕ → Cell → List ℤ
changes g h m t = map (change_by (method g m) g h m t) (places g)

-- the changes that are not 0, each at its place
abbrev pub moves : Public → List ℤ → List Change
moves g ch = map (λ p. record { place = p; by = slice_index_or ch p (pos 0) }) (filter (λ p. not (int_eq (slice_index_or ch p (pos 0)) (pos 0))) (places g))

abbrev pub added : List ℤ → List ℤ → List ℤ
added [] ds = []
added (v ∷ vs) [] = []
added (v ∷ vs) (d ∷ ds) = (v +ℤ d) ∷ added vs ds

-- the world with the changes added to the measure
abbrev pub twin : World → ℕ → List ℤ → World
twin w m ch = record { shown = w.shown; cube = slice_set w.cube m (added (values w m) ch) }

-- the plain sum over the places of a cell
abbrev pub sum_of : World → ℕ → Cell → ℤ
sum_of w m t = total (values w m) (covered w.shown t)
