-- What of the history of an old cube stands in a new one.
use Rattle.std.specs.List.{list_all}
use Rattle.std.specs.Prelude.{◌≡◌, ◌≤◌, ℕ, Bool, true, false, not, ◌&&◌, ◌||◌, List, [], ◌∷◌, length, map, filter, flat_map, is_none, Option, Some, None}
use Rattle.cube_model.specs.declared.cell.Cell.{Cell}
use Rattle.cube_model.specs.declared.entry.Entry.{Entry}
use Rattle.cube_model.specs.declared.entry.Entry.TheVariants.{Linked}
use Rattle.cube_model.specs.declared.link.Link.{Link}
use Rattle.cube_model.specs.declared.policy.Method.{Method}
use Rattle.cube_model.specs.declared.policy.Method.TheVariants.{Plain, Lattice, Parity}
use Rattle.cube_model.specs.Cubes.{count_from, places, together, cuboids_below, is_finer, are_levels, cuboid_number}
use Rattle.cube_model.specs.Dims.{plains}
use Rattle.cube_model.specs.Protection.{method, listed, guarded, core_cell, uncut}
use Rattle.cube_model.specs.Links.{basis, suiting}
use Rattle.cube_model.specs.Verdicts.{source, links_of, fixed_by}
use Rattle.cube_model.specs.Compaction.{source_entry}
use Rattle.cube_carry.specs.Names.{Named, known, measure_in, carried_levels, carried_link, old_places}

-- the basis of the links of the old history on the measure, with the places of the new cube
abbrev pub carried_links : Named → Named → List Entry → ℕ → List Link
carried_links a b h m = map (carried_link a b) (basis (length a.shape.points) (links_of (known a) h (measure_in b.dims a.dims m)))

-- no cell of the cuboid covers an old place and a new one
abbrev pub keeps_apart : Named → Named → List ℕ → Bool
keeps_apart a b c = list_all (λ i. list_all (λ j. listed j (old_places a b) || not (together (known b) c i j)) (places (known b))) (old_places a b)

-- the cuboid cuts each protected cell of the new cube, and keeps old and new places apart
abbrev pub can_stand : Named → Named → ℕ → List ℕ → Bool
can_stand a b m c = is_none (uncut (known b) c m) && keeps_apart a b c

abbrev pub last : {X : Type 0} → List X → Option X
last [] = None
last (x ∷ []) = Some x
last (x ∷ y ∷ ys) = last (y ∷ ys)

-- the greatest cuboid by number that can stand for an old source, of those as fine as it
abbrev pub source_for : Named → Named → ℕ → Option (List ℕ) → Option (List ℕ)
source_for a b m None = None
source_for a b m (Some s) = last (filter (can_stand a b m) (cuboids_below (carried_levels a.dims b.dims s)))

-- what stands for the source of the old history on the measure
abbrev pub carried_source : Named → Named → List Entry → ℕ → Option (List ℕ)
carried_source a b h m = source_for a b m (source h (measure_in b.dims a.dims m))

-- what stands for the old entries on a measure of the new cube; a measure that the old one had not has none
abbrev pub carried_by : Method → Named → Named → List Entry → ℕ → List Entry
carried_by Plain a b h m = []
carried_by Lattice a b h m = source_entry m (carried_source a b h m)
carried_by Parity a b h m = map (Linked m) (carried_links a b h m)

abbrev pub carried_on : Named → Named → List Entry → ℕ → List Entry
carried_on a b h m = carried_by (method (known b) m) a b h m

-- The history of the old cube, carried over to the new one: measure after measure.
abbrev pub carried_history : Named → Named → List Entry → List Entry
carried_history a b h = flat_map (carried_on a b h) (count_from 0 (length b.policy.methods))

-- why a history is not carried over: no cuboid can stand for the source of a measure, or the carried links fix a protected cell
pub data Stop : Type 0 where
  NoSource : ℕ → Stop
  Fixes : ℕ → Cell → Stop

abbrev pub unless_found : ℕ → Option (List ℕ) → Option (List ℕ) → List Stop
unless_found m None new = []
unless_found m (Some s) None = NoSource m ∷ []
unless_found m (Some s) (Some c) = []

abbrev pub unless_free : Named → ℕ → Option ℕ → List Stop
unless_free b m None = []
unless_free b m (Some i) = Fixes m (core_cell (known b) i) ∷ []

abbrev pub stops_by : Method → Named → Named → List Entry → ℕ → List Stop
stops_by Plain a b h m = []
stops_by Lattice a b h m = unless_found m (source h (measure_in b.dims a.dims m)) (carried_source a b h m)
stops_by Parity a b h m = unless_free b m (fixed_by (suiting (length b.shape.points) (carried_links a b h m)) (guarded (known b) m))

-- What keeps the history from being carried over, the first first; it is carried over where there is nothing.
abbrev pub stops : Named → Named → List Entry → List Stop
stops a b h = flat_map (λ m. stops_by (method (known b) m) a b h m) (count_from 0 (length b.policy.methods))

abbrev pub IsCarried : Named → Named → List Entry → Type 0
IsCarried a b h = stops a b h ≡ []

-- What stands for a source is as fine as it and can stand, and none of these has a greater number; where nothing does, none can.
pub record IsGreatest (a b : Named) (m : ℕ) (s c : List ℕ) : Type 0 where
  pub finer : is_finer c (carried_levels a.dims b.dims s) ≡ true
  pub stands : can_stand a b m c ≡ true
  pub greatest : (d : List ℕ) → is_finer d (carried_levels a.dims b.dims s) ≡ true → can_stand a b m d ≡ true → cuboid_number (plains b.dims) d ≤ cuboid_number (plains b.dims) c

abbrev pub SourceIsGreatest : Type 0
SourceIsGreatest = (a b : Named) (m : ℕ) (s c : List ℕ) → are_levels (plains b.dims) (carried_levels a.dims b.dims s) ≡ true → source_for a b m (Some s) ≡ Some c → IsGreatest a b m s c

abbrev pub NoSourceStands : Type 0
NoSourceStands = (a b : Named) (m : ℕ) (s d : List ℕ) → source_for a b m (Some s) ≡ None → is_finer d (carried_levels a.dims b.dims s) ≡ true → can_stand a b m d ≡ false
