-- What the changes for a protected cell are found by, and why a cell has none.
use Rattle.std.specs.Ordering.{int_eq}
use Rattle.std.specs.Prelude.{◌≡◌, ℕ, ◌<◌, true, false, not, List, length, map, filter, slice_index_or, option_copied, is_none, Some, None, ℤ, pos, ⊤}
use Rattle.std.specs.List.{list_any}
use Rattle.cube_model.specs.declared.cell.Cell.{Cell}
use Rattle.cube_model.specs.declared.change.Change.{Change}
use Rattle.cube_model.specs.declared.entry.Entry.{Entry}
use Rattle.cube_model.specs.declared.policy.Method.TheVariants as method
use Rattle.cube_model.specs.Cubes.{Dimension, Public, are_levels, covered, count_from}
use Rattle.cube_model.specs.Links.{is_free, basis}
use Rattle.cube_model.specs.LinkLaws.{ends}
use Rattle.cube_model.specs.Protection.{method as method_of, protected, same_cell, cutting_pairs, first}
use Rattle.cube_model.specs.Twins.{plus_at, moved, by_walks, with_first}
use Rattle.cube_model.specs.Verdicts.{source, links_of, IsAdmissible}
use Rattle.cube_witness.specs.declared.grounds.Grounds.{Grounds}
use Rattle.cube_witness.specs.declared.grounds.Grounds.TheVariants.{Plain, Source, Pairs}
use Rattle.cube_witness.specs.declared.finding.WitnessFault.{WitnessFault}
use Rattle.cube_witness.specs.declared.finding.WitnessFault.TheVariants.{Empty, NotProtected, NoMemory}

-- The grounds are those of a history, on a measure: by the method of the measure nothing, the source that the history leaves, or a
-- colouring of all places whose kept links are a basis of the links of the history.
abbrev pub IsGrounds : Public → List Entry → ℕ → Grounds → Type 0
IsGrounds g h m Plain = method_of g m ≡ method.Plain
IsGrounds g h m (Source levels) = (method_of g m ≡ method.Lattice) × (option_copied levels ≡ source h m)
IsGrounds g h m (Pairs colouring) = (method_of g m ≡ method.Parity) × (colouring.now.places ≡ length g.shape.points) × (colouring.now.kept ≡ basis (length g.shape.points) (links_of g h m))

-- they are those of some admissible history
pub record HasHistory (g : Public) (m : ℕ) (grounds : Grounds) : Type 0 where
  pub history : List Entry
  pub admissible : IsAdmissible g history
  pub grounds_of : IsGrounds g history m grounds

-- Why a cell has no changes: it covers no place, or it does and is not protected. Memory may run out at any cell.
abbrev pub HasNone : Public → ℕ → Cell → WitnessFault → Type 0
HasNone g m t Empty = is_none (first (covered g t)) ≡ true
HasNone g m t NotProtected = (is_none (first (covered g t)) ≡ false) × (list_any (same_cell t) (protected g m) ≡ false)
HasNone g m t NoMemory = ⊤

-- ---- by the grounds alone

-- the change at a place, where this is the first place of the cell
abbrev pub change_by : Grounds → Public → Cell → ℕ → ℕ → ℤ
change_by Plain g t i p = pos 0
change_by (Source None) g t i p = plus_at i p
change_by (Source (Some levels)) g t i p = with_first moved (first (cutting_pairs g levels.now t)) p
change_by (Pairs colouring) g t i p = by_walks (ends colouring.now.places colouring.now.kept i) p

-- the grounds tell the change at each of so many places: the source has a level for each dimension, the place is free
abbrev pub CanTell : List Dimension → ℕ → ℕ → Grounds → Type 0
CanTell ds n i Plain = ⊤
CanTell ds n i (Source None) = ⊤
CanTell ds n i (Source (Some levels)) = are_levels ds levels.now ≡ true
CanTell ds n i (Pairs colouring) = (colouring.now.places ≡ n) × (i < n) × (is_free colouring.now.places colouring.now.kept i ≡ true)

-- the entries of a list that are not 0, each with its place
abbrev pub moves_in : List ℤ → ℕ → List Change
moves_in signs n = map (λ p. record { place = p; by = slice_index_or signs p (pos 0) }) (filter (λ p. not (int_eq (slice_index_or signs p (pos 0)) (pos 0))) (count_from 0 n))
