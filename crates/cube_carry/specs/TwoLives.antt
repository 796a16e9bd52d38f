-- What is promised of a carried history: it is admissible, and what both lives said tells nothing of a protected cell.
use Rattle.std.specs.Prelude.{◌≡◌, ℕ, not, ◌&&◌, List, map, filter, flat_map, slice_index_or, Option, Some, None, ℤ, pos, ◌+ℤ◌}
use Rattle.cube_model.specs.declared.cell.Cell.{Cell}
use Rattle.cube_model.specs.declared.entry.Entry.{Entry}
use Rattle.cube_model.specs.declared.policy.Method.{Method}
use Rattle.cube_model.specs.declared.policy.Method.TheVariants.{Plain, Lattice, Parity}
use Rattle.cube_model.specs.Cubes.{Public, World, places, together, covered, IsIn}
use Rattle.cube_model.specs.Protection.{method, protected, listed, first}
use Rattle.cube_model.specs.Verdicts.{source, IsAdmissible}
use Rattle.cube_model.specs.Twins.{plus_at, moved, with_first, by_walks, walks, changes, twin, sum_of}
use Rattle.cube_model.specs.Runs.{Ask, replies, end, by_rules}
use Rattle.cube_model.specs.TwoWorlds.{Extends}
use Rattle.cube_model.specs.Compaction.{compacted}
use Rattle.cube_carry.specs.Names.{Named, known, world_of, IsNamed, measure_in, carried_place}
use Rattle.cube_carry.specs.Continues.{Continues, KeepsValues}
use Rattle.cube_carry.specs.Carrying.{carried_history, IsCarried}

-- The carried history is admissible in the new cube.
abbrev pub CarriedIsAdmissible : Type 0
CarriedIsAdmissible = (a b : Named) (old new : List (List ℤ)) (h : List Entry) → IsNamed a old → IsNamed b new → Continues a b → IsAdmissible (known a) h → IsCarried a b h → IsAdmissible (known b) (carried_history a b h)

-- Two lives: some asks of the old cube from an admissible history on, the history at their end carried over, some asks of the new
-- cube from there on, and an admissible history that goes on from the one at their end.
pub record AreLives (a b : Named) (old new : List (List ℤ)) (h : List Entry) (before behind : List Ask) (later : List Entry) : Type 0 where
  pub old_named : IsNamed a old
  pub new_named : IsNamed b new
  pub continues : Continues a b
  pub same_values : KeepsValues a b old new
  pub admissible : IsAdmissible (known a) h
  pub carried : IsCarried a b (end by_rules (known a) h before)
  pub later_admissible : IsAdmissible (known b) later
  pub extends : Extends (end by_rules (known b) (carried_history a b (end by_rules (known a) h before)) behind) later

-- the changes of the new cube at the places of the old one
abbrev pub old_changes : Named → Named → List ℤ → List ℤ
old_changes a b ch = map (λ i. slice_index_or ch (carried_place a b i) (pos 0)) (places (known a))

-- the old cube with these changes to a measure of the new one
abbrev pub old_twin : Named → Named → List (List ℤ) → ℕ → List ℤ → World
old_twin a b old m ch = twin (world_of a old) (measure_in b.dims a.dims m) (old_changes a b ch)

abbrev pub new_twin : Named → List (List ℤ) → ℕ → List ℤ → World
new_twin b new m ch = twin (world_of b new) m ch

-- Neither life tells the cubes with the changes from the cubes: each reply is the same, and the new cube with the changes has the
-- values of the old one with them.
pub record AreSilent (a b : Named) (old new : List (List ℤ)) (h : List Entry) (before behind : List Ask) (m : ℕ) (ch : List ℤ) : Type 0 where
  pub old_replies : replies by_rules (old_twin a b old m ch) h before ≡ replies by_rules (world_of a old) h before
  pub new_replies : replies by_rules (new_twin b new m ch) (carried_history a b (end by_rules (known a) h before)) behind ≡ replies by_rules (world_of b new) (carried_history a b (end by_rules (known a) h before)) behind
  pub same_values : KeepsValues a b (old_twin a b old m ch).cube (new_twin b new m ch).cube

-- both lives are silent, and the sum of the cell in the new cube is greater by one
pub record HidesNew (a b : Named) (old new : List (List ℤ)) (h : List Entry) (before behind : List Ask) (m : ℕ) (t : Cell) (ch : List ℤ) : Type 0 where
  pub silent : AreSilent a b old new h before behind m ch
  pub other_sum : sum_of (new_twin b new m ch) m t ≡ sum_of (world_of b new) m t +ℤ pos 1

-- Two worlds over two lives, for each protected cell of the new cube, by the changes for the later history.
abbrev pub TwoLives : Type 0
TwoLives = (a b : Named) (old new : List (List ℤ)) (h : List Entry) (before behind : List Ask) (later : List Entry) (m : ℕ) (t : Cell) → AreLives a b old new h before behind later → IsIn t (protected (known b) m) → HidesNew a b old new h before behind m t (changes (known b) later m t)

-- ---- the cells of the old cube
-- the places of the new cube that a cell of the old one covered
abbrev pub then_covered : Named → Named → Cell → List ℕ
then_covered a b t = map (carried_place a b) (covered (known a) t)

-- the pairs of a place among these and one that is not, which the cuboid has together, by the least first and then the least second
abbrev pub parting_pairs : Public → List ℕ → List ℕ → List (ℕ × ℕ)
parting_pairs g c these = flat_map (λ i. map (λ j. (i, j)) (filter (λ j. not (listed j these) && together g c i j) (places g))) (filter (λ i. listed i these) (places g))

abbrev pub part_under : Option (List ℕ) → Public → List ℕ → ℕ → ℤ
part_under None g these = with_first plus_at (first (filter (λ i. listed i these) (places g)))
part_under (Some c) g these = with_first moved (first (parting_pairs g c these))

abbrev pub part_by : Method → Public → List Entry → ℕ → List ℕ → ℕ → ℤ
part_by Plain g h m these p = pos 0
part_by Lattice g h m these p = part_under (source h m) g these p
part_by Parity g h m these p = with_first (λ from. by_walks (walks g h m from)) (first these) p

-- the changes of the new cube, one for each place, for a cell that the old cube had
abbrev pub old_cell_changes : Named → Named → List Entry → ℕ → Cell → List ℤ
old_cell_changes a b h m t = map (part_by (method (known b) m) (known b) h m (then_covered a b t)) (places (known b))

-- both lives are silent, and the sum of the cell in the old cube is greater by one
pub record HidesOld (a b : Named) (old new : List (List ℤ)) (h : List Entry) (before behind : List Ask) (k m : ℕ) (t : Cell) (ch : List ℤ) : Type 0 where
  pub silent : AreSilent a b old new h before behind m ch
  pub other_sum : sum_of (old_twin a b old m ch) k t ≡ sum_of (world_of a old) k t +ℤ pos 1

-- Two worlds over two lives, for each cell that the old cube protected.
abbrev pub OldCells : Type 0
OldCells = (a b : Named) (old new : List (List ℤ)) (h : List Entry) (before behind : List Ask) (later : List Entry) (k : ℕ) (t : Cell) → AreLives a b old new h before behind later → IsIn t (protected (known a) k) → HidesOld a b old new h before behind k (measure_in a.dims b.dims k) t (old_cell_changes a b later (measure_in a.dims b.dims k) t)

-- A history carried over to its own cube is the compacted one.
abbrev pub CarriedToItself : Type 0
CarriedToItself = (a : Named) (values : List (List ℤ)) (h : List Entry) → IsNamed a values → IsAdmissible (known a) h → carried_history a a h ≡ compacted (known a) h
