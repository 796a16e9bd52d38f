-- What the definitions mean, in plain words: laws that the public functions of this crate prove.
use Rattle.std.specs.List.{slice_get, list_any}
use Rattle.std.specs.Prelude.{⊤, zero, suc, Bool, map, Some, if◌then◌else◌, ◌≡◌, ℕ, ◌<◌, ◌↔◌, true, false, List, [], ◌∷◌, length}
use Rattle.cube_model.specs.declared.answer.Row.{Row}
use Rattle.cube_model.specs.declared.cell.Cell.{Cell}
use Rattle.cube_model.specs.declared.policy.Method.TheVariants.{Lattice}
use Rattle.cube_model.specs.declared.policy.Object.{Object}
use Rattle.cube_model.specs.declared.request.Request.{Request}
use Rattle.cube_model.specs.Cubes.{cuboids, cuboid_count, cuboid_number, are_levels, Each, Public, World, IsWorld, is_finer, meet, key_at, together, covers, in_order, IsIn, IsIncreasing}
use Rattle.cube_model.specs.Requests.{is_picked, rows}
use Rattle.cube_model.specs.Protection.{under, same_cell, objects_of, method, protected, in_slice, has_fewer, is_cut}

-- the meet of two cuboids is their greatest lower bound
pub record IsGreatestBelow (a b c : List ℕ) : Type 0 where
  pub below_first : is_finer c a ≡ true
  pub below_second : is_finer c b ≡ true
  pub greatest : (d : List ℕ) → is_finer d a ≡ true → is_finer d b ≡ true → is_finer d c ≡ true

abbrev pub MeetIsGreatest : Type 0
MeetIsGreatest = (a b : List ℕ) → length a ≡ length b → IsGreatestBelow a b (meet a b)

-- the cuboid has a covered place together with one that is not
abbrev pub Cuts : Public → List ℕ → Cell → Type 0
Cuts g c t = (i : ℕ) × (j : ℕ) × (i < length g.shape.points) × (j < length g.shape.points) × (covers g t i ≡ true) × (covers g t j ≡ false) × (together g c i j ≡ true)

abbrev pub CutIsCuts : Type 0
CutIsCuts = (g : Public) (c : List ℕ) (t : Cell) → (is_cut g c t ≡ true) ↔ Cuts g c t

-- a cuboid coarser than one that cuts a cell cuts it too, so a finer source never helps
abbrev pub CoarserCuts : Type 0
CoarserCuts = (w : World) (c d : List ℕ) (t : Cell) → IsWorld w → is_finer c d ≡ true → is_cut w.shown c t ≡ true → is_cut w.shown d t ≡ true

-- keys in order are the same keys, each before all later ones
abbrev pub InOrder : Type 0
InOrder = (ks : List (List ℕ)) → IsIncreasing (in_order ks) × ((k : List ℕ) → IsIn k (in_order ks) ↔ IsIn k ks)

abbrev pub keys_of : List Row → List (List ℕ)
keys_of [] = []
keys_of (row ∷ rest) = row.key ∷ keys_of rest

-- the place is picked, and the key is its group
abbrev pub IsPickedIn : Public → Request → List ℕ → ℕ → Type 0
IsPickedIn g r key i = (i < length g.shape.points) × (is_picked g r i ≡ true) × (key_at g r.group i ≡ key)

-- the keys of the rows increase; a place stands in a row exactly where it is picked and the row has its group as key; no row is empty
pub record AreRows (g : Public) (r : Request) : Type 0 where
  pub increasing : IsIncreasing (keys_of (rows g r))
  pub exactly : (row : Row) → IsIn row (rows g r) → (i : ℕ) → IsIn i row.places ↔ IsPickedIn g r row.key i
  pub complete : (i : ℕ) → i < length g.shape.points → is_picked g r i ≡ true → (row : Row) × (IsIn row (rows g r)) × IsIn i row.places
  pub nonempty : (row : Row) → IsIn row (rows g r) → (i : ℕ) × IsIn i row.places

abbrev pub RowsAreRows : Type 0
RowsAreRows = (g : Public) (r : Request) → AreRows g r

-- Some object of the measure has the cell's cuboid at or below its own, the cell has few enough facts for it, and the cell covers a place
-- of its slice.
abbrev pub IsProtected : Public → ℕ → Cell → Type 0
IsProtected g m t = (o : Object) × (IsIn o g.policy.objects) × (o.measure ≡ m) × (is_finer t.levels o.levels ≡ true) × (has_fewer g o.fewer t ≡ true) × (i : ℕ) × (i < length g.shape.points) × (in_slice g o i ≡ true) × (covers g t i ≡ true)

abbrev pub ProtectedAre : Type 0
ProtectedAre = (g : Public) (m : ℕ) (t : Cell) → method g m ≡ Lattice → IsIn t (protected g m) ↔ IsProtected g m t

-- each cuboid stands at its number among all
pub record AreNumbered (g : Public) : Type 0 where
  pub all : length (cuboids g) ≡ cuboid_count g.dimensions
  pub at : (c : List ℕ) → are_levels g.dimensions c ≡ true → slice_get (cuboids g) (cuboid_number g.dimensions c) ≡ Some c

abbrev pub CuboidsAreNumbered : Type 0
CuboidsAreNumbered = (g : Public) → AreNumbered g

-- no cell stands twice
abbrev pub IsDistinct : List Cell → Type 0
IsDistinct [] = ⊤
IsDistinct (t ∷ ts) = (IsIn t ts → ⊥) × IsDistinct ts

abbrev pub ProtectedOnce : Type 0
ProtectedOnce = (g : Public) (m : ℕ) → method g m ≡ Lattice → IsDistinct (protected g m)

-- where the first element that passes stands
abbrev pub first_at : {X : Type 0} → (X → Bool) → List X → ℕ
first_at p [] = zero
first_at p (x ∷ xs) = if p x then zero else suc (first_at p xs)

-- Where a protected cell stands: the first object that protects it, the number of its cuboid, its key.
abbrev pub rank : Public → List Object → Cell → List ℕ
rank g os t = first_at (λ o. list_any (same_cell t) (under g o)) os ∷ cuboid_number g.dimensions t.levels ∷ t.key

-- the protected cells of a lattice measure stand by object, cuboid number and key
abbrev pub ProtectedInOrder : Type 0
ProtectedInOrder = (g : Public) (m : ℕ) → method g m ≡ Lattice → Each (λ o. are_levels g.dimensions o.levels ≡ true) (objects_of g m) → IsIncreasing (map (rank g (objects_of g m)) (protected g m))
