-- The same two worlds for a history that need not be admissible, as the requests that someone else answered.
use Rattle.std.specs.Prelude.{◌≡◌, ◌↔◌, ℕ, true, List, length, Option, None, Some, pos, ◌+ℤ◌, ⊤}
use Rattle.cube_model.specs.declared.cell.Cell.{Cell}
use Rattle.cube_model.specs.declared.entry.Entry.{Entry}
use Rattle.cube_model.specs.declared.policy.Method.{Method}
use Rattle.cube_model.specs.declared.policy.Method.TheVariants.{Plain, Lattice, Parity}
use Rattle.cube_model.specs.declared.request.Request.{Request}
use Rattle.cube_model.specs.Cubes.{Public, World, IsWorld, IsIn, Each}
use Rattle.cube_model.specs.Requests.{answer, is_valid}
use Rattle.cube_model.specs.Protection.{method, protected, guarded, is_cut, uncut, core_cell}
use Rattle.cube_model.specs.Links.{is_free, suiting}
use Rattle.cube_model.specs.Entries.{is_allowed, asked, requests}
use Rattle.cube_model.specs.Verdicts.{source, links_of, fixed_by}
use Rattle.cube_model.specs.Twins.{changes, twin, sum_of}

-- the history keeps a measure: there is no source or it cuts each protected cell; each guarded place is free from the links
abbrev pub IsKeptBy : Method → Public → List Entry → ℕ → Type 0
IsKeptBy Plain g h m = ⊤
IsKeptBy Lattice g h m = (c : List ℕ) → source h m ≡ Some c → (t : Cell) → IsIn t (protected g m) → is_cut g c t ≡ true
IsKeptBy Parity g h m = (i : ℕ) → IsIn i (guarded g m) → is_free (length g.shape.points) (links_of g h m) i ≡ true

abbrev pub IsKept : Public → List Entry → ℕ → Type 0
IsKept g h m = IsKeptBy (method g m) g h m

-- each answer is the same in the world with the changes, and the sum of the cell is greater by one
pub record IsOpenTo (w v : World) (rs : List Request) (m : ℕ) (t : Cell) : Type 0 where
  pub same_answers : (r : Request) → IsIn r rs → answer v r ≡ answer w r
  pub other_sum : sum_of v m t ≡ sum_of w m t +ℤ pos 1

abbrev pub KeptIsOpen : Type 0
KeptIsOpen = (w : World) (h : List Entry) (m : ℕ) (t : Cell) → IsWorld w → Each (λ e. is_allowed w.shown e ≡ true) h → IsKept w.shown h m → IsIn t (protected w.shown m) → IsOpenTo w (twin w m (changes w.shown h m t)) (requests h) m t

-- so for requests alone
abbrev pub KeptRequestsAreOpen : Type 0
KeptRequestsAreOpen = (w : World) (rs : List Request) (m : ℕ) (t : Cell) → IsWorld w → Each (λ r. is_valid w.shown r ≡ true) rs → IsKept w.shown (asked rs) m → IsIn t (protected w.shown m) → IsOpenTo w (twin w m (changes w.shown (asked rs) m t)) rs m t

-- the first protected cell that the source doesn't cut, or that isn't free
abbrev pub uncut_by : Public → ℕ → Option (List ℕ) → Option Cell
uncut_by g m None = None
uncut_by g m (Some c) = uncut g c m

abbrev pub cell_at : Public → Option ℕ → Option Cell
cell_at g None = None
cell_at g (Some i) = Some (core_cell g i)

abbrev pub unkept_by : Method → Public → List Entry → ℕ → Option Cell
unkept_by Plain g h m = None
unkept_by Lattice g h m = uncut_by g m (source h m)
unkept_by Parity g h m = cell_at g (fixed_by (suiting (length g.shape.points) (links_of g h m)) (guarded g m))

-- The first protected cell that the history doesn't keep, if any.
abbrev pub unkept : Public → List Entry → ℕ → Option Cell
unkept g h m = unkept_by (method g m) g h m

-- a measure is kept exactly where no cell fails
abbrev pub UnkeptIs : Type 0
UnkeptIs = (g : Public) (h : List Entry) (m : ℕ) → (unkept g h m ≡ None) ↔ IsKept g h m
