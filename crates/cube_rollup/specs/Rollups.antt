-- Which cuboids are kept to answer from: for each lattice measure that has a source, the one at its source.
use Rattle.std.specs.Prelude.{◌≡◌, ℕ, ◌<◌, ⊤, List, [], ◌∷◌, ◌++◌, length, slice_index_or, slice_set, Option, Some, None}
use Rattle.cube_model.specs.declared.entry.Entry.{Entry}
use Rattle.cube_model.specs.declared.entry.Entry.TheVariants.{Asked}
use Rattle.cube_model.specs.declared.policy.Method.{Method}
use Rattle.cube_model.specs.declared.policy.Method.TheVariants.{Plain, Lattice, Parity}
use Rattle.cube_model.specs.declared.policy.Policy.{Policy}
use Rattle.cube_model.specs.declared.request.Request.{Request}
use Rattle.cube_model.specs.Cores.{Core, shown}
use Rattle.cube_model.specs.Cubes.{Public}
use Rattle.cube_model.specs.Protection.{method}
use Rattle.cube_model.specs.Verdicts.{source}
use Rattle.cube_rollup.specs.Cuboids.{Cuboid, IsCuboidOf, cell_keys}

-- the cuboids that are kept, by measure, and one that takes its place among them once the request that waits has entered
pub record Rollups : Type 0 where
  pub kept : List (Option Cuboid)
  pub next : Option Cuboid

-- those that are kept once the next one, if any, has taken its place
abbrev pub entered_by : List (Option Cuboid) → Option Cuboid → List (Option Cuboid)
entered_by kept None = kept
entered_by kept (Some k) = slice_set kept k.measure (Some k)

-- those that are kept then
abbrev pub entered : Rollups → List (Option Cuboid)
entered r = entered_by r.kept r.next

-- ---- which ones they are

-- the source of a measure by its method: a lattice measure alone has one
abbrev pub source_by : Method → Option (List ℕ) → Option (List ℕ)
source_by Plain s = None
source_by Lattice s = s
source_by Parity s = None

-- the levels of the cuboid that is kept for a measure: the source of a lattice measure, where its history has one
abbrev pub kept_at : Public → List Entry → ℕ → Option (List ℕ)
kept_at g h m = source_by (method g m) (source h m)

-- the cuboid of a core for a measure at some levels, and none where there are none
abbrev pub IsCuboidAt : Core → ℕ → Option (List ℕ) → Option Cuboid → Type 0
IsCuboidAt c m None None = ⊤
IsCuboidAt c m None (Some k) = ⊥
IsCuboidAt c m (Some ls) None = ⊥
IsCuboidAt c m (Some ls) (Some k) = (k.levels ≡ ls) × (k.measure ≡ m) × IsCuboidOf c k

-- for each measure the cuboid that is kept for it by a history
pub record AreKept (c : Core) (p : Policy) (h : List Entry) (ks : List (Option Cuboid)) : Type 0 where
  pub long : length ks ≡ length p.methods
  pub each : (m : ℕ) → m < length p.methods → IsCuboidAt c m (kept_at (shown c p) h m) (slice_index_or ks m None)

-- the entry of a request that waits, if any
abbrev pub entry_of : Option Request → List Entry
entry_of None = []
entry_of (Some r) = Asked r ∷ []

-- The cuboids stand for a core and a policy by a history, behind which perhaps a request waits: those kept are those by the
-- history, and with the next one in its place they are those by the history with the request.
pub record RollupsStand (c : Core) (p : Policy) (h : List Entry) (waits : Option Request) (r : Rollups) : Type 0 where
  pub now : AreKept c p h r.kept
  pub next : AreKept c p (h ++ entry_of waits) (entered r)

-- ---- how many cells they have

-- how many nonempty cells the cuboid at some levels has, and none where there are none
abbrev pub cells_at : Public → Option (List ℕ) → ℕ
cells_at g None = 0
cells_at g (Some levels) = length (cell_keys g levels)
