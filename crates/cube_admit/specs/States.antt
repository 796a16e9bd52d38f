-- A state: the history, a request that waits to enter it, what is kept of each measure, and the sources that were judged.
use Rattle.std.specs.Prelude.{◌≡◌, ℕ, ◌<◌, List, [], ◌∷◌, ◌++◌, length, take, slice_index_or, Option, Some, None, true, ⊤, if◌then◌else◌}
use Rattle.std.specs.Option.{option_map}
use Rattle.cube_model.specs.declared.entry.Entry.{Entry}
use Rattle.cube_model.specs.declared.entry.Entry.TheVariants.{Asked}
use Rattle.cube_model.specs.declared.policy.Method.{Method}
use Rattle.cube_model.specs.declared.policy.Method.TheVariants.{Plain, Lattice, Parity}
use Rattle.cube_model.specs.declared.request.Request.{Request}
use Rattle.cube_model.specs.declared.verdict.Verdict.{Verdict}
use Rattle.cube_model.specs.declared.verdict.Verdict.TheVariants.{Answer, Full, SourceWould, Pair, Single}
use Rattle.cube_model.specs.Cubes.{Public, Each, cuboid_count}
use Rattle.cube_model.specs.Requests.{asks}
use Rattle.cube_model.specs.Protection.{method, guarded}
use Rattle.cube_model.specs.Links.{basis}
use Rattle.cube_model.specs.declared.link.Link.{Link}
use Rattle.cube_colour.specs.Colourings.{Colouring}
use Rattle.cube_source.specs.Tables.{Table, IsFound}
use Rattle.cube_model.specs.Verdicts.{source, links_of, IsAdmissible}
use Rattle.cube_admit.specs.declared.held.Held.{Held}
use Rattle.cube_admit.specs.declared.held.Held.TheVariants as held
use Rattle.cube_admit.specs.declared.held.Next.{Next}
use Rattle.cube_admit.specs.declared.held.Next.TheVariants as next
use Rattle.cube_admit.specs.declared.held.Pending.{Pending}

pub record State : Type 0 where
  pub history : List Entry
  pub pending : Option Pending
  pub held : List Held
  pub table : Table

-- the request that waits, if any
abbrev pub waiting : State → Option Request
waiting s = option_map (λ p. p.request) s.pending

abbrev pub entry_of : Option Pending → List Entry
entry_of None = []
entry_of (Some p) = Asked p.request ∷ []

-- the history with the request that waits behind it
abbrev pub whole : State → List Entry
whole s = s.history ++ entry_of s.pending

-- the source that is kept, if any
abbrev pub source_in : Held → Option (List ℕ)
source_in held.Open = None
source_in (held.Source c) = c
source_in (held.Links c) = None

-- the colouring that is kept, if any
abbrev pub colouring_in : Held → Option Colouring
colouring_in held.Open = None
colouring_in (held.Source c) = None
colouring_in (held.Links c) = Some c

-- the colouring by some links of a measure
abbrev pub coloured : Public → ℕ → List Link → Colouring
coloured g m ls = record { places = length g.shape.points; guarded = guarded g m; kept = basis (length g.shape.points) ls }

-- what is kept of a measure at first
abbrev pub started : Public → Method → ℕ → Held
started g Plain m = held.Open
started g Lattice m = held.Source None
started g Parity m = held.Links (coloured g m [])

-- what is kept of it behind a request
abbrev pub entered : Next → Held → Held
entered (next.Source c) k = held.Source (Some c)
entered (next.Mark n) k = k

-- what is kept of it where the request goes
abbrev pub given_back : Next → Held → Held
given_back (next.Source c) k = k
given_back (next.Mark n) held.Open = held.Open
given_back (next.Mark n) (held.Source c) = held.Source c
given_back (next.Mark n) (held.Links c) = held.Links (record c { kept = take n c.kept })

-- What is kept of a measure is what the history holds of it; of a parity measure, what the history with the request that waits holds.
abbrev pub IsHeldBy : Method → Public → List Entry → List Entry → ℕ → Held → Type 0
IsHeldBy Plain g h k m held.Open = ⊤
IsHeldBy Plain g h k m (held.Source c) = ⊥
IsHeldBy Plain g h k m (held.Links c) = ⊥
IsHeldBy Lattice g h k m held.Open = ⊥
IsHeldBy Lattice g h k m (held.Source c) = c ≡ source h m
IsHeldBy Lattice g h k m (held.Links c) = ⊥
IsHeldBy Parity g h k m held.Open = ⊥
IsHeldBy Parity g h k m (held.Source c) = ⊥
IsHeldBy Parity g h k m (held.Links c) = c ≡ coloured g m (links_of g k m)

-- what becomes of a measure is what the history with the request holds of it, or how many links were kept before
abbrev pub IsNextBy : Method → Public → List Entry → List Entry → ℕ → Next → Type 0
IsNextBy Plain g h k m n = ⊥
IsNextBy Lattice g h k m (next.Source c) = Some c ≡ source k m
IsNextBy Lattice g h k m (next.Mark n) = ⊥
IsNextBy Parity g h k m (next.Source c) = ⊥
IsNextBy Parity g h k m (next.Mark n) = n ≡ length (basis (length g.shape.points) (links_of g h m))

abbrev pub IsReady : Public → State → Option Pending → Type 0
IsReady g s None = ⊤
IsReady g s (Some p) = (asks p.measure p.request ≡ true) × IsNextBy (method g p.measure) g s.history (whole s) p.measure p.next

-- A table is of what is public: it has a slot for each cuboid of each measure, and each verdict that it keeps is that on its cuboid.
pub record IsTableOf (g : Public) (t : Table) : Type 0 where
  pub measures : t.measures ≡ length g.policy.methods
  pub cuboids : t.cuboids ≡ cuboid_count g.dimensions
  pub found : Each (IsFound g) t.found

-- A state is that of what is public: its history is admissible, also with the request that waits; what it keeps of each measure
-- is that of the history, and what it will keep that of both; and its table is of what is public.
pub record IsStateOf (g : Public) (s : State) : Type 0 where
  pub admissible : IsAdmissible g (whole s)
  pub long : length s.held ≡ length g.policy.methods
  pub held : (m : ℕ) → m < length s.held → IsHeldBy (method g m) g s.history (whole s) m (slice_index_or s.held m held.Open)
  pub ready : IsReady g s s.pending
  pub table : IsTableOf g s.table

-- the request waits exactly where its answer is fresh
abbrev pub waits_by : Verdict → Pending → Option Pending
waits_by (Answer fresh) p = if fresh then Some p else None
waits_by (Full n) p = None
waits_by (SourceWould c t) p = None
waits_by (Pair k i j t) p = None
waits_by (Single k i t) p = None

abbrev pub waits_for : Verdict → Request → Option Request
waits_for (Answer fresh) r = if fresh then Some r else None
waits_for (Full n) r = None
waits_for (SourceWould c t) r = None
waits_for (Pair k i j t) r = None
waits_for (Single k i t) r = None
