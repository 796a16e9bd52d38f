-- Even boxes on a full core.
use Rattle.std.specs.Prelude.{◌≡◌, ℕ, ◌<◌, ◌≤◌, ◌⊎◌, ◌%◌, Bool, true, false, List, [], ◌∷◌, ◌++◌, length, filter, ⊤, Option}
use Rattle.cube_model.specs.declared.entry.Entry.{Entry}
use Rattle.cube_model.specs.declared.entry.Entry.TheVariants.{Asked, Source, Linked}
use Rattle.cube_model.specs.declared.policy.Method.TheVariants.{Parity}
use Rattle.cube_model.specs.declared.request.Pick.{Pick}
use Rattle.cube_model.specs.declared.request.Request.{Request}
use Rattle.cube_model.specs.declared.verdict.Verdict.TheVariants.{Answer, Full}
use Rattle.cube_model.specs.Cubes.{Dimension, Public, World, IsWorld, places, count_from, IsIn, Each, IsPoint}
use Rattle.cube_model.specs.Requests.{in_pick, is_picked, asks, is_valid, is_grouped}
use Rattle.cube_model.specs.Protection.{method}
use Rattle.cube_model.specs.Links.{links, is_free}
use Rattle.cube_model.specs.Entries.{requests, on}
use Rattle.cube_model.specs.Verdicts.{links_of, most_held, verdict}

-- every leaf vector is a point
abbrev pub IsFull : Public → Type 0
IsFull g = (x : List ℕ) → IsPoint g.dimensions x → IsIn x g.shape.points

-- the leaves that a pick takes
abbrev pub leaves_of : Dimension → Option Pick → List ℕ
leaves_of d p = filter (in_pick d p) (count_from 0 (length d.paths))

-- in each dimension they have consecutive numbers
abbrev pub AreConsecutive : List Dimension → List (Option Pick) → Type 0
AreConsecutive [] ps = ⊤
AreConsecutive (d ∷ ds) [] = ⊥
AreConsecutive (d ∷ ds) (p ∷ ps) = ((start : ℕ) × (many : ℕ) × (leaves_of d p ≡ count_from start many)) × AreConsecutive ds ps

-- A valid request that groups by no named level, picks consecutive leaves in each dimension, and has an even number of places, not 0.
pub record IsEvenBox (g : Public) (r : Request) : Type 0 where
  pub valid : is_valid g r ≡ true
  pub ungrouped : is_grouped g.dimensions r.group ≡ false
  pub consecutive : AreConsecutive g.dimensions r.picks
  pub even : length (filter (is_picked g r) (places g)) % 2 ≡ 0
  pub some : 0 < length (filter (is_picked g r) (places g))

-- the entry is a request, and an even box
abbrev pub IsBoxEntry : Public → Entry → Type 0
IsBoxEntry g (Asked r) = IsEvenBox g r
IsBoxEntry g (Source m c) = ⊥
IsBoxEntry g (Linked m l) = ⊥

-- each place is free from the links of even boxes
abbrev pub EvenBoxesLeaveFree : Type 0
EvenBoxesLeaveFree = (w : World) (h : List Entry) (r : Request) (m i : ℕ) → IsWorld w → IsFull w.shown → Each (IsBoxEntry w.shown) (on m h) → IsEvenBox w.shown r → i < length w.shown.shape.points → is_free (length w.shown.shape.points) (links_of w.shown h m ++ links w.shown r) i ≡ true

-- a further even box is answered, unless the history is full
abbrev pub EvenBoxesAreAnswered : Type 0
EvenBoxesAreAnswered = (w : World) (h : List Entry) (r : Request) (m : ℕ) → IsWorld w → method w.shown m ≡ Parity → IsFull w.shown → Each (IsBoxEntry w.shown) (on m h) → IsEvenBox w.shown r → asks m r ≡ true → ((fresh : Bool) × (verdict w.shown h r ≡ Answer fresh)) ⊎ ((verdict w.shown h r ≡ Full (length (requests h))) × (most_held ≤ length (requests h)))
