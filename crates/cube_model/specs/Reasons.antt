-- Reasons for a refusal, which can be checked without judging the request again.
use Rattle.std.specs.List.{list_all, list_any}
use Rattle.std.specs.Prelude.{◌≡◌, ℕ, zero, suc, Bool, true, false, not, ◌&&◌, ◌||◌, ◌==◌, List, [], ◌∷◌, map, is_some, if◌then◌else◌, Option, Some, None}
use Rattle.cube_model.specs.declared.cell.Cell.{Cell}
use Rattle.cube_model.specs.declared.entry.Entry.{Entry}
use Rattle.cube_model.specs.declared.link.Link.{Link}
use Rattle.cube_model.specs.declared.link.Link.TheVariants.{Pair, Single}
use Rattle.cube_model.specs.declared.policy.Method.{Method}
use Rattle.cube_model.specs.declared.policy.Method.TheVariants.{Plain, Lattice, Parity}
use Rattle.cube_model.specs.declared.request.Request.{Request}
use Rattle.cube_model.specs.declared.request.What.{What}
use Rattle.cube_model.specs.declared.request.What.TheVariants.{Count, Measure}
use Rattle.cube_model.specs.declared.verdict.Verdict.TheVariants.{Answer, SourceWould}
use Rattle.cube_model.specs.Cubes.{Public, same, before, in_order, key_at, places, covers, covered}
use Rattle.cube_model.specs.Requests.{grain}
use Rattle.cube_model.specs.Protection.{method, listed, guarded, protected, same_cell, first}
use Rattle.cube_model.specs.Links.{links}
use Rattle.cube_model.specs.Entries.{is_on, links_in}
use Rattle.cube_model.specs.Verdicts.{source, narrowed, fixes, verdict, IsAdmissible}

-- where a link comes from: an entry of the history, or the request itself, each numbered from 1
pub data Origin : Type 0 where
  By : (entry : ℕ) → Origin
  Own : (link : ℕ) → Origin

pub record WalkStep : Type 0 where
  pub from : ℕ
  pub to : ℕ
  pub by : Origin

pub record End : Type 0 where
  pub place : ℕ
  pub by : Origin

-- Blocks that make up a protected cell, or a walk from a guarded place that comes back at odd length or ends at a single.
pub data Reason : Type 0 where
  Blocks : (cell : Cell) (blocks : List Cell) → Reason
  Walk : (place : ℕ) (steps : List WalkStep) (end : Option End) → Reason

-- both or none
abbrev pub agree : Bool → Bool → Bool
agree true b = b
agree false b = not b

-- each key comes before all later ones
abbrev pub are_rising : List (List ℕ) → Bool
are_rising [] = true
are_rising (k ∷ ks) = list_all (before k) ks && are_rising ks

-- a cell of the cuboid that covers a place
abbrev pub is_block : Public → List ℕ → Cell → Bool
is_block g c b = same b.levels c && is_some (first (covered g b))

-- cells of the cuboid by key, which cover just the places of a protected cell
abbrev pub are_blocks : Public → ℕ → List ℕ → Cell → List Cell → Bool
are_blocks g m c t blocks =
    list_any (same_cell t) (protected g m)
    && list_all (is_block g c) blocks
    && are_rising (map (λ b. b.key) blocks)
    && list_all (λ i. agree (covers g t i) (list_any (λ b. covers g b i) blocks)) (places g)

-- the element with the number, from 1 on
abbrev pub numbered : {X : Type 0} → ℕ → List X → Option X
numbered zero xs = None
numbered (suc n) [] = None
numbered (suc zero) (x ∷ xs) = Some x
numbered (suc (suc n)) (x ∷ xs) = numbered (suc n) xs

-- the links of an entry on the measure
abbrev pub links_on : Public → ℕ → Option Entry → List Link
links_on g m None = []
links_on g m (Some e) = if is_on m e then links_in g e else []

abbrev pub at_most_one : {X : Type 0} → Option X → List X
at_most_one None = []
at_most_one (Some x) = x ∷ []

-- the links that an origin names
abbrev pub links_by : Public → List Entry → Request → ℕ → Origin → List Link
links_by g h r m (By n) = links_on g m (numbered n h)
links_by g h r m (Own k) = at_most_one (numbered k (links g r))

-- the link is a pair of the two places, in either order
abbrev pub joins : ℕ → ℕ → Link → Bool
joins a b (Pair i j) = (i == a && j == b) || (i == b && j == a)
joins a b (Single i) = false

-- the link is the place alone
abbrev pub is_at : ℕ → Link → Bool
is_at a (Pair i j) = false
is_at a (Single i) = i == a

-- each step is a pair that its origin names, and goes on where the last one ended
abbrev pub are_steps : (Origin → List Link) → ℕ → List WalkStep → Bool
are_steps named from [] = true
are_steps named from (s ∷ steps) = s.from == from && list_any (joins s.from s.to) (named s.by) && are_steps named s.to steps

-- where the steps lead
abbrev pub led_to : ℕ → List WalkStep → ℕ
led_to from [] = from
led_to from (s ∷ steps) = led_to s.to steps

abbrev pub is_odd : List WalkStep → Bool
is_odd [] = false
is_odd (s ∷ steps) = not (is_odd steps)

-- the steps come back at odd length, or lead to a single that its origin names
abbrev pub is_end : (Origin → List Link) → ℕ → List WalkStep → Option End → Bool
is_end named place steps None = is_odd steps && led_to place steps == place
is_end named place steps (Some e) = e.place == led_to place steps && list_any (is_at e.place) (named e.by)

abbrev pub is_walk : Public → List Entry → Request → ℕ → ℕ → List WalkStep → Option End → Bool
is_walk g h r m place steps e =
    listed place (guarded g m)
    && are_steps (links_by g h r m) place steps
    && is_end (links_by g h r m) place steps e

-- blocks of the source that the request would leave, on a lattice measure; a walk on a parity measure
abbrev pub is_reason_by : Method → Public → List Entry → Request → ℕ → Reason → Bool
is_reason_by Plain g h r m x = false
is_reason_by Lattice g h r m (Blocks t blocks) = are_blocks g m (narrowed (source h m) (grain r)) t blocks
is_reason_by Lattice g h r m (Walk place steps e) = false
is_reason_by Parity g h r m (Blocks t blocks) = false
is_reason_by Parity g h r m (Walk place steps e) = is_walk g h r m place steps e

abbrev pub is_reason_on : What → Public → List Entry → Request → Reason → Bool
is_reason_on Count g h r x = false
is_reason_on (Measure m) g h r x = is_reason_by (method g m) g h r m x

-- The reason shows why the request may not be answered.
abbrev pub is_reason : Public → List Entry → Request → Reason → Bool
is_reason g h r x = is_reason_on r.what g h r x

-- what has a reason is not answered
abbrev pub ReasonRefuses : Type 0
ReasonRefuses = (g : Public) (h : List Entry) (r : Request) (x : Reason) (fresh : Bool) → IsAdmissible g h → is_reason g h r x ≡ true → verdict g h r ≡ Answer fresh → ⊥

-- the cells of a cuboid that cover a place of the cell, by key
abbrev pub blocks_of : Public → List ℕ → Cell → List Cell
blocks_of g c t = map (λ key. record { levels = c; key = key }) (in_order (map (key_at g c) (covered g t)))

-- each refusal other than for want of room has a reason with its cell or place
pub record RefusalHasReason (g : Public) (h : List Entry) (r : Request) : Type 0 where
  pub by_blocks : (c : List ℕ) (t : Cell) → verdict g h r ≡ SourceWould c t → is_reason g h r (Blocks t (blocks_of g c t)) ≡ true
  pub by_walk : (k : ℕ) (l : Link) (i : ℕ) → verdict g h r ≡ fixes k l i → (steps : List WalkStep) × (e : Option End) × (is_reason g h r (Walk i steps e) ≡ true)

abbrev pub RefusalsHaveReasons : Type 0
RefusalsHaveReasons = (g : Public) (h : List Entry) (r : Request) → IsAdmissible g h → RefusalHasReason g h r
