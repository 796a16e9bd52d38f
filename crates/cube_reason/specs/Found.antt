-- A walk that is found.
use Rattle.std.specs.Prelude.{◌≡◌, ⊤, ℕ, ◌<◌, Bool, true, false, ◌&&◌, ◌||◌, ◌==◌, List, length, is_some, slice_index_or, slice_set, Option, Some, None}
use Rattle.cube_model.specs.declared.entry.Entry.{Entry}
use Rattle.cube_model.specs.declared.link.Link.{Link}
use Rattle.cube_model.specs.declared.link.Link.TheVariants.{Pair, Single}
use Rattle.cube_model.specs.declared.request.Request.{Request}
use Rattle.cube_model.specs.declared.verdict.Verdict.{Verdict}
use Rattle.cube_model.specs.declared.verdict.Verdict.TheVariants as verdicts
use Rattle.cube_model.specs.Cubes.{Public, IsIn}
use Rattle.cube_model.specs.Reasons as said
use Rattle.cube_model.specs.Reasons.{is_walk, are_blocks}
use Rattle.cube_model.specs.Requests.{grain}
use Rattle.cube_model.specs.Verdicts.{narrowed, source}
use Rattle.cube_model.specs.declared.cell.Cell.{Cell}
use Rattle.cube_reason.specs.declared.reasons.Reason.{Reason}
use Rattle.cube_reason.specs.declared.reasons.Reason.TheVariants.{Blocks, Walk}
use Rattle.cube_reason.specs.declared.searching.Visit.{Visit}
use Rattle.cube_reason.specs.declared.ties.Bringer.{Bringer}
use Rattle.cube_reason.specs.declared.ties.Tie.{Tie}
use Rattle.cube_reason.specs.Tied.{tied, bringer_view}
use Rattle.cube_reason.specs.Searched.{visit_at}
use Rattle.cube_reason.specs.Trails.{AreBack, AreJoined, LeadsTo}
use Rattle.cube_reason.specs.declared.reasons.WalkStep.{WalkStep}
use Rattle.cube_reason.specs.Views.{origin_view}
use Rattle.cube_reason.specs.declared.reasons.End.{End}

-- where the tie is a place alone, its bringer stands at the place
abbrev pub set_if : List (Option Bringer) → Link → Bringer → List (Option Bringer)
set_if singles (Pair i j) b = singles
set_if singles (Single i) b = slice_set singles i (Some b)

abbrev pub set_single : List (Option Bringer) → Tie → List (Option Bringer)
set_single singles t = set_if singles t.link t.by

-- for each of so many places where it comes from as a place alone
pub record AreSingles (n : ℕ) (ties : List Tie) (singles : List (Option Bringer)) : Type 0 where
  pub long : length singles ≡ n
  pub sound : (a : ℕ) (b : Bringer) → a < n → slice_index_or singles a None ≡ Some b → IsIn (tied (Single a) b) ties
  pub complete : (a : ℕ) (b : Bringer) → IsIn (tied (Single a) b) ties → is_some (slice_index_or singles a None) ≡ true

-- a walk to the visit ends there
abbrev pub is_last : ℕ → List (Option Bringer) → Visit → Bool
is_last start singles v = (v.odd && v.place == start) || is_some (slice_index_or singles v.place None)

-- an end at a place alone
pub record EndsAlone (singles : List (Option Bringer)) (v : Visit) (e : End) : Type 0 where
  pub place : e.place ≡ v.place
  pub bringer : Bringer
  pub alone : slice_index_or singles v.place None ≡ Some bringer
  pub by : origin_view e.by ≡ bringer_view bringer

-- where a walk to the visit ends
abbrev pub EndsAt : ℕ → List (Option Bringer) → Visit → Option End → Type 0
EndsAt start singles v None = (v.odd ≡ true) × (v.place ≡ start)
EndsAt start singles v (Some e) = EndsAlone singles v e

-- there is a walk from the place
pub record HasWalk (g : Public) (h : List Entry) (r : Request) (m place : ℕ) : Type 0 where
  pub steps : List said.WalkStep
  pub end : Option said.End
  pub is : is_walk g h r m place steps end ≡ true

-- the verdict refuses the request for what it would give away
abbrev pub Refuses : Verdict → Type 0
Refuses (verdicts.Answer fresh) = ⊥
Refuses (verdicts.Full held) = ⊥
Refuses (verdicts.SourceWould levels cell) = ⊤
Refuses (verdicts.Pair k i j t) = ⊤
Refuses (verdicts.Single k i t) = ⊤

-- the reason is about the cell or the place of the verdict
abbrev pub IsAbout : Verdict → Reason → Type 0
IsAbout (verdicts.Answer fresh) x = ⊥
IsAbout (verdicts.Full held) x = ⊥
IsAbout (verdicts.SourceWould levels cell) (Blocks t blocks) = t ≡ cell
IsAbout (verdicts.SourceWould levels cell) (Walk place steps end) = ⊥
IsAbout (verdicts.Pair k i j t) (Blocks cell blocks) = ⊥
IsAbout (verdicts.Pair k i j t) (Walk place steps end) = place ≡ t
IsAbout (verdicts.Single k i t) (Blocks cell blocks) = ⊥
IsAbout (verdicts.Single k i t) (Walk place steps end) = place ≡ t

-- cells of the cuboid that the source would become make up the cell
pub record HasBlocks (g : Public) (h : List Entry) (r : Request) (m : ℕ) (t : Cell) : Type 0 where
  pub blocks : List Cell
  pub is : are_blocks g m (narrowed (source h m) (grain r)) t blocks ≡ true

-- the source would not cut this cell
abbrev pub WouldSource : Verdict → Cell → Type 0
WouldSource (verdicts.Answer fresh) s = ⊥
WouldSource (verdicts.Full held) s = ⊥
WouldSource (verdicts.SourceWould levels cell) s = cell ≡ s
WouldSource (verdicts.Pair k i j t) s = ⊥
WouldSource (verdicts.Single k i t) s = ⊥

-- a link would fix this place
abbrev pub Fixes : Verdict → ℕ → Type 0
Fixes (verdicts.Answer fresh) p = ⊥
Fixes (verdicts.Full held) p = ⊥
Fixes (verdicts.SourceWould levels cell) p = ⊥
Fixes (verdicts.Pair k i j t) p = t ≡ p
Fixes (verdicts.Single k i t) p = t ≡ p

-- a walk to one of the visits ends
pub record CanWalk (visits : List Visit) (singles : List (Option Bringer)) (start : ℕ) : Type 0 where
  pub below : (k : ℕ) → k < length visits → (visit_at visits k).place < length singles
  pub back : AreBack visits
  pub some : ((k : ℕ) → k < length visits → is_last start singles (visit_at visits k) ≡ false) → ⊥

-- the steps lead to a visit where the walk ends
pub record WalksTo (visits : List Visit) (singles : List (Option Bringer)) (start : ℕ) (steps : List WalkStep) (e : Option End) : Type 0 where
  pub number : ℕ
  pub below : number < length visits
  pub leads : (named : said.Origin → List Link) → AreJoined named visits → LeadsTo named visits number steps
  pub ends : EndsAt start singles (visit_at visits number) e
