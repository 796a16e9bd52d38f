-- What the finest open cuboids are, and what they say of the requests that are answered.
use Rattle.std.specs.Prelude.{◌≡◌, ◌↔◌, ℕ, ◌<◌, Bool, true, List, length, None}
use Rattle.cube_model.specs.declared.entry.Entry.{Entry}
use Rattle.cube_model.specs.declared.policy.Method.TheVariants.{Lattice}
use Rattle.cube_model.specs.declared.request.Request.{Request}
use Rattle.cube_model.specs.declared.verdict.Verdict.{Verdict}
use Rattle.cube_model.specs.declared.verdict.Verdict.TheVariants.{Answer}
use Rattle.cube_model.specs.Cubes.{Public, World, IsWorld, is_finer, IsIn, are_levels}
use Rattle.cube_model.specs.Requests.{grain, asks, is_valid}
use Rattle.cube_model.specs.Protection.{method}
use Rattle.cube_model.specs.Entries.{requests}
use Rattle.cube_model.specs.Verdicts.{source, most_held, verdict, IsAdmissible}
use Rattle.cube_model.specs.Safe.{finest}
use Rattle.cube_advise.specs.Open.{is_open, finest_open}

-- each listed cuboid is open; of two that can be compared both are one; each open cuboid is at or above a listed one
pub record AreFinestOpen (g : Public) (h : List Entry) (m : ℕ) : Type 0 where
  pub in_range : (c : List ℕ) → IsIn c (finest_open g h m) → are_levels g.dimensions c ≡ true
  pub are_open : (c : List ℕ) → IsIn c (finest_open g h m) → is_open g h m c ≡ true
  pub apart : (c d : List ℕ) → IsIn c (finest_open g h m) → IsIn d (finest_open g h m) → is_finer d c ≡ true → d ≡ c
  pub complete : (c : List ℕ) → are_levels g.dimensions c ≡ true → is_open g h m c ≡ true → (d : List ℕ) × (IsIn d (finest_open g h m)) × (is_finer d c ≡ true)

abbrev pub FinestOpenAre : Type 0
FinestOpenAre = (g : Public) (h : List Entry) (m : ℕ) → AreFinestOpen g h m

-- where the history has no source of the measure, these are the finest safe cuboids
abbrev pub FinestOpenAtFirst : Type 0
FinestOpenAtFirst = (g : Public) (h : List Entry) (m : ℕ) → source h m ≡ None → finest_open g h m ≡ finest g m

-- a cuboid at or below the levels is listed
abbrev pub IsAbove : List ℕ → List (List ℕ) → Type 0
IsAbove c listed = (d : List ℕ) × (IsIn d listed) × (is_finer d c ≡ true)

-- the verdict is an answer, fresh or not
abbrev pub IsAnswered : Verdict → Type 0
IsAnswered v = (fresh : Bool) × (v ≡ Answer fresh)

-- A valid request on a lattice measure, behind an admissible history that is not full, is answered exactly where its grain is
-- coarser than or equal to a listed cuboid.
abbrev pub FinestOpenAreAnswered : Type 0
FinestOpenAreAnswered = (w : World) (h : List Entry) (r : Request) (m : ℕ) → IsWorld w → method w.shown m ≡ Lattice → IsAdmissible w.shown h → is_valid w.shown r ≡ true → asks m r ≡ true → length (requests h) < most_held → IsAnswered (verdict w.shown h r) ↔ IsAbove (grain r) (finest_open w.shown h m)
