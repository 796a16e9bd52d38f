-- The cuboids that may be released before anything is asked.
use Rattle.std.specs.List.{list_all, list_any}
use Rattle.std.specs.Prelude.{◌⊎◌, ◌≤◌, None, ◌≡◌, ℕ, ◌<◌, Bool, true, not, ◌&&◌, List, [], length, filter}
use Rattle.cube_model.specs.declared.cell.Cell.{Cell}
use Rattle.cube_model.specs.declared.entry.Entry.{Entry}
use Rattle.cube_model.specs.declared.policy.Method.TheVariants.{Lattice}
use Rattle.cube_model.specs.declared.request.Request.{Request}
use Rattle.cube_model.specs.declared.verdict.Verdict.TheVariants.{Full, Answer}
use Rattle.cube_model.specs.Cubes.{cuboids, Public, World, IsWorld, same, is_finer, IsIn, are_levels}
use Rattle.cube_model.specs.Requests.{grain, asks}
use Rattle.cube_model.specs.Protection.{method, protected, is_cut}
use Rattle.cube_model.specs.Entries.{requests, on}
use Rattle.cube_model.specs.Verdicts.{source, most_held, verdict}

-- a first request on a measure, at or above a cuboid that cuts each protected cell, is answered unless the history is full
abbrev pub SafeIsAnswered : Type 0
SafeIsAnswered = (w : World) (h : List Entry) (r : Request) (m : ℕ) (c : List ℕ) → IsWorld w → method w.shown m ≡ Lattice → asks m r ≡ true → source h m ≡ None → ((t : Cell) → IsIn t (protected w.shown m) → is_cut w.shown c t ≡ true) → is_finer c (grain r) ≡ true → (verdict w.shown h r ≡ Answer true) ⊎ ((verdict w.shown h r ≡ Full (length (requests h))) × (most_held ≤ length (requests h)))

-- the cuboid cuts each protected cell
abbrev pub is_safe : Public → ℕ → List ℕ → Bool
is_safe g m c = list_all (is_cut g c) (protected g m)

abbrev pub safe : Public → ℕ → List (List ℕ)
safe g m = filter (is_safe g m) (cuboids g)

-- another one of these is finer
abbrev pub has_finer : List (List ℕ) → List ℕ → Bool
has_finer cs c = list_any (λ d. is_finer d c && not (same d c)) cs

-- The safe cuboids that no other safe one is finer than.
abbrev pub finest : Public → ℕ → List (List ℕ)
finest g m = filter (λ c. not (has_finer (safe g m) c)) (safe g m)

-- each listed cuboid cuts each protected cell; of two that can be compared both are one; each cuboid in range that cuts each protected cell is at or above a listed one
pub record AreFinest (g : Public) (m : ℕ) : Type 0 where
  pub in_range : (c : List ℕ) → IsIn c (finest g m) → are_levels g.dimensions c ≡ true
  pub cuts : (c : List ℕ) (t : Cell) → IsIn c (finest g m) → IsIn t (protected g m) → is_cut g c t ≡ true
  pub apart : (c d : List ℕ) → IsIn c (finest g m) → IsIn d (finest g m) → is_finer d c ≡ true → d ≡ c
  pub complete : (c : List ℕ) → are_levels g.dimensions c ≡ true → ((t : Cell) → IsIn t (protected g m) → is_cut g c t ≡ true) → (d : List ℕ) × (IsIn d (finest g m)) × (is_finer d c ≡ true)

abbrev pub FinestAre : Type 0
FinestAre = (g : Public) (m : ℕ) → AreFinest g m

-- a first request on the measure at or above a listed cuboid is answered, where the history has room
abbrev pub FinestAreAnswered : Type 0
FinestAreAnswered = (w : World) (h : List Entry) (r : Request) (m : ℕ) (c : List ℕ) → IsWorld w → method w.shown m ≡ Lattice → asks m r ≡ true → on m h ≡ [] → length (requests h) < most_held → IsIn c (finest w.shown m) → is_finer c (grain r) ≡ true → verdict w.shown h r ≡ Answer true
