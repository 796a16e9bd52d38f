-- How many values of the cube an ask reads.
use Rattle.std.specs.Prelude.{◌≡◌, ℕ, ◌+◌, ◌≤◌, false, true, List, slice_index_or, Option, None, Ok}
use Rattle.cube_model.specs.declared.ask.Question.{Question}
use Rattle.cube_model.specs.declared.ask.Question.TheVariants.{Query, Witness, Shape}
use Rattle.cube_model.specs.declared.entry.Entry.{Entry}
use Rattle.cube_model.specs.declared.policy.Method.TheVariants.{Lattice}
use Rattle.cube_model.specs.declared.request.Request.{Request}
use Rattle.cube_model.specs.declared.request.What.{What}
use Rattle.cube_model.specs.declared.request.What.TheVariants.{Count, Measure}
use Rattle.cube_model.specs.declared.verdict.Verdict.TheVariants.{Answer}
use Rattle.cube_model.specs.Cores.{Core}
use Rattle.cube_model.specs.Cubes.{Public, is_finer}
use Rattle.cube_model.specs.Dims.{Dims}
use Rattle.cube_model.specs.Protection.{method}
use Rattle.cube_model.specs.Requests.{asks, grain}
use Rattle.cube_model.specs.Verdicts.{source, verdict}
use Rattle.cube_query.specs.Faults.{request_of}
use Rattle.cube_rollup.specs.Cuboids.{Cuboid, IsCuboidOf}
use Rattle.cube_rollup.specs.Rollups.{Rollups, entered, cells_at}

-- A request on a lattice measure that is answered and adds nothing to the history reads at most as many values as the source
-- cuboid of the measure has nonempty cells.
abbrev pub ReadsFew : Public → List Entry → Request → ℕ → ℕ → Type 0
ReadsFew g h r before after = (m : ℕ) → asks m r ≡ true → method g m ≡ Lattice → verdict g h r ≡ Answer false → after ≤ before + cells_at g (source h m)

-- So does a query that is read as one. A question for changes or for the shape reads no value.
abbrev pub AskReadsFew : Dims → Public → List Entry → Question → ℕ → ℕ → Type 0
AskReadsFew s g h (Query text) before after = (r : Request) → request_of s text ≡ Ok r → ReadsFew g h r before after
AskReadsFew s g h (Witness text) before after = after ≡ before
AskReadsFew s g h Shape before after = after ≡ before

-- ---- the cuboid that a request is answered from

-- the one of its measure, where there is one
abbrev pub cuboid_of : Rollups → What → Option Cuboid
cuboid_of r Count = None
cuboid_of r (Measure m) = slice_index_or (entered r) m None

-- it is a cuboid of the core, for the request's measure and at least as fine as its grain
pub record IsFineEnough (c : Core) (r : Request) (k : Cuboid) : Type 0 where
  pub stands : IsCuboidOf c k
  pub measure : asks k.measure r ≡ true
  pub finer : is_finer k.levels (grain r) ≡ true
