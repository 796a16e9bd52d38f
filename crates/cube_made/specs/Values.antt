-- What the made dimension file and the made policy say, and what the made facts and queries are.
use Rattle.std.specs.Prelude.{ℕ, ◌+◌, ◌*◌, ◌/◌, ◌%◌, List, [], ◌∷◌, map, codes, None}
use Rattle.cube_model.specs.Cubes.{count_from}
use Rattle.cube_model.specs.Dims.{NamedDimension, NamedMeasure, Dims}
use Rattle.cube_model.specs.declared.policy.Method.TheVariants.{Plain, Lattice, Parity}
use Rattle.cube_model.specs.declared.policy.Policy.{Policy}
use Rattle.cube_gen.specs.Made.{numbered}

-- ---- dimensions

-- branch k and its region
abbrev pub branch_path : ℕ → ℕ → List (List ℕ)
branch_path s k = numbered (codes "b") k ∷ numbered (codes "r") (k % (5 * s)) ∷ []

-- a month and its quarter, both counted from 1
abbrev pub month_path : ℕ → List (List ℕ)
month_path k = numbered (codes "m") (k + 1) ∷ numbered (codes "q") (k / 3 + 1) ∷ []

abbrev pub grade_path : ℕ → List (List ℕ)
grade_path k = numbered (codes "g") k ∷ []

-- 40 branches in regions of 8 for each unit of size
abbrev pub branch : ℕ → NamedDimension
branch s = record {
  name = codes "branch";
  column = codes "branch";
  levels = codes "branch" ∷ codes "region" ∷ [];
  paths = map (branch_path s) (count_from 0 (40 * s));
}

abbrev pub month : NamedDimension
month = record {
  name = codes "month";
  column = codes "month";
  levels = codes "month" ∷ codes "quarter" ∷ [];
  paths = map month_path (count_from 0 12);
}

abbrev pub grade : NamedDimension
grade = record {
  name = codes "grade";
  column = codes "grade";
  levels = codes "grade" ∷ [];
  paths = map grade_path (count_from 0 6);
}

abbrev pub measure : List ℕ → ℕ → NamedMeasure
measure name decimals = record { name = name; column = name; decimals = decimals }

-- the dimensions and measures of size s
abbrev pub dims_said : ℕ → Dims
dims_said s = record {
  dimensions = branch s ∷ month ∷ grade ∷ [];
  measures = measure (codes "pay") 2 ∷ measure (codes "hours") 0 ∷ measure (codes "bonus") 0 ∷ [];
}

-- ---- the policy

-- pay is protected in each branch, month and grade where the grade is g5; hours are under the parity rule
abbrev pub policy_said : Policy
policy_said = record {
  methods = Lattice ∷ Parity ∷ Plain ∷ [];
  objects = record { measure = 0; levels = 0 ∷ 0 ∷ 0 ∷ []; slice = record { dimension = 2; level = 0; members = 5 ∷ [] } ∷ []; fewer = None } ∷ [];
}
