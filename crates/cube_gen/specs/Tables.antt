-- The texts of the made dimension file and of the made policy. The first is laid out as TOML tables are printed: keys in the
-- order of their bytes, and each item of an array of two or more on lines of its own.
use Rattle.std.specs.List.{flat_map}
use Rattle.std.specs.Prelude.{ℕ, ◌*◌, ◌%◌, List, ◌++◌, codes}
use Rattle.cube_model.specs.Cubes.{count_from}
use Rattle.cube_gen.specs.Made.{numbered}

-- the path of a branch in a cube of size s: the branch and its region
abbrev pub branch_path : ℕ → ℕ → List ℕ
branch_path s k = numbered (codes "\n    [\n    \"b") k ++ numbered (codes "\",\n    \"r") (k % (5 * s)) ++ codes "\",\n],"

-- what stands before the branches
abbrev pub branches_head : List ℕ
branches_head = codes "[[dimension]]\nlevels = [\n    \"branch\",\n    \"region\",\n]\nname = \"branch\"\npaths = ["

-- what stands behind the branches: months in quarters, grades, and the measures
unfoldable pub other_tables : List ℕ
other_tables = codes "\n]\n\n[[dimension]]\nlevels = [\n    \"month\",\n    \"quarter\",\n]\nname = \"month\"\npaths = [\n    [\n    \"m1\",\n    \"q1\",\n],\n    [\n    \"m2\",\n    \"q1\",\n],\n    [\n    \"m3\",\n    \"q1\",\n],\n    [\n    \"m4\",\n    \"q2\",\n],\n    [\n    \"m5\",\n    \"q2\",\n],\n    [\n    \"m6\",\n    \"q2\",\n],\n    [\n    \"m7\",\n    \"q3\",\n],\n    [\n    \"m8\",\n    \"q3\",\n],\n    [\n    \"m9\",\n    \"q3\",\n],\n    [\n    \"m10\",\n    \"q4\",\n],\n    [\n    \"m11\",\n    \"q4\",\n],\n    [\n    \"m12\",\n    \"q4\",\n],\n]\n\n[[dimension]]\nlevels = [\"grade\"]\nname = \"grade\"\npaths = [\n    [\"g0\"],\n    [\"g1\"],\n    [\"g2\"],\n    [\"g3\"],\n    [\"g4\"],\n    [\"g5\"],\n]\n\n[[measure]]\ndecimals = 2\nname = \"pay\"\n\n[[measure]]\nname = \"hours\"\n\n[[measure]]\nname = \"bonus\"\n"

-- the dimension file of size s: branches in regions, months in quarters, grades; pay with two decimals, hours and bonus
unfoldable pub made_dims : ℕ → List ℕ
made_dims s = branches_head ++ flat_map (branch_path s) (count_from 0 (40 * s)) ++ other_tables

-- the policy: pay is protected in each branch, month and grade where the grade is g5; hours are under the parity rule
unfoldable pub made_policy : List ℕ
made_policy = codes "[[measure]]\nname = \"pay\"\nmethod = \"lattice\"\n\n[[measure]]\nname = \"hours\"\nmethod = \"parity\"\n\n[[measure]]\nname = \"bonus\"\nmethod = \"open\"\n\n[[object]]\nmeasure = \"pay\"\nbelow = { branch = \"branch\", month = \"month\", grade = \"grade\" }\nslice = { grade = { level = \"grade\", members = [\"g5\"] } }\n"
