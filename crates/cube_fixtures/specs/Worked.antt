-- The cubes of the tests.
use Rattle.std.specs.Prelude.{ℕ, List, [], ◌∷◌, codes, pos}
use Rattle.cube_model.specs.Cores.{Core}
use Rattle.cube_model.specs.Dims.{NamedDimension, NamedMeasure}

abbrev pub path : List ℕ → List ℕ → List (List ℕ)
path below above = below ∷ above ∷ []

-- the cities Lyon and Nice in the area South, Paris in the North
abbrev pub region : NamedDimension
region = record {
  name = codes "region";
  column = codes "city";
  levels = path (codes "city") (codes "area");
  paths = path (codes "Lyon") (codes "South") ∷ path (codes "Nice") (codes "South") ∷ path (codes "Paris") (codes "North") ∷ [];
}

-- two months of one quarter
abbrev pub time : NamedDimension
time = record {
  name = codes "time";
  column = codes "month";
  levels = path (codes "month") (codes "quarter");
  paths = path (codes "Jan") (codes "Q1") ∷ path (codes "Feb") (codes "Q1") ∷ [];
}

abbrev pub measure : List ℕ → NamedMeasure
measure name = record { name = name; column = name; decimals = 0 }

abbrev pub two : ℕ → ℕ → List ℕ
two a b = a ∷ b ∷ []

-- pay and hours; nobody works in Nice in February, and two people in Paris in February
abbrev pub pay_core : Core
pay_core = record {
  dims = record { dimensions = region ∷ time ∷ []; measures = measure (codes "pay") ∷ measure (codes "hours") ∷ [] };
  shape = record { points = two 0 0 ∷ two 0 1 ∷ two 1 0 ∷ two 2 0 ∷ two 2 1 ∷ []; facts = 1 ∷ 1 ∷ 1 ∷ 1 ∷ 2 ∷ [] };
  cube = (pos 10 ∷ pos 20 ∷ pos 30 ∷ pos 40 ∷ pos 50 ∷ []) ∷ (pos 1 ∷ pos 2 ∷ pos 3 ∷ pos 4 ∷ pos 5 ∷ []) ∷ [];
}

-- the same with one fact at each point
abbrev pub pay_cube : Core
pay_cube = record pay_core { shape = record { points = pay_core.shape.points; facts = 1 ∷ 1 ∷ 1 ∷ 1 ∷ 1 ∷ [] } }

-- the same dimensions with a fact at each city in each month
abbrev pub full_core : Core
full_core = record {
  dims = pay_core.dims;
  shape = record { points = two 0 0 ∷ two 0 1 ∷ two 1 0 ∷ two 1 1 ∷ two 2 0 ∷ two 2 1 ∷ []; facts = 1 ∷ 1 ∷ 1 ∷ 1 ∷ 1 ∷ 1 ∷ [] };
  cube = (pos 1 ∷ pos 2 ∷ pos 3 ∷ pos 4 ∷ pos 5 ∷ pos 6 ∷ []) ∷ (pos 0 ∷ pos 0 ∷ pos 0 ∷ pos 0 ∷ pos 0 ∷ pos 0 ∷ []) ∷ [];
}

-- five days in three parts
abbrev pub day : NamedDimension
day = record {
  name = codes "day";
  column = codes "day";
  levels = path (codes "day") (codes "part");
  paths = path (codes "Mo") (codes "A") ∷ path (codes "Tu") (codes "B") ∷ path (codes "We") (codes "B") ∷ path (codes "Th") (codes "C") ∷ path (codes "Fr") (codes "C") ∷ [];
}

-- facts in each city each day, but on Tuesday not in Nice, and on Wednesday in Nice alone: so few that those of both days are looked
-- for by day, where the days' places are not in order
abbrev pub day_core : Core
day_core = record {
  dims = record { dimensions = region ∷ day ∷ []; measures = measure (codes "pay") ∷ [] };
  shape = record {
    points = two 0 0 ∷ two 0 1 ∷ two 0 3 ∷ two 0 4 ∷ two 1 0 ∷ two 1 2 ∷ two 1 3 ∷ two 1 4 ∷ two 2 0 ∷ two 2 1 ∷ two 2 3 ∷ two 2 4 ∷ [];
    facts = 1 ∷ 1 ∷ 1 ∷ 1 ∷ 1 ∷ 1 ∷ 1 ∷ 1 ∷ 1 ∷ 1 ∷ 1 ∷ 1 ∷ [];
  };
  cube = (pos 1 ∷ pos 2 ∷ pos 4 ∷ pos 8 ∷ pos 16 ∷ pos 32 ∷ pos 64 ∷ pos 128 ∷ pos 256 ∷ pos 512 ∷ pos 1024 ∷ pos 2048 ∷ []) ∷ [];
}

-- one name on each path
abbrev pub alone : List ℕ → List (List ℕ)
alone name = name ∷ []

-- two rows and three columns, without levels above
abbrev pub row : NamedDimension
row = record {
  name = codes "row";
  column = codes "r";
  levels = alone (codes "r");
  paths = alone (codes "r0") ∷ alone (codes "r1") ∷ [];
}

abbrev pub column : NamedDimension
column = record {
  name = codes "col";
  column = codes "c";
  levels = alone (codes "c");
  paths = alone (codes "c0") ∷ alone (codes "c1") ∷ alone (codes "c2") ∷ [];
}

-- one measure over rows and columns, with a fact in some of the fields
abbrev pub some_fields : Core
some_fields = record {
  dims = record { dimensions = row ∷ column ∷ []; measures = measure (codes "v") ∷ [] };
  shape = record { points = two 0 1 ∷ two 1 0 ∷ two 1 2 ∷ []; facts = 1 ∷ 1 ∷ 1 ∷ [] };
  cube = (pos 7 ∷ pos 8 ∷ pos 9 ∷ []) ∷ [];
}

-- with a fact in each field
abbrev pub all_fields : Core
all_fields = record {
  dims = some_fields.dims;
  shape = record { points = two 0 0 ∷ two 0 1 ∷ two 0 2 ∷ two 1 0 ∷ two 1 1 ∷ two 1 2 ∷ []; facts = 1 ∷ 1 ∷ 1 ∷ 1 ∷ 1 ∷ 1 ∷ [] };
  cube = (pos 1 ∷ pos 2 ∷ pos 3 ∷ pos 4 ∷ pos 5 ∷ pos 6 ∷ []) ∷ [];
}
