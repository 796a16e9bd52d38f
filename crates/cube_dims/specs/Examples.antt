-- The pay cube's dimensions, and what is said of a file.
use Rattle.std.specs.Prelude.{ℕ, List, [], ◌∷◌, codes, Result, Ok, Err}
use Rattle.cube_model.specs.Dims.{NamedDimension, NamedMeasure, Dims}
use Rattle.cube_dims.specs.DimsFile.{dims_of}
use Rattle.cube_dims.specs.Words.{fault_words}
use Rattle.cube_dims.specs.declared.fault.DimsFault.{DimsFault}

abbrev pub path : List ℕ → List ℕ → List (List ℕ)
path below above = below ∷ above ∷ []

abbrev pub region : NamedDimension
region = record {
  name = codes "region";
  column = codes "city";
  levels = path (codes "city") (codes "area");
  paths = path (codes "Lyon") (codes "South") ∷ path (codes "Nice") (codes "South") ∷ path (codes "Paris") (codes "North") ∷ [];
}

abbrev pub time : NamedDimension
time = record {
  name = codes "time";
  column = codes "month";
  levels = path (codes "month") (codes "quarter");
  paths = path (codes "Jan") (codes "Q1") ∷ path (codes "Feb") (codes "Q1") ∷ [];
}

abbrev pub whole : List ℕ → NamedMeasure
whole name = record { name = name; column = name; decimals = 0 }

abbrev pub pay_dims : Dims
pay_dims = record { dimensions = region ∷ time ∷ []; measures = whole (codes "pay") ∷ whole (codes "hours") ∷ [] }

abbrev pub words_of : Result Dims DimsFault → List ℕ
words_of (Ok dims) = codes "accepted"
words_of (Err fault) = fault_words fault

-- the words of the first fault of a file
abbrev pub said : List ℕ → List ℕ
said bytes = words_of (dims_of bytes)
