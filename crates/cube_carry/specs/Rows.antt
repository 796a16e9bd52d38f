-- The worked cubes: four cities in two areas, month after month.
use Rattle.std.specs.Prelude.{ℕ, List, [], ◌∷◌, codes, flat_map, length, map, None, ◌++◌, ℤ, pos}
use Rattle.cube_model.specs.declared.entry.Entry.{Entry}
use Rattle.cube_model.specs.declared.entry.Entry.TheVariants.{Asked}
use Rattle.cube_model.specs.declared.policy.Method.{Method}
use Rattle.cube_model.specs.declared.policy.Method.TheVariants.{Lattice, Parity}
use Rattle.cube_model.specs.declared.policy.Object.{Object}
use Rattle.cube_model.specs.declared.policy.Within.{Within}
use Rattle.cube_model.specs.declared.request.What.TheVariants.{Measure}
use Rattle.cube_model.specs.Cubes.{count_from}
use Rattle.cube_model.specs.Dims.{NamedDimension, NamedMeasure}
use Rattle.cube_model.specs.Examples.{two, slice, range, pick, leaves}
use Rattle.cube_carry.specs.Names.{Named}

abbrev pub path : List ℕ → List ℕ → List (List ℕ)
path below above = below ∷ above ∷ []

abbrev pub region : List (List (List ℕ)) → NamedDimension
region paths = record { name = codes "region"; column = codes "city"; levels = path (codes "city") (codes "area"); paths = paths }

abbrev pub time : List (List (List ℕ)) → NamedDimension
time paths = record { name = codes "time"; column = codes "month"; levels = path (codes "month") (codes "quarter"); paths = paths }

-- Lyon and Nice in the South, Paris and Lille in the North
abbrev pub lyon : List (List ℕ)
lyon = path (codes "Lyon") (codes "South")

abbrev pub nice : List (List ℕ)
nice = path (codes "Nice") (codes "South")

abbrev pub paris : List (List ℕ)
paris = path (codes "Paris") (codes "North")

abbrev pub lille : List (List ℕ)
lille = path (codes "Lille") (codes "North")

abbrev pub cities : List (List (List ℕ))
cities = lyon ∷ nice ∷ paris ∷ lille ∷ []

-- three months of the first quarter, and one of the second
abbrev pub january : List (List ℕ)
january = path (codes "Jan") (codes "Q1")

abbrev pub february : List (List ℕ)
february = path (codes "Feb") (codes "Q1")

abbrev pub march : List (List ℕ)
march = path (codes "Mar") (codes "Q1")

abbrev pub april : List (List ℕ)
april = path (codes "Apr") (codes "Q2")

abbrev pub two_months : List (List (List ℕ))
two_months = january ∷ february ∷ []

abbrev pub three_months : List (List (List ℕ))
three_months = january ∷ february ∷ march ∷ []

abbrev pub four_months : List (List (List ℕ))
four_months = january ∷ february ∷ march ∷ april ∷ []

abbrev pub measure : List ℕ → NamedMeasure
measure name = record { name = name; column = name; decimals = 0 }

-- a fact at each combination of leaves
abbrev pub all_points : ℕ → ℕ → List (List ℕ)
all_points n k = flat_map (λ x. map (two x) (count_from 0 k)) (count_from 0 n)

abbrev pub of_months : List NamedMeasure → List Method → List Object → List (List (List ℕ)) → List (List (List ℕ)) → Named
of_months measures methods objects cs months = record {
  dims = record { dimensions = region cs ∷ time months ∷ []; measures = measures };
  policy = record { methods = methods; objects = objects };
  shape = record { points = all_points (length cs) (length months); facts = map (λ p. 1) (all_points (length cs) (length months)) };
}

-- pay, by a source, protected at these levels and below
abbrev pub pay_by : List ℕ → List (List (List ℕ)) → Named
pay_by levels months = of_months (measure (codes "pay") ∷ []) (Lattice ∷ []) (record { measure = 0; levels = levels; slice = []; fewer = None } ∷ []) cities months

-- pay by area, by month and by city
abbrev pub by_area : Entry
by_area = Asked (slice 0 1 2)

abbrev pub by_month : Entry
by_month = Asked (slice 0 2 0)

abbrev pub by_city : Entry
by_city = Asked (slice 0 0 2)

abbrev pub by_area_and_quarter : Entry
by_area_and_quarter = Asked (slice 0 1 1)

-- pay, and hours by links
abbrev pub pay_and_hours : Named
pay_and_hours = of_months (measure (codes "pay") ∷ measure (codes "hours") ∷ []) (Lattice ∷ Parity ∷ []) (record { measure = 0; levels = two 0 0; slice = []; fewer = None } ∷ []) cities two_months

-- the other way round, the cities in another order
abbrev pub hours_and_pay : Named
hours_and_pay = of_months (measure (codes "hours") ∷ measure (codes "pay") ∷ []) (Parity ∷ Lattice ∷ []) (record { measure = 1; levels = two 0 0; slice = []; fewer = None } ∷ []) (lille ∷ lyon ∷ paris ∷ nice ∷ []) three_months

-- hours of the South in January and in February, of each area in February, and of Paris in the first quarter
abbrev pub south_in_january : Entry
south_in_january = Asked (range 1 2 (pick 1 0 0) (leaves 0 0))

abbrev pub south_in_february : Entry
south_in_february = Asked (range 1 2 (pick 1 0 0) (leaves 1 1))

abbrev pub areas_in_february : Entry
areas_in_february = Asked (record { what = Measure 1; group = two 1 2; picks = None ∷ leaves 1 1 ∷ [] })

abbrev pub paris_in_quarter : Entry
paris_in_quarter = Asked (range 1 2 (leaves 2 2) (pick 1 0 0))

-- one more city in the North
abbrev pub nantes : List (List ℕ)
nantes = path (codes "Nantes") (codes "North")

abbrev pub with_branch : Named
with_branch = of_months (measure (codes "pay") ∷ []) (Lattice ∷ []) (record { measure = 0; levels = two 0 0; slice = []; fewer = None } ∷ []) (cities ++ nantes ∷ []) two_months

-- Lille in the South
abbrev pub lille_moved : Named
lille_moved = of_months (measure (codes "pay") ∷ []) (Lattice ∷ []) (record { measure = 0; levels = two 0 0; slice = []; fewer = None } ∷ []) (lyon ∷ nice ∷ paris ∷ path (codes "Lille") (codes "South") ∷ []) two_months

-- nobody in Lille in February
abbrev pub one_empty : Named
one_empty = record (pay_by (two 0 0) two_months) { shape = record { points = two 0 0 ∷ two 0 1 ∷ two 1 0 ∷ two 1 1 ∷ two 2 0 ∷ two 2 1 ∷ two 3 0 ∷ []; facts = 1 ∷ 1 ∷ 1 ∷ 1 ∷ 1 ∷ 1 ∷ 1 ∷ [] } }

-- nobody in the North in February
abbrev pub two_empty : Named
two_empty = record (pay_by (two 0 0) two_months) { shape = record { points = two 0 0 ∷ two 0 1 ∷ two 1 0 ∷ two 1 1 ∷ two 2 0 ∷ two 3 0 ∷ []; facts = 1 ∷ 1 ∷ 1 ∷ 1 ∷ 1 ∷ 1 ∷ [] } }

-- two facts in Lyon in January
abbrev pub one_more_fact : Named
one_more_fact = record (pay_by (two 0 0) two_months) { shape = record { points = (pay_by (two 0 0) two_months).shape.points; facts = 2 ∷ 1 ∷ 1 ∷ 1 ∷ 1 ∷ 1 ∷ 1 ∷ 1 ∷ [] } }

-- hours of Lyon and Nice, protected in these months
abbrev pub hours_of_south : List Within → Named
hours_of_south slice = of_months (measure (codes "hours") ∷ []) (Parity ∷ []) (record { measure = 0; levels = two 0 0; slice = slice; fewer = None } ∷ []) (lyon ∷ nice ∷ []) two_months

abbrev pub in_january : List Within
in_january = record { dimension = 1; level = 0; members = 0 ∷ [] } ∷ []

-- hours of Lyon in February
abbrev pub lyon_in_february : Entry
lyon_in_february = Asked (range 0 2 (leaves 0 0) (leaves 1 1))

-- pay at each point, with one value in the place of the first
abbrev pub pay_from : ℕ → List (List ℤ)
pay_from x = (pos x ∷ pos 20 ∷ pos 30 ∷ pos 40 ∷ pos 50 ∷ pos 60 ∷ pos 70 ∷ pos 80 ∷ []) ∷ []

-- the same with March
abbrev pub pay_with_march : List (List ℤ)
pay_with_march = (pos 10 ∷ pos 20 ∷ pos 11 ∷ pos 30 ∷ pos 40 ∷ pos 31 ∷ pos 50 ∷ pos 60 ∷ pos 51 ∷ pos 70 ∷ pos 80 ∷ pos 71 ∷ []) ∷ []
