-- The small cubes of the worked examples.
use Rattle.std.specs.Prelude.{ℕ, List, [], ◌∷◌, ℤ, pos, Option, Some, None, replicate}
use Rattle.cube_model.specs.declared.answer.AnswerRow.{AnswerRow}
use Rattle.cube_model.specs.declared.cell.Cell.{Cell}
use Rattle.cube_model.specs.declared.entry.Entry.{Entry}
use Rattle.cube_model.specs.declared.entry.Entry.TheVariants.{Asked, Linked}
use Rattle.cube_model.specs.declared.link.Link.TheVariants.{Pair}
use Rattle.cube_model.specs.declared.outcome.Outcome.TheVariants.{Given, JournalFault, NoMemory}
use Rattle.cube_model.specs.declared.policy.Method.{Method}
use Rattle.cube_model.specs.declared.policy.Method.TheVariants.{Plain, Lattice, Parity}
use Rattle.cube_model.specs.declared.policy.Object.{Object}
use Rattle.cube_model.specs.declared.policy.Within.{Within}
use Rattle.cube_model.specs.declared.request.Pick.{Pick}
use Rattle.cube_model.specs.declared.request.Request.{Request}
use Rattle.cube_model.specs.declared.request.What.{What}
use Rattle.cube_model.specs.declared.request.What.TheVariants.{Count, Measure}
use Rattle.cube_model.specs.declared.verdict.Verdict.{Verdict}
use Rattle.cube_model.specs.Cubes.{Dimension, World}
use Rattle.cube_model.specs.Runs.{Ask, Question, Reply}
use Rattle.cube_model.specs.Runs.Question.{Query, Witness, Shape}
use Rattle.cube_model.specs.Runs.QueryReply.{Answered, Refused}
use Rattle.cube_model.specs.Runs.Reply.{ToQuery, ToWitness}
use Rattle.cube_model.specs.Runs.WitnessReply.{Changed}
use Rattle.cube_model.specs.Rooms.{Room, Call}
use Rattle.cube_model.specs.Reasons.{Origin, WalkStep}

-- a path of names, each of one byte
abbrev pub path1 : ℕ → List (List ℕ)
path1 a = (a ∷ []) ∷ []

abbrev pub path2 : ℕ → ℕ → List (List ℕ)
path2 a b = (a ∷ []) ∷ path1 b

abbrev pub path3 : ℕ → ℕ → ℕ → List (List ℕ)
path3 a b c = (a ∷ []) ∷ path2 b c

-- a level or a member for each of two dimensions
abbrev pub two : ℕ → ℕ → List ℕ
two a b = a ∷ b ∷ []

-- ---- cubes
-- regions: the cities Lyon and Nice in the area South, Paris in the North
abbrev pub region : Dimension
region = record { levels = 2; paths = path2 76 83 ∷ path2 78 83 ∷ path2 80 78 ∷ [] }

-- times: the months January and February in one quarter
abbrev pub time : Dimension
time = record { levels = 2; paths = path2 74 81 ∷ path2 70 81 ∷ [] }

-- the cells of each city and month and below, that is these alone
abbrev pub by_city_and_month : ℕ → List Within → Object
by_city_and_month m slice = record { measure = m; levels = two 0 0; slice = slice; fewer = None }

-- Measure 0 is pay, by a source, each city's month protected; measure 1 is hours, by links. Nobody works in Nice in February.
abbrev pub pay_cube : World
pay_cube = record {
  shown = record {
    dimensions = region ∷ time ∷ [];
    policy = record { methods = Lattice ∷ Parity ∷ []; objects = by_city_and_month 0 [] ∷ [] };
    shape = record { points = two 0 0 ∷ two 0 1 ∷ two 1 0 ∷ two 2 0 ∷ two 2 1 ∷ []; facts = 1 ∷ 1 ∷ 1 ∷ 1 ∷ 1 ∷ [] };
  };
  cube = (pos 10 ∷ pos 20 ∷ pos 30 ∷ pos 40 ∷ pos 50 ∷ []) ∷ (pos 1 ∷ pos 2 ∷ pos 3 ∷ pos 4 ∷ pos 5 ∷ []) ∷ [];
}

-- the pay cube under another policy
abbrev pub pay_under : List Method → List Object → World
pay_under methods objects = record { shown = record pay_cube.shown { policy = record { methods = methods; objects = objects } }; cube = pay_cube.cube }

abbrev pub in_south : Within
in_south = record { dimension = 0; level = 1; members = 0 ∷ [] }

abbrev pub in_north : Within
in_north = record { dimension = 0; level = 1; members = 1 ∷ [] }

abbrev pub in_february : Within
in_february = record { dimension = 1; level = 0; members = 1 ∷ [] }

-- hours protected in the South alone
abbrev pub hours_in_south : World
hours_in_south = pay_under (Lattice ∷ Parity ∷ []) (by_city_and_month 0 [] ∷ by_city_and_month 1 (in_south ∷ []) ∷ [])

-- hours protected in the South, and in February
abbrev pub hours_in_either : World
hours_in_either = pay_under (Lattice ∷ Parity ∷ []) (by_city_and_month 1 (in_south ∷ []) ∷ by_city_and_month 1 (in_february ∷ []) ∷ [])

-- hours protected in the South in February
abbrev pub hours_in_both : World
hours_in_both = pay_under (Lattice ∷ Parity ∷ []) (by_city_and_month 1 (in_south ∷ in_february ∷ []) ∷ [])

-- pay protected in the South in February alone
abbrev pub pay_in_both : World
pay_in_both = pay_under (Lattice ∷ Parity ∷ []) (by_city_and_month 0 (in_south ∷ in_february ∷ []) ∷ [])

-- pay protected in the North by city and month, and everywhere by area and quarter
abbrev pub pay_twice : World
pay_twice = pay_under (Lattice ∷ Parity ∷ []) (by_city_and_month 0 (in_north ∷ []) ∷ record { measure = 0; levels = two 1 1; slice = []; fewer = None } ∷ [])

-- pay protected wherever fewer than two facts stand
abbrev pub pay_of_few : World
pay_of_few = pay_under (Lattice ∷ Parity ∷ []) (record { measure = 0; levels = two 2 2; slice = []; fewer = Some 2 } ∷ [])

-- hours protected where fewer than two facts stand, and in the South where fewer than three do
abbrev pub hours_of_few : World
hours_of_few = record {
  shown = record pay_cube.shown {
    policy = record { methods = Lattice ∷ Parity ∷ []; objects = record { measure = 1; levels = two 0 0; slice = []; fewer = Some 2 } ∷ record { measure = 1; levels = two 0 0; slice = in_south ∷ []; fewer = Some 3 } ∷ [] };
    shape = record { points = pay_cube.shown.shape.points; facts = 2 ∷ 3 ∷ 1 ∷ 2 ∷ 1 ∷ [] };
  };
  cube = pay_cube.cube;
}

-- a third measure by a source, with no object and no values
abbrev pub pay_and_third : World
pay_and_third = pay_under (Lattice ∷ Parity ∷ Lattice ∷ []) (by_city_and_month 0 [] ∷ [])

-- two facts at the first point, three at the second; pay is open
abbrev pub pay_open : World
pay_open = record {
  shown = record pay_cube.shown {
    policy = record { methods = Plain ∷ Parity ∷ []; objects = [] };
    shape = record { points = pay_cube.shown.shape.points; facts = 2 ∷ 3 ∷ 1 ∷ 1 ∷ 1 ∷ [] };
  };
  cube = pay_cube.cube;
}

-- the pay cube with one fact alone, and with none
abbrev pub one_place_cube : World
one_place_cube = record {
  shown = record pay_cube.shown { shape = record { points = two 0 0 ∷ []; facts = 1 ∷ [] } };
  cube = (pos 10 ∷ []) ∷ (pos 1 ∷ []) ∷ [];
}

abbrev pub empty_cube : World
empty_cube = record { shown = record pay_cube.shown { shape = record { points = []; facts = [] } }; cube = [] ∷ [] ∷ [] }

-- two rows and three columns, each a dimension of one level; one measure, by links
abbrev pub row : Dimension
row = record { levels = 1; paths = path1 48 ∷ path1 49 ∷ [] }

abbrev pub column : Dimension
column = record { levels = 1; paths = path1 48 ∷ path1 49 ∷ path1 50 ∷ [] }

abbrev pub two_rows : List (List ℕ) → List ℕ → List ℤ → World
two_rows points facts values = record {
  shown = record { dimensions = row ∷ column ∷ []; policy = record { methods = Parity ∷ []; objects = [] }; shape = record { points = points; facts = facts } };
  cube = values ∷ [];
}

-- three of the six points
abbrev pub two_row_cube : World
two_row_cube = two_rows (two 0 1 ∷ two 1 0 ∷ two 1 2 ∷ []) (1 ∷ 1 ∷ 1 ∷ []) (pos 7 ∷ pos 8 ∷ pos 9 ∷ [])

-- all six
abbrev pub full_cube : World
full_cube = two_rows (two 0 0 ∷ two 0 1 ∷ two 0 2 ∷ two 1 0 ∷ two 1 1 ∷ two 1 2 ∷ []) (1 ∷ 1 ∷ 1 ∷ 1 ∷ 1 ∷ 1 ∷ []) (pos 1 ∷ pos 2 ∷ pos 3 ∷ pos 4 ∷ pos 5 ∷ pos 6 ∷ [])

-- four days, three weeks, two months; the measure is open
abbrev pub day : Dimension
day = record { levels = 3; paths = path3 1 1 1 ∷ path3 2 1 1 ∷ path3 3 2 2 ∷ path3 4 3 1 ∷ [] }

abbrev pub day_cube : World
day_cube = record {
  shown = record {
    dimensions = day ∷ [];
    policy = record { methods = Plain ∷ []; objects = [] };
    shape = record { points = (0 ∷ []) ∷ (1 ∷ []) ∷ (2 ∷ []) ∷ (3 ∷ []) ∷ []; facts = 1 ∷ 1 ∷ 1 ∷ 1 ∷ [] };
  };
  cube = (pos 1 ∷ pos 2 ∷ pos 4 ∷ pos 8 ∷ []) ∷ [];
}

-- ---- requests
abbrev pub pick : ℕ → ℕ → ℕ → Option Pick
pick l a b = Some (record { level = l; first = a; last = b })

abbrev pub leaves : ℕ → ℕ → Option Pick
leaves a b = pick 0 a b

-- a measure by two levels, with a pick in either dimension
abbrev pub picks : ℕ → ℕ → ℕ → Option Pick → Option Pick → Request
picks m a b x y = record { what = Measure m; group = two a b; picks = x ∷ y ∷ [] }

-- a measure by two levels
abbrev pub slice : ℕ → ℕ → ℕ → Request
slice m a b = picks m a b None None

-- a measure in one sum, with a pick in either dimension; `all` is the level behind the named ones
abbrev pub range : ℕ → ℕ → Option Pick → Option Pick → Request
range m all x y = picks m all all x y

abbrev pub count_by : ℕ → ℕ → Request
count_by a b = record { what = Count; group = two a b; picks = None ∷ None ∷ [] }

abbrev pub by_level : ℕ → Request
by_level l = record { what = Measure 0; group = l ∷ []; picks = None ∷ [] }

-- ---- asks and what is said
abbrev pub ask : Request → Ask
ask r = record { question = Query r; outcome = Given }

abbrev pub ask_fault : Request → Ask
ask_fault r = record { question = Query r; outcome = JournalFault }

abbrev pub ask_no_memory : Request → Ask
ask_no_memory r = record { question = Query r; outcome = NoMemory }

abbrev pub ask_witness : What → Cell → Ask
ask_witness what t = record { question = Witness what t; outcome = Given }

abbrev pub ask_shape : Ask
ask_shape = record { question = Shape; outcome = Given }

-- a cell of the core
abbrev pub cell : ℕ → ℕ → Cell
cell a b = record { levels = two 0 0; key = two a b }

-- a cell of another cuboid
abbrev pub cell_at : ℕ → ℕ → ℕ → ℕ → Cell
cell_at l k a b = record { levels = two l k; key = two a b }

-- a row of an answer
abbrev pub line : ℕ → ℕ → ℕ → AnswerRow
line a b n = record { key = two a b; sum = pos n }

abbrev pub line1 : ℕ → ℕ → AnswerRow
line1 a n = record { key = a ∷ []; sum = pos n }

abbrev pub answered : List AnswerRow → Reply
answered rows = ToQuery (Answered rows)

abbrev pub refused : Verdict → Reply
refused v = ToQuery (Refused v)

abbrev pub changed : List ℤ → Reply
changed changes = ToWitness (Changed changes)

-- one sum each
abbrev pub sums : List ℕ → List Reply
sums [] = []
sums (n ∷ ns) = answered (line 0 0 n ∷ []) ∷ sums ns

-- ---- histories
-- pay by month was answered
abbrev pub months : Entry
months = Asked (slice 0 2 0)

-- so many requests on the third measure
abbrev pub many : ℕ → List Entry
many n = replicate n (Asked (slice 2 2 2))

-- two sums over the two rows, and the links that stand for them
abbrev pub two_ranges : List Entry
two_ranges = Asked (range 0 1 None (leaves 0 1)) ∷ Asked (range 0 1 (leaves 1 1) None) ∷ []

abbrev pub two_links : List Entry
two_links = Linked 0 (Pair 0 1) ∷ Linked 0 (Pair 1 2) ∷ []

-- the ten boxes of an even number of leaves on the full cube
abbrev pub even_boxes : List Ask
even_boxes =
    ask (range 0 1 None (leaves 0 0)) ∷ ask (range 0 1 None (leaves 1 1)) ∷ ask (range 0 1 None (leaves 2 2)) ∷
    ask (range 0 1 None (leaves 0 1)) ∷ ask (range 0 1 None (leaves 1 2)) ∷ ask (range 0 1 None (leaves 0 2)) ∷
    ask (range 0 1 (leaves 0 0) (leaves 0 1)) ∷ ask (range 0 1 (leaves 0 0) (leaves 1 2)) ∷
    ask (range 0 1 (leaves 1 1) (leaves 0 1)) ∷ ask (range 0 1 (leaves 1 1) (leaves 1 2)) ∷ []

-- ---- rooms
abbrev pub staff : List ℕ
staff = 115 ∷ []

abbrev pub board : List ℕ
board = 98 ∷ []

-- two groups over the pay cube
abbrev pub two_rooms : List Room
two_rooms = record { name = staff; world = pay_cube; history = [] } ∷ record { name = board; world = pay_cube; history = [] } ∷ []

abbrev pub of_group : List ℕ → Ask → Call Question
of_group name a = record { group = Some name; turn = a }

-- ---- reasons
abbrev pub step : ℕ → ℕ → Origin → WalkStep
step a b o = record { from = a; to = b; by = o }
