-- The made facts and the made queries.
use Rattle.std.specs.List.{flat_map}
use Rattle.std.specs.Prelude.{ℕ, zero, suc, ◌+◌, ◌*◌, ◌/◌, ◌%◌, min, max, List, [], ◌∷◌, ◌++◌, codes, decimal, pos}
use Rattle.cube_model.specs.Cubes.{count_from}
use Rattle.cube_text.specs.Units.{units_text}
use Rattle.cube_gen.specs.Draws.{seed, drawn}

-- a word with a number behind it
abbrev pub numbered : List ℕ → ℕ → List ℕ
numbered word n = word ++ decimal n

-- ---- facts

-- where fact k of a cube of size s stands: branches in turn, then months, then grades
unfoldable pub place_text : ℕ → ℕ → List ℕ
place_text s k = numbered (codes "b") (k % (40 * s)) ++ numbered (codes ",m") (k / (40 * s) % 12 + 1) ++ numbered (codes ",g") (k / (480 * s) % 6)

-- its three values, drawn in turn from a number on
unfoldable pub values_text : ℕ → List ℕ
values_text x = codes "," ++ units_text 2 (pos (100000 + drawn x 1 500000)) ++ numbered (codes ",") (drawn x 2 200) ++ numbered (codes ",") (drawn x 3 1000)

-- the line of fact k, drawn behind three draws for each earlier fact
abbrev pub made_fact : ℕ → ℕ → ℕ → List ℕ
made_fact x s k = place_text s k ++ values_text (seed x (3 * k)) ++ codes "\n"

unfoldable pub made_facts : ℕ → ℕ → List ℕ
made_facts x s = codes "branch,month,grade,pay,hours,bonus\n" ++ flat_map (made_fact x s) (count_from 0 (20000 * s))

-- ---- queries

-- the lesser of two numbers behind one word and the greater behind another: the first and the last member of a range
abbrev pub spread : List ℕ → List ℕ → ℕ → ℕ → List ℕ
spread first last a b = numbered first (min a b) ++ numbered last (max a b)

-- hours in a range, each pair of members in order; months are counted from 1
abbrev pub range_text : ℕ → ℕ → ℕ → ℕ → ℕ → ℕ → List ℕ
range_text a b c d e f =
    spread (codes "range hours branch.branch=b") (codes "..b") a b
    ++ spread (codes ", month.month=m") (codes "..m") (c + 1) (d + 1)
    ++ spread (codes ", grade.grade=g") (codes "..g") e f

-- hours in a region, a month and a grade
abbrev pub cell_text : ℕ → ℕ → ℕ → List ℕ
cell_text a b c = numbered (codes "cell hours branch.region=r") a ++ numbered (codes ", month.month=m") (b + 1) ++ numbered (codes ", grade.grade=g") c

-- the query of a kind, drawn from a number on: pay by month in a region; pay by region and quarter; hours in a range; hours in
-- a cell; how many facts a grade has
abbrev pub made_query : ℕ → ℕ → ℕ → List ℕ
made_query x s zero = numbered (codes "slice pay by month.month where branch.region=r") (drawn x 1 (5 * s))
made_query x s (suc zero) = codes "slice pay by branch.region, month.quarter"
made_query x s (suc (suc zero)) = range_text (drawn x 1 (40 * s)) (drawn x 2 (40 * s)) (drawn x 3 12) (drawn x 4 12) (drawn x 5 6) (drawn x 6 6)
made_query x s (suc (suc (suc zero))) = cell_text (drawn x 1 (5 * s)) (drawn x 2 12) (drawn x 3 6)
made_query x s (suc (suc (suc (suc more)))) = numbered (codes "cell count grade.grade=g") (drawn x 1 6)

-- how many draws the query of a kind takes
abbrev pub draws_of : ℕ → ℕ
draws_of zero = 1
draws_of (suc zero) = 0
draws_of (suc (suc zero)) = 6
draws_of (suc (suc (suc zero))) = 3
draws_of (suc (suc (suc (suc more)))) = 1

-- so many queries, drawn from a number on, each of which draws its kind first
abbrev pub queries_from : ℕ → ℕ → ℕ → List (List ℕ)
queries_from x s zero = []
queries_from x s (suc n) = made_query (seed x 1) s (drawn x 1 5) ∷ queries_from (seed (seed x 1) (draws_of (drawn x 1 5))) s n

-- the queries, drawn behind all facts
unfoldable pub made_queries : ℕ → ℕ → List (List ℕ)
made_queries x s = queries_from (seed x (3 * (20000 * s))) s (200 * s)
