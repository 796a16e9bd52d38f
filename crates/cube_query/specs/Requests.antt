-- From a query to a request.
use Rattle.std.specs.Prelude.{ℕ, Bool, not, ◌&&◌, nat_lt, List, [], ◌++◌, length, map, find, Option, is_none, unwrap_or, option_map, Result, codes, if◌then◌else◌}
use Rattle.std.specs.List.{list_any}
use Rattle.std.specs.Str.{bytes_eq}
use Rattle.cube_model.specs.Checks.{check, in_turn, unless}
use Rattle.cube_model.specs.Dims.{Dims, NamedDimension, members, dimension_names, measure_names, dimension_at, found}
use Rattle.cube_model.specs.declared.request.Request.{Request}
use Rattle.cube_model.specs.declared.request.What.{What}
use Rattle.cube_model.specs.declared.request.What.TheVariants.{Count, Measure}
use Rattle.cube_model.specs.declared.request.Pick.{Pick}
use Rattle.cube_query.specs.declared.query.Name.{Name}
use Rattle.cube_query.specs.declared.query.LevelName.{LevelName}
use Rattle.cube_query.specs.declared.query.PickName.{PickName}
use Rattle.cube_query.specs.declared.query.Query.{Query}
use Rattle.cube_query.specs.declared.resolving.ResolveFault.{ResolveFault}
use Rattle.cube_query.specs.declared.resolving.ResolveFault.TheVariants as fault

-- the number of a name that is known to be among names
abbrev pub number : List ℕ → List (List ℕ) → ℕ
number x names = unwrap_or (found x names) 0

-- the name is not among names
abbrev pub is_unknown : List ℕ → List (List ℕ) → Bool
is_unknown x names = is_none (found x names)

-- the dimension with a name
abbrev pub named : Dims → List ℕ → NamedDimension
named s x = dimension_at s (number x (dimension_names s))

-- the names of the members at a level that is named
abbrev pub members_at : Dims → LevelName → List (List ℕ)
members_at s l = members (named s l.dimension.text) (number l.level.text (named s l.dimension.text).levels)

-- ---- the faults, in their order

abbrev pub is_count : List ℕ → Bool
is_count x = bytes_eq x (codes "count")

abbrev pub what_faults : Dims → Name → List ResolveFault
what_faults s x = check (not (is_count x.text) && is_unknown x.text (measure_names s)) (fault.UnknownMeasure x.at)

-- the faults of an item among the earlier ones, where l gives its level: of its dimension, and then others
abbrev pub item_faults : {X : Type 0} → (X → LevelName) → (X → List ResolveFault) → Dims → List X → X → List ResolveFault
item_faults l others s earlier x =
    check (is_unknown (l x).dimension.text (dimension_names s)) (fault.UnknownDimension (l x).dimension.at)
    ++ (check (list_any (λ y. bytes_eq (l y).dimension.text (l x).dimension.text) earlier) (fault.DimensionTwice (l x).dimension.at)
    ++ others x)

abbrev pub level_faults : Dims → LevelName → List ResolveFault
level_faults s x = check (is_unknown x.level.text (named s x.dimension.text).levels) (fault.UnknownLevel x.level.at)

abbrev pub member_faults : Dims → LevelName → Name → List ResolveFault
member_faults s l x = check (is_unknown x.text (members_at s l)) (fault.UnknownMember x.at)

-- the last member stands before the first
abbrev pub order_faults : Dims → PickName → List ResolveFault
order_faults s p = check (nat_lt (number p.last.text (members_at s p.level)) (number p.first.text (members_at s p.level))) (fault.Backwards p.first.at)

abbrev pub pick_faults : Dims → PickName → List ResolveFault
pick_faults s p = level_faults s p.level ++ (member_faults s p.level p.first ++ (member_faults s p.level p.last ++ order_faults s p))

abbrev pub by_faults : Dims → List LevelName → List ResolveFault
by_faults s by = in_turn (item_faults (λ x. x) (level_faults s) s) [] by

abbrev pub picks_faults : Dims → List PickName → List ResolveFault
picks_faults s picks = in_turn (item_faults (λ x. x.level) (pick_faults s) s) [] picks

-- the faults of a query: of what is asked, and then of the items from left to right
abbrev pub query_faults : Dims → Query → List ResolveFault
query_faults s q = what_faults s q.what ++ (by_faults s q.by ++ picks_faults s q.picks)

-- ---- the request

abbrev pub what_of : Dims → List ℕ → What
what_of s x = if is_count x then Count else Measure (number x (measure_names s))

-- what the item that names a dimension says, where an item names it
abbrev pub said_of : {X V : Type 0} → (X → LevelName) → (NamedDimension → X → V) → List X → NamedDimension → Option V
said_of l value items d = option_map (value d) (find (λ x. bytes_eq (l x).dimension.text d.name) items)

abbrev pub level_in_dimension : NamedDimension → LevelName → ℕ
level_in_dimension d l = number l.level.text d.levels

abbrev pub pick_in_dimension : NamedDimension → PickName → Pick
pick_in_dimension d p = record {
  level = number p.level.level.text d.levels;
  first = number p.first.text (members d (number p.level.level.text d.levels));
  last = number p.last.text (members d (number p.level.level.text d.levels));
}

-- the level that a dimension is grouped by: `all` where no item names it
abbrev pub group_at : Query → NamedDimension → ℕ
group_at q d = unwrap_or (said_of (λ x. x) level_in_dimension q.by d) (length d.levels)

-- the pick of a dimension, where an item names it
abbrev pub pick_at : Query → NamedDimension → Option Pick
pick_at q d = said_of (λ x. x.level) pick_in_dimension q.picks d

-- the request that a query without faults names
abbrev pub request_in : Dims → Query → Request
request_in s q = record { what = what_of s q.what.text; group = map (group_at q) s.dimensions; picks = map (pick_at q) s.dimensions }

-- the request that a query names, or its first fault
unfoldable pub resolved : Dims → Query → Result Request ResolveFault
resolved s q = unless (query_faults s q) (request_in s q)
