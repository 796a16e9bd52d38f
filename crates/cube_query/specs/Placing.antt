-- How items are placed under their dimensions, one by one. That this gives just what the definition says is a law of its own.
use Rattle.std.specs.Prelude.{ℕ, List, [], ◌∷◌, length, Option, Some, None, is_some, unwrap_or, slice_index_or, slice_set, Result, Ok, Err, if◌then◌else◌}
use Rattle.cube_model.specs.Checks.{unless}
use Rattle.cube_model.specs.Dims.{Dims, NamedDimension, dimension_names}
use Rattle.cube_model.specs.declared.request.Pick.{Pick}
use Rattle.cube_query.specs.declared.query.LevelName.{LevelName}
use Rattle.cube_query.specs.declared.query.PickName.{PickName}
use Rattle.cube_query.specs.declared.resolving.ResolveFault.{ResolveFault}
use Rattle.cube_query.specs.declared.resolving.ResolveFault.TheVariants as fault
use Rattle.cube_query.specs.Requests.{number, is_unknown, named, level_faults, pick_faults, level_in_dimension, pick_in_dimension}

-- one more item, where for each dimension stands what an earlier item said of it
abbrev pub placed : {X V : Type 0} → (X → LevelName) → (X → List ResolveFault) → (NamedDimension → X → V) → Dims → List (Option V) → X → Result (List (Option V)) ResolveFault
placed l others value s slots x =
    if is_unknown (l x).dimension.text (dimension_names s) then Err (fault.UnknownDimension (l x).dimension.at)
    else if is_some (slice_index_or slots (number (l x).dimension.text (dimension_names s)) None) then Err (fault.DimensionTwice (l x).dimension.at)
    else unless (others x) (slice_set slots (number (l x).dimension.text (dimension_names s)) (Some (value (named s (l x).dimension.text) x)))

abbrev pub and_then : {A B : Type 0} → Result A ResolveFault → (A → Result B ResolveFault) → Result B ResolveFault
and_then (Ok x) f = f x
and_then (Err e) f = Err e

abbrev pub all_placed : {X S : Type 0} → (S → X → Result S ResolveFault) → S → List X → Result S ResolveFault
all_placed put slots [] = Ok slots
all_placed put slots (x ∷ xs) = and_then (put slots x) (λ slots. all_placed put slots xs)

unfoldable pub level_placed : Dims → List (Option ℕ) → LevelName → Result (List (Option ℕ)) ResolveFault
level_placed s slots x = placed (λ x. x) (level_faults s) level_in_dimension s slots x

unfoldable pub pick_placed : Dims → List (Option Pick) → PickName → Result (List (Option Pick)) ResolveFault
pick_placed s slots x = placed (λ x. x.level) (pick_faults s) pick_in_dimension s slots x

-- the levels that were said, and `all` for the other dimensions
abbrev pub or_all : List NamedDimension → List (Option ℕ) → List ℕ
or_all [] slots = []
or_all (d ∷ ds) [] = []
or_all (d ∷ ds) (o ∷ slots) = unwrap_or o (length d.levels) ∷ or_all ds slots
