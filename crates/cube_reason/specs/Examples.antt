-- Reasons over the pay cube.
use Rattle.std.specs.Prelude.{ℕ, List}
use Rattle.cube_model.specs.declared.cell.Cell.{Cell}
use Rattle.cube_core.specs.Worked.{two, pay_core}
use Rattle.cube_source.specs.Blocks.{bare}
use Rattle.cube_reason.specs.declared.reasons.End.{End}
use Rattle.cube_reason.specs.declared.reasons.Origin.{Origin}
use Rattle.cube_reason.specs.declared.reasons.Reason.{Reason}
use Rattle.cube_reason.specs.declared.reasons.WalkStep.{WalkStep}
use Rattle.cube_reason.specs.ReasonText.{reason_words}

-- a city in a month
abbrev pub city_month : ℕ → ℕ → Cell
city_month city month = record { levels = two 0 0; key = two city month }

-- an area in a month
abbrev pub area_month : ℕ → ℕ → Cell
area_month area month = record { levels = two 1 0; key = two area month }

abbrev pub step : ℕ → ℕ → Origin → WalkStep
step a b o = record { from = a; to = b; by = o }

abbrev pub end : ℕ → Origin → End
end a o = record { place = a; by = o }

-- what is printed
abbrev pub told : Reason → List ℕ
told x = reason_words pay_core.dims (bare pay_core) x
