-- The places of rows.
use Rattle.std.specs.Prelude.{ℕ, ◌<◌, List}
use Rattle.std.specs.List.{All}
use Rattle.std.specs.List.Sorted.{IsStrictlyIncreasing}

-- places of a core that has so many, each before the next
pub record ArePlaces (many : ℕ) (places : List ℕ) : Type 0 where
  pub below : All (λ place. place < many) places
  pub increasing : IsStrictlyIncreasing places
