-- What became of the asks so far, and how many more there is space for.
use Rattle.std.specs.Prelude.{ℕ, List}
use Rattle.cube_model.specs.declared.outcome.Outcome.{Outcome}

pub record Turns : Type 0 where
  pub outcomes : List Outcome
  pub left : ℕ
