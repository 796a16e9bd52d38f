-- What a call answers that may also want memory.
use Rattle.std.specs.Prelude.{◌≡◌, ◌⊎◌, MatchResult}
use Rattle.std.specs.declared.result.Result.{Result}
use Rattle.std.specs.declared.result.Result.TheVariants.{Ok, Err}

-- the call answers just this, value or fault, unless memory ran out
abbrev pub Answers : {T E : Type 0} → E → Result T E → Result T E → Type 0
Answers no_memory result said = MatchResult result (λ x. said ≡ Ok x) (λ e. (e ≡ no_memory) ⊎ (said ≡ Err e))
