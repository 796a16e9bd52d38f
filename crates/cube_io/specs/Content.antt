-- What a put does to the bytes that a sink holds, where it tells them.
use Rattle.std.specs.Prelude.{◌≡◌, ℕ, List, ◌++◌, MatchResult}
use Rattle.std.specs.declared.option.Option.{Option}
use Rattle.std.specs.declared.result.Result.{Result}
use Rattle.std.specs.Io.KnownBytes.{Appends}

-- told bytes grow by a prefix of these
pub record AppendsPrefix (old new : Option (List ℕ)) (bytes : List ℕ) : Type 0 where
  pub said : List ℕ
  pub unsaid : List ℕ
  pub whole : bytes ≡ said ++ unsaid
  pub grows : Appends old new said

-- by all of the piece where the put went well, by a prefix of it where it failed
abbrev pub PutAppends : {T E : Type 0} → Option (List ℕ) → Option (List ℕ) → Result T E → List ℕ → Type 0
PutAppends old new result piece = MatchResult result (λ _. Appends old new piece) (λ _. AppendsPrefix old new piece)
