-- What is stated of the columns of the pay cube, and a policy that is none.
use Rattle.std.specs.Prelude.{ℕ, List, [], ◌∷◌}
use Rattle.cube_model.specs.declared.policy.Method.TheVariants.{Plain}
use Rattle.cube_model.specs.declared.policy.Policy.{Policy}
use Rattle.cube_policy.specs.Examples.{each_pay}
use Rattle.cube_draft.specs.declared.choices.Choices.{Choices}
use Rattle.cube_draft.specs.declared.choices.Stated.{Stated}

abbrev pub nothing_stated : Choices
nothing_stated = record { dimensions = []; members = []; skipped = [] }

-- a dimension of two levels
abbrev pub stated : List ℕ → List ℕ → List ℕ → Stated
stated name below above = record { name = name; columns = below ∷ above ∷ [] }

abbrev pub stating : List Stated → Choices
stating dimensions = record { dimensions = dimensions; members = []; skipped = [] }

abbrev pub with_members : List ℕ → Choices
with_members column = record { dimensions = []; members = column ∷ []; skipped = [] }

abbrev pub without : List ℕ → Choices
without column = record { dimensions = []; members = []; skipped = column ∷ [] }

-- an object on a measure that is open
abbrev pub open_policy : Policy
open_policy = record { methods = Plain ∷ []; objects = each_pay ∷ [] }

abbrev pub path : List ℕ → List ℕ → List (List ℕ)
path below above = below ∷ above ∷ []
