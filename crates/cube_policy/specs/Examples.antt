-- Policies of the pay cube, and what is said of a file.
use Rattle.std.specs.Prelude.{ℕ, List, [], ◌∷◌, codes, Option, Some, None, Result, Ok, Err}
use Rattle.cube_model.specs.declared.policy.Method.TheVariants.{Lattice, Parity}
use Rattle.cube_model.specs.declared.policy.Object.{Object}
use Rattle.cube_model.specs.declared.policy.Policy.{Policy}
use Rattle.cube_dims.specs.Examples.{pay_dims}
use Rattle.cube_policy.specs.PolicyFile.{policy_of}
use Rattle.cube_policy.specs.Words.{fault_words}
use Rattle.cube_policy.specs.declared.fault.PolicyFault.{PolicyFault}

abbrev pub each_pay : Object
each_pay = record { measure = 0; levels = 0 ∷ 0 ∷ []; slice = []; fewer = None }

abbrev pub hours_in_the_south : Object
hours_in_the_south = record { measure = 1; levels = 0 ∷ 0 ∷ []; slice = record { dimension = 0; level = 1; members = 0 ∷ [] } ∷ []; fewer = None }

abbrev pub pay_policy : Policy
pay_policy = record { methods = Lattice ∷ Parity ∷ []; objects = each_pay ∷ [] }

abbrev pub south_policy : Policy
south_policy = record { methods = Lattice ∷ Parity ∷ []; objects = each_pay ∷ hours_in_the_south ∷ [] }

-- one object on pay, at the areas and all times, for two months and two cities
abbrev pub wide_policy : Policy
wide_policy = record {
  methods = Lattice ∷ Parity ∷ [];
  objects = record {
    measure = 0;
    levels = 1 ∷ 2 ∷ [];
    slice = record { dimension = 0; level = 0; members = 0 ∷ 2 ∷ [] } ∷ record { dimension = 1; level = 0; members = 0 ∷ 1 ∷ [] } ∷ [];
    fewer = None;
  } ∷ [];
}

-- one object on pay, at all times and everywhere, of cells with fewer than three facts
abbrev pub few_policy : Policy
few_policy = record { methods = Lattice ∷ Parity ∷ []; objects = record { measure = 0; levels = 2 ∷ 2 ∷ []; slice = []; fewer = Some 3 } ∷ [] }

abbrev pub words_of : Result Policy PolicyFault → List ℕ
words_of (Ok policy) = codes "accepted"
words_of (Err fault) = fault_words fault

-- the words of the first fault of a file
abbrev pub said : List ℕ → List ℕ
said bytes = words_of (policy_of pay_dims bytes)
