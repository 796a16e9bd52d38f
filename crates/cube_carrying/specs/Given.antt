-- What is given where a history is carried over, and what becomes of the entries on a measure.
use Rattle.std.specs.Prelude.{◌≡◌, ℕ, List, [], ◌++◌, Option, Some, None}
use Rattle.cube_model.specs.declared.entry.Entry.{Entry}
use Rattle.cube_model.specs.declared.policy.Policy.{Policy}
use Rattle.cube_model.specs.Cores.{Core, shown}
use Rattle.cube_model.specs.Cubes.{Public}
use Rattle.cube_model.specs.Policies.{IsPolicy}
use Rattle.cube_model.specs.Protection.{first}
use Rattle.cube_model.specs.Verdicts.{links_of}
use Rattle.cube_colour.specs.Colourings.{Colouring}
use Rattle.cube_admit.specs.States.{State, IsStateOf, coloured}
use Rattle.cube_carry.specs.Carrying as carrying
use Rattle.cube_carry.specs.Continues.{Continues}
use Rattle.cube_carry.specs.Names.{named}
use Rattle.cube_carrying.specs.Histories.{stop_of}
use Rattle.cube_carrying.specs.declared.histories.Stop.{Stop}

-- a state of an old cube with no request that waits, and a new cube that continues the old one
pub record IsGiven (old : Core) (old_policy : Policy) (state : State) (new : Core) (new_policy : Policy) : Type 0 where
  pub old_rules : IsPolicy old.dims old_policy
  pub new_rules : IsPolicy new.dims new_policy
  pub continues : Continues (named old old_policy) (named new new_policy)
  pub stands : IsStateOf (shown old old_policy) state
  pub none : state.pending ≡ None

-- what is kept of the links of a measure: their colouring, or nothing where there are none
abbrev pub IsKept : Public → List Entry → ℕ → Option Colouring → Type 0
IsKept g h m None = links_of g h m ≡ []
IsKept g h m (Some c) = c ≡ coloured g m (links_of g h m)

-- nothing stops, and the entries are put behind those before; or this is the first thing that stops
abbrev pub Puts : List carrying.Stop → List Entry → List Entry → List Entry → Option Stop → Type 0
Puts stops entries old new None = (stops ≡ []) × (new ≡ old ++ entries)
Puts stops entries old new (Some why) = first stops ≡ Some (stop_of why)
