-- From an old cube to a new one, on a measure.
use Rattle.std.specs.Prelude.{◌≡◌, ◌<◌, Bool, length}
use Rattle.cube_model.specs.declared.cell.Cell.{Cell}
use Rattle.cube_admit.specs.States.{State}
use Rattle.cube_carrying.specs.declared.crossings.Crossing.{Crossing}
use Rattle.cube_carrying.specs.Given.{IsGiven}
use Rattle.cube_carrying.specs.KeptCells as said
use Rattle.cube_carrying.specs.Places.{carried_places}

-- the new cube has the parts of the old one, and its places are those of the old points
abbrev pub Crosses : Crossing → Type 0
Crosses x = said.Carries x.old.now x.new.now x.new_policy.now x.measure x.places.now

-- a cell is kept where a place of it stands under a new object at or above it
abbrev pub StandsAreEnough : Crossing → Type 0
StandsAreEnough x = said.StandsSuffice x.old.now x.new.now x.new_policy.now x.measure x.places.now

-- a core cell is kept where its new place is guarded
abbrev pub GuardsAreEnough : Crossing → Type 0
GuardsAreEnough x = said.GuardsSuffice x.old.now x.new.now x.new_policy.now x.measure x.places.now

-- the new cube protects, on the measure, the cell with the names of an old one
abbrev pub keeps : Crossing → Cell → Bool
keeps x t = said.is_kept x.old.now x.new.now x.new_policy.now x.measure t

-- the new cube continues the old one, and a state of the old one is carried over to it
pub record IsCarrying (x : Crossing) (state : State) : Type 0 where
  pub given : IsGiven x.old.now x.old_policy.now state x.new.now x.new_policy.now
  pub table : x.places.now ≡ carried_places x.old.now x.new.now
  pub measure : x.measure < length x.new.now.dims.measures
