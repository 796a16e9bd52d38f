-- What is said of a history that is to be carried over: the entries that stand for it, or why there are none.
use Rattle.std.specs.Prelude.{◌≡◌, ◌<◌, ℕ, List, length, Some}
use Rattle.cube_model.specs.declared.entry.Entry.{Entry}
use Rattle.cube_model.specs.Cubes.{IsIn}
use Rattle.cube_model.specs.Protection.{first, guarded, core_cell}
use Rattle.cube_carry.specs.Carrying as carrying
use Rattle.cube_carry.specs.Carrying.{carried_history, stops, IsCarried}
use Rattle.cube_carry.specs.Carrying.{Stop as stop}
use Rattle.cube_carry.specs.Names.{Named, known}
use Rattle.cube_carrying.specs.declared.histories.Carried.{Carried}
use Rattle.cube_carrying.specs.declared.histories.Carried.TheVariants.{Entries, Stopped}
use Rattle.cube_carrying.specs.declared.histories.Stop.{Stop}
use Rattle.cube_carrying.specs.declared.histories.Stop.TheVariants.{NoSource, Fixes}

abbrev pub stop_of : Stop → carrying.Stop
stop_of (NoSource m) = stop.NoSource m
stop_of (Fixes m t) = stop.Fixes m t

-- what a stop is about is there: the measure, and a guarded place of it whose core cell is named
abbrev pub IsThere : Named → Stop → Type 0
IsThere b (NoSource m) = m < length b.dims.measures
IsThere b (Fixes m t) = (m < length b.dims.measures) × ((i : ℕ) × IsIn i (guarded (known b) m) × (t ≡ core_cell (known b) i))

-- the history is carried over, as these entries; or this is the first thing that stops it
abbrev pub IsCarriedBy : Named → Named → List Entry → Carried → Type 0
IsCarriedBy a b h (Entries entries) = IsCarried a b h × (entries ≡ carried_history a b h)
IsCarriedBy a b h (Stopped why) = (first (stops a b h) ≡ Some (stop_of why)) × IsThere b why
