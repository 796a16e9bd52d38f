-- The changes for the cell that a text names, and the fact file that they make.
use Rattle.std.specs.List.{list_all}
use Rattle.std.specs.Prelude.{◌≡◌, ⊤, ℕ, ℤ, Bool, not, ◌&&◌, List, map, codes, if◌then◌else◌}
use Rattle.std.specs.declared.option.Option.{Option}
use Rattle.std.specs.declared.option.Option.TheVariants.{Some, None}
use Rattle.std.specs.declared.result.Result.{Result}
use Rattle.std.specs.declared.result.Result.TheVariants.{Ok, Err}
use Rattle.cube_model.specs.declared.cell.Cell.{Cell}
use Rattle.cube_model.specs.declared.change.Change.{Change}
use Rattle.cube_model.specs.declared.entry.Entry.{Entry}
use Rattle.cube_model.specs.declared.policy.Policy.{Policy}
use Rattle.cube_model.specs.declared.request.Pick.{Pick}
use Rattle.cube_model.specs.declared.request.Request.{Request}
use Rattle.cube_model.specs.declared.request.What.{What}
use Rattle.cube_model.specs.declared.request.What.TheVariants.{Count, Measure}
use Rattle.cube_model.specs.Cores.{Core, shown}
use Rattle.cube_model.specs.Cubes.{Public}
use Rattle.cube_model.specs.Dims.{Dims, plains}
use Rattle.cube_model.specs.Requests.{grain, is_grouped, is_one}
use Rattle.cube_model.specs.Runs.{WitnessReply, WitnessReply as told, witnessed}
use Rattle.cube_model.specs.Twins.{moves}
use Rattle.cube_query.specs.Faults.{request_of, fault_status, fault_body}
use Rattle.cube_query.specs.declared.fault.RequestFault.{RequestFault}
use Rattle.cube_witness.specs.TwinFile.{twin_cube, facts_text, first_beyond}
use Rattle.cube_witness.specs.WitnessText.{witness_text}
use Rattle.cube_engine.specs.declared.witness.NoChanges.{NoChanges}
use Rattle.cube_engine.specs.declared.witness.NoChanges.TheVariants.{Said, NoMemory}

-- ---- the cell that a request names

-- the request does not group, and each of its picks is of one member
abbrev pub is_cell : Dims → Request → Bool
is_cell s r = not (is_grouped (plains s) r.group) && list_all is_one r.picks

-- the member that is picked: where there is no pick, the one member of `all`
abbrev pub member_of : Option Pick → ℕ
member_of None = 0
member_of (Some p) = p.first

-- the cell of the request's grain, which is the level of each pick and `all` elsewhere, with the member of each pick
abbrev pub cell_of : Request → Cell
cell_of r = record { levels = grain r; key = map member_of r.picks }

-- ---- its changes

-- a measure and changes of it, or the status and the line that say why there are none
abbrev pub Found : Type 0
Found = Result (ℕ × List Change) (ℕ × List ℕ)

abbrev pub no_cell : Found
no_cell = Err (400, codes "not a cell of a measure\n")

abbrev pub found_of : Public → ℕ → WitnessReply → Found
found_of g m (told.Changed changes) = Ok (m, moves g changes)
found_of g m told.EmptyCell = Err (404, codes "empty cell\n")
found_of g m told.NotProtected = Err (404, codes "not protected\n")
found_of g m told.NotOfMeasure = no_cell

abbrev pub found_at : Public → List Entry → What → Cell → Found
found_at g h Count t = no_cell
found_at g h (Measure m) t = found_of g m (witnessed g h (Measure m) t)

abbrev pub found_by : Dims → Public → List Entry → Result Request RequestFault → Found
found_by s g h (Ok r) = if is_cell s r then found_at g h r.what (cell_of r) else no_cell
found_by s g h (Err fault) = Err (fault_status fault, fault_body fault)

-- the changes behind a history for the cell that a text names
abbrev pub changes_for : Dims → Public → List Entry → List ℕ → Found
changes_for s g h text = found_by s g h (request_of s text)

-- a status and a line are why there is nothing; memory may run out at any time
abbrev pub Refuses : {T : Type 0} → NoChanges → Result T (ℕ × List ℕ) → Type 0
Refuses (Said status line) found = found ≡ Err (status, line)
Refuses NoMemory found = ⊤

-- the text of changes, which looks at no value of the cube
abbrev pub text_of : Dims → Public → Found → Result (List ℕ) (ℕ × List ℕ)
text_of s g (Ok found) = Ok (witness_text s g.shape found.1)
text_of s g (Err why) = Err why

-- ---- the fact file that they make

abbrev pub file_unless : Core → List (List ℤ) → Option ℕ → Result (List ℕ) (ℕ × List ℕ)
file_unless core cube None = Ok (facts_text core.dims core.shape cube)
file_unless core cube (Some place) = Err (404, codes "beyond the bound\n")

abbrev pub file_of : Core → Found → Result (List ℕ) (ℕ × List ℕ)
file_of core (Ok found) = file_unless core (twin_cube core found.0 found.1) (first_beyond core.shape (twin_cube core found.0 found.1) found.0)
file_of core (Err why) = Err why

-- the fact file of the twin: of the cube with the changes for the cell that a text names
abbrev pub twin_for : Core → Policy → List Entry → List ℕ → Result (List ℕ) (ℕ × List ℕ)
twin_for core policy h text = file_of core (changes_for core.dims (shown core policy) h text)
