-- A worked run: two asks, of which the journal fails for the first. Over a room that stands for itself: the histories are told apart by
-- how often it stands there.
use Rattle.std.specs.Prelude.{◌≡◌, ◌⊎◌, ℕ, List, [], ◌∷◌, None}
use Rattle.cube_model.specs.declared.ask.Ask.{Ask}
use Rattle.cube_model.specs.declared.ask.Question.{Question}
use Rattle.cube_model.specs.declared.ask.Question.TheVariants as question
use Rattle.cube_model.specs.declared.outcome.Outcome.{Outcome}
use Rattle.cube_model.specs.declared.outcome.Outcome.TheVariants.{Given, JournalFault, NoMemory}
use Rattle.cube_model.specs.Rooms.{Room}
use Rattle.cube_io.specs.Desks.{Manner}
use Rattle.cube_io.specs.States.{State, Log, settled}
use Rattle.cube_server.specs.Logs.{Call}
use Rattle.cube_server.specs.Rows.{echoed}

-- asked for the shape, the room stands there once more, and asked for anything else twice more
abbrev pub entered : Room → Question → List Room → List Room
entered r question.Shape rooms = r ∷ rooms
entered r (question.Query text) rooms = r ∷ r ∷ rooms
entered r (question.Witness text) rooms = r ∷ r ∷ rooms

abbrev pub kept_by : Room → List Room → Ask → Outcome → List Room
kept_by r rooms ask Given = entered r ask.question rooms
kept_by r rooms ask JournalFault = rooms
kept_by r rooms ask NoMemory = rooms

abbrev pub enters : Room → Manner
enters r = record { reply = λ rooms ask o. echoed ask o; next = λ rooms ask o. kept_by r rooms ask o }

-- the ask for which the journal fails, and the one behind it, which is kept
abbrev pub failed : Call
failed = record { ask = record { group = None; question = question.Shape }; outcome = JournalFault }

abbrev pub kept : Call
kept = record { ask = record { group = None; question = question.Query [] }; outcome = Given }

abbrev pub failed_first : List Call
failed_first = failed ∷ kept ∷ []

-- ---- the log meanwhile

-- a byte for each request: 1 for the first, 2 for the second
abbrev pub Gives : Room → List Room → List ℕ → Type 0
Gives r rooms bytes = ((rooms ≡ []) × (bytes ≡ [])) ⊎ (((rooms ≡ r ∷ []) × (bytes ≡ 1 ∷ [])) ⊎ ((rooms ≡ r ∷ r ∷ []) × (bytes ≡ 2 ∷ [])))

-- a byte was appended to an empty log, and is not yet on the disk
abbrev pub half : ℕ → State
half n = record { now = n ∷ []; safe = []; tails = [] ∷ (n ∷ []) ∷ [] }

-- the log is empty; the first byte is appended, and no sync comes of it; it is cut off; the second is appended and synced
abbrev pub log_before : Log
log_before = record { state = settled []; trail = [] }

abbrev pub log_behind : Log
log_behind = record { state = settled (2 ∷ []); trail = half 1 ∷ settled [] ∷ half 2 ∷ settled (2 ∷ []) ∷ [] }
