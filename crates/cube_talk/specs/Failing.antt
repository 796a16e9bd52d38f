-- A worked run: two lines, and the journal fails for the first of them. Over a room that stands for itself: the histories are told apart
-- by how often it stands there.
use Rattle.std.specs.Prelude.{List, [], ◌∷◌, ℕ, codes}
use Rattle.cube_model.specs.declared.ask.Ask.{Ask}
use Rattle.cube_model.specs.declared.ask.Question.{Question}
use Rattle.cube_model.specs.declared.ask.Question.TheVariants.{Query, Witness, Shape}
use Rattle.cube_model.specs.declared.outcome.Outcome.{Outcome}
use Rattle.cube_model.specs.declared.outcome.Outcome.TheVariants.{Given, JournalFault, NoMemory}
use Rattle.cube_model.specs.Rooms.{Room}
use Rattle.cube_io.specs.Desks.{Manner}
use Rattle.cube_talk.specs.Crashes.{IsLineInHand}
use Rattle.cube_talk.specs.Examples.{echo_reply}

-- asked for the shape, the room stands there once more, and asked for anything else twice more
abbrev pub entered : Room → Question → List Room → List Room
entered r Shape rooms = r ∷ rooms
entered r (Query text) rooms = r ∷ r ∷ rooms
entered r (Witness text) rooms = r ∷ r ∷ rooms

abbrev pub kept_by : Room → List Room → Ask → Outcome → List Room
kept_by r rooms ask Given = entered r ask.question rooms
kept_by r rooms ask JournalFault = rooms
kept_by r rooms ask NoMemory = rooms

abbrev pub enters : Room → Manner
enters r = record { reply = λ rooms ask o. echo_reply ask o; next = λ rooms ask o. kept_by r rooms ask o }

abbrev pub two_lines : List (List ℕ)
two_lines = codes "shape" ∷ codes "a" ∷ []

-- what may be in hand while they are answered, where the journal fails for the first
abbrev pub InHand : Room → List Room → Type 0
InHand r here = IsLineInHand (enters r) [] two_lines (JournalFault ∷ Given ∷ []) here
