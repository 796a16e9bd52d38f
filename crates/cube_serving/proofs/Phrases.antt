-- Each reply of an engine has a status with a phrase.
use Rattle.std.proofs.Common.{ℕ, Bool, true, false, cond, IsTrue, List, Option, Some, None, Ok, Err, refl}
use Rattle.std.specs.Prelude.{Result, ⊤}
use Rattle.cube_http.specs.Responses.{has_phrase, status_of}
use Rattle.cube_model.specs.declared.ask.Ask.{Ask}
use Rattle.cube_model.specs.declared.ask.Question.{Question}
use Rattle.cube_model.specs.declared.ask.Question.TheVariants.{Query, Witness, Shape}
use Rattle.cube_model.specs.declared.cell.Cell.{Cell}
use Rattle.cube_model.specs.declared.entry.Entry.{Entry}
use Rattle.cube_model.specs.declared.outcome.Outcome.{Outcome}
use Rattle.cube_model.specs.declared.outcome.Outcome.TheVariants.{Given, JournalFault, NoMemory}
use Rattle.cube_model.specs.declared.request.Request.{Request}
use Rattle.cube_model.specs.declared.request.What.{What}
use Rattle.cube_model.specs.declared.request.What.TheVariants.{Count, Measure}
use Rattle.cube_model.specs.Cubes.{Public, World}
use Rattle.cube_model.specs.Dims.{Dims}
use Rattle.cube_model.specs.Rooms.{Room, aim, room_of, missed_by, reply_by_room}
use Rattle.cube_model.specs.Runs.{QueryReply, WitnessReply, told, witnessed, reply_by}
use Rattle.cube_model.specs.Runs.QueryReply.{Answered, Refused}
use Rattle.cube_model.specs.Runs.WitnessReply.{NotOfMeasure, EmptyCell, NotProtected, Changed}
use Rattle.cube_model.specs.Verdicts.{verdict}
use Rattle.cube_query.specs.Faults.{request_of, fault_status}
use Rattle.cube_query.specs.declared.fault.RequestFault.{RequestFault}
use Rattle.cube_query.specs.declared.fault.RequestFault.TheVariants as fault
use Rattle.cube_engine.specs.Changes.{Found, is_cell, cell_of, found_of, found_at, found_by, no_cell, text_of}
use Rattle.cube_engine.specs.Steps.{by_words, call, in_words, reply_where_read, text_reply, given_reply, manner}
use Rattle.cube_server.specs.Steps.{IsPhrased}

fault_phrased : (f : RequestFault) → IsTrue (has_phrase (fault_status f))
fault_phrased (fault.Syntax at) = refl
fault_phrased (fault.UnknownMeasure at) = refl
fault_phrased (fault.UnknownDimension at) = refl
fault_phrased (fault.DimensionTwice at) = refl
fault_phrased (fault.UnknownLevel at) = refl
fault_phrased (fault.UnknownMember at) = refl
fault_phrased (fault.Backwards at) = refl
fault_phrased fault.NoMemory = refl

words_phrased : (s : Dims) (g : Public) (r : Request) (t : QueryReply) → IsTrue (has_phrase (status_of (in_words s g r t)))
words_phrased s g r (Answered rows) = refl
words_phrased s g r (Refused v) = refl

read_phrased : (s : Dims) (w : World) (h : List Entry) (asked : Result Request RequestFault) → IsTrue (has_phrase (status_of (reply_where_read s w h asked)))
read_phrased s w h (Ok r) = words_phrased s w.shown r (told w r (verdict w.shown h r))
read_phrased s w h (Err f) = fault_phrased f

-- what is found has a text, or a status with a phrase
abbrev IsFine : Found → Type 0
IsFine (Ok found) = ⊤
IsFine (Err why) = IsTrue (has_phrase why.0)

told_fine : (g : Public) (m : ℕ) (t : WitnessReply) → IsFine (found_of g m t)
told_fine g m NotOfMeasure = refl
told_fine g m EmptyCell = refl
told_fine g m NotProtected = refl
told_fine g m (Changed changes) = tt

at_fine : (g : Public) (h : List Entry) (what : What) (t : Cell) → IsFine (found_at g h what t)
at_fine g h Count t = refl
at_fine g h (Measure m) t = told_fine g m (witnessed g h (Measure m) t)

cell_fine : (b : Bool) (x : Found) → IsFine x → IsFine (cond b x no_cell)
cell_fine true x f = f
cell_fine false x f = refl

by_fine : (s : Dims) (g : Public) (h : List Entry) (asked : Result Request RequestFault) → IsFine (found_by s g h asked)
by_fine s g h (Ok r) = cell_fine (is_cell s r) (found_at g h r.what (cell_of r)) (at_fine g h r.what (cell_of r))
by_fine s g h (Err f) = fault_phrased f

text_phrased : (s : Dims) (g : Public) (x : Found) → IsFine x → IsTrue (has_phrase (status_of (text_reply (text_of s g x))))
text_phrased s g (Ok found) f = refl
text_phrased s g (Err why) f = f

given_phrased : (s : Dims) (q : Question) (w : World) (h : List Entry) → IsTrue (has_phrase (status_of (given_reply s q w h)))
given_phrased s (Query text) w h = read_phrased s w h (request_of s text)
given_phrased s (Witness text) w h = text_phrased s w.shown (found_by s w.shown h (request_of s text)) (by_fine s w.shown h (request_of s text))
given_phrased s Shape w h = refl

question_phrased : (s : Dims) (o : Outcome) (q : Question) (w : World) (h : List Entry) → IsTrue (has_phrase (status_of (reply_by (by_words s) o q w h)))
question_phrased s Given q w h = given_phrased s q w h
question_phrased s JournalFault q w h = refl
question_phrased s NoMemory q w h = refl

missed_phrased : (s : Dims) (o : Outcome) (group : Option (List ℕ)) → IsTrue (has_phrase (status_of (missed_by (by_words s) o group)))
missed_phrased s Given None = refl
missed_phrased s Given (Some name) = refl
missed_phrased s JournalFault group = refl
missed_phrased s NoMemory group = refl

found_phrased : (s : Dims) (found : Option Room) (a : Ask) (o : Outcome) → IsTrue (has_phrase (status_of (reply_by_room (by_words s) found (call a o))))
found_phrased s None a o = missed_phrased s o a.group
found_phrased s (Some room) a o = question_phrased s o a.question room.world room.history

pub phrased : (s : Dims) → IsPhrased (manner s)
phrased s rooms a o = found_phrased s (room_of (aim a.group) rooms) a o
