-- Rooms: worlds with a name and a history each, which one server answers for.
use Rattle.std.specs.Prelude.{◌≡◌, ℕ, Bool, List, [], ◌∷◌, map, find, if◌then◌else◌, Option, Some, None, ⊤, pos, ◌+ℤ◌}
use Rattle.cube_model.specs.declared.cell.Cell.{Cell}
use Rattle.cube_model.specs.declared.entry.Entry.{Entry}
use Rattle.cube_model.specs.declared.outcome.Outcome.{Outcome}
use Rattle.cube_model.specs.declared.outcome.Outcome.TheVariants.{Given, JournalFault, NoMemory}
use Rattle.cube_model.specs.Cubes.{World, IsWorld, same, IsIn}
use Rattle.cube_model.specs.Protection.{protected}
use Rattle.cube_model.specs.Verdicts.{IsAdmissible}
use Rattle.cube_model.specs.Twins.{changes, twin, sum_of}
use Rattle.cube_model.specs.Runs.{Question, Stepper, Turn, reply, next, replies, end, by_rules}

pub record Room : Type 0 where
  pub name : List ℕ
  pub world : World
  pub history : List Entry

-- a turn, and the group that its question names, if any
pub record Call (Q : Type 0) : Type 0 where
  pub group : Option (List ℕ)
  pub turn : Turn Q

-- a question that names no group goes to the room with the empty name
abbrev pub aim : Option (List ℕ) → List ℕ
aim None = []
aim (Some name) = name

abbrev pub goes_to : {Q : Type 0} → List ℕ → Call Q → Bool
goes_to name c = same (aim c.group) name

-- the room with the name
abbrev pub room_of : List ℕ → List Room → Option Room
room_of name rooms = find (λ room. same room.name name) rooms

-- the reply where no room has the name
abbrev pub missed_by : {Q R : Type 0} → Stepper Q R → Outcome → Option (List ℕ) → R
missed_by s Given group = s.missed group
missed_by s JournalFault group = s.journal_fault
missed_by s NoMemory group = s.no_memory

abbrev pub reply_by_room : {Q R : Type 0} → Stepper Q R → Option Room → Call Q → R
reply_by_room s None c = missed_by s c.turn.outcome c.group
reply_by_room s (Some room) c = reply s room.world room.history c.turn

-- the reply at a turn over rooms: that of the room that it goes to
abbrev pub reply_in : {Q R : Type 0} → Stepper Q R → List Room → Call Q → R
reply_in s rooms c = reply_by_room s (room_of (aim c.group) rooms) c

-- a room behind a turn: one that goes elsewhere changes nothing
abbrev pub next_room : {Q R : Type 0} → Stepper Q R → Call Q → Room → Room
next_room s c room = record { name = room.name; world = room.world; history = if goes_to room.name c then next s room.world.shown room.history c.turn else room.history }

abbrev pub next_in : {Q R : Type 0} → Stepper Q R → List Room → Call Q → List Room
next_in s rooms c = map (next_room s c) rooms

-- the replies at some turns over rooms, one after another
abbrev pub replies_in : {Q R : Type 0} → Stepper Q R → List Room → List (Call Q) → List R
replies_in s rooms [] = []
replies_in s rooms (c ∷ cs) = reply_in s rooms c ∷ replies_in s (next_in s rooms c) cs

-- the rooms at the end
abbrev pub end_in : {Q R : Type 0} → Stepper Q R → List Room → List (Call Q) → List Room
end_in s rooms [] = rooms
end_in s rooms (c ∷ cs) = end_in s (next_in s rooms c) cs

-- no later room has the name of an earlier one
abbrev pub AreApart : List Room → Type 0
AreApart [] = ⊤
AreApart (room ∷ rooms) = (room_of room.name rooms ≡ None) × AreApart rooms

-- one room with the empty name, and a turn that names no group
abbrev pub alone : World → List Entry → List Room
alone w h = record { name = []; world = w; history = h } ∷ []

abbrev pub plain : {Q : Type 0} → Turn Q → Call Q
plain t = record { group = None; turn = t }

-- one room with the empty name answers as its world and its history do
pub record IsPlain {Q R : Type 0} (s : Stepper Q R) (w : World) (h : List Entry) (turns : List (Turn Q)) : Type 0 where
  pub same_replies : replies_in s (alone w h) (map plain turns) ≡ replies s w h turns
  pub same_end : end_in s (alone w h) (map plain turns) ≡ alone w (end s w.shown h turns)

abbrev pub OneRoomIsPlain : {Q R : Type 0} → Stepper Q R → Type 0
OneRoomIsPlain {Q} {R} s = (w : World) (h : List Entry) (turns : List (Turn Q)) → IsPlain s w h turns

-- the turns that go to a name, and the replies at their places
abbrev pub turns_to : {Q : Type 0} → List ℕ → List (Call Q) → List (Turn Q)
turns_to name [] = []
turns_to name (c ∷ cs) = if goes_to name c then c.turn ∷ turns_to name cs else turns_to name cs

abbrev pub replies_to : {Q R : Type 0} → List ℕ → List (Call Q) → List R → List R
replies_to name [] rs = []
replies_to name (c ∷ cs) [] = []
replies_to name (c ∷ cs) (r ∷ rs) = if goes_to name c then r ∷ replies_to name cs rs else replies_to name cs rs

-- the room at the end of the turns that go to it
abbrev pub ended : {Q R : Type 0} → Stepper Q R → List (Call Q) → Room → Room
ended s cs room = record { name = room.name; world = room.world; history = end s room.world.shown room.history (turns_to room.name cs) }

-- the replies at the turns that go to a room are those of its world and history at these turns alone, and so is its end
pub record IsByItself {Q R : Type 0} (s : Stepper Q R) (rooms : List Room) (cs : List (Call Q)) (room : Room) : Type 0 where
  pub same_replies : replies_to room.name cs (replies_in s rooms cs) ≡ replies s room.world room.history (turns_to room.name cs)
  pub same_end : IsIn (ended s cs room) (end_in s rooms cs)

-- What goes to other rooms doesn't enter.
abbrev pub RoomsAreByThemselves : {Q R : Type 0} → Stepper Q R → Type 0
RoomsAreByThemselves {Q} {R} s = (rooms : List Room) (cs : List (Call Q)) (room : Room) → AreApart rooms → IsIn room rooms → IsByItself s rooms cs room

-- the rooms with another world in the one of the name
abbrev pub other_world : List ℕ → World → Room → Room
other_world name v room = record { name = room.name; world = if same room.name name then v else room.world; history = room.history }

abbrev pub with_world : List ℕ → World → List Room → List Room
with_world name v rooms = map (other_world name v) rooms

-- with another world in one room alone all replies of all rooms are the same, and so are the rooms at the end but for that world
pub record IsLikewise {Q R : Type 0} (s : Stepper Q R) (rooms : List Room) (cs : List (Call Q)) (room : Room) (v : World) : Type 0 where
  pub same_replies : replies_in s (with_world room.name v rooms) cs ≡ replies_in s rooms cs
  pub same_end : end_in s (with_world room.name v rooms) cs ≡ with_world room.name v (end_in s rooms cs)

-- It is so for whatever world shows the same and gives the same replies at the turns that go to that room.
abbrev pub OtherWorldsAreLikewise : {Q R : Type 0} → Stepper Q R → Type 0
OtherWorldsAreLikewise {Q} {R} s = (rooms : List Room) (cs : List (Call Q)) (room : Room) (v : World) → AreApart rooms → IsIn room rooms → v.shown ≡ room.world.shown
    → replies s v room.history (turns_to room.name cs) ≡ replies s room.world room.history (turns_to room.name cs) → IsLikewise s rooms cs room v

-- and under the rules the sum of the cell is greater by one
pub record IsOpenIn (rooms : List Room) (cs : List (Call Question)) (room : Room) (v : World) (m : ℕ) (t : Cell) : Type 0 where
  pub likewise : IsLikewise by_rules rooms cs room v
  pub other_sum : sum_of v m t ≡ sum_of room.world m t +ℤ pos 1

-- The changes by a room's own history at the end open its cell in that room alone.
abbrev pub RoomsAreOpen : Type 0
RoomsAreOpen = (rooms : List Room) (cs : List (Call Question)) (room : Room) (m : ℕ) (t : Cell) → AreApart rooms → IsIn room rooms → IsWorld room.world → IsAdmissible room.world.shown room.history → IsIn t (protected room.world.shown m) → IsOpenIn rooms cs room (twin room.world m (changes room.world.shown (ended by_rules cs room).history m t)) m t
