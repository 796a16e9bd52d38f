-- What failed gets its constant reply and leaves the rooms: the proof of the law of a desk.
use Rattle.std.specs.Prelude.{◌≡◌, refl, Bool, true, false, cond, List, [], ◌∷◌, Option, Some, None}
use Rattle.cube_model.specs.declared.ask.Ask.{Ask}
use Rattle.cube_model.specs.declared.outcome.Outcome.TheVariants.{JournalFault, NoMemory}
use Rattle.cube_model.specs.declared.reply.Fixed.TheVariants as constant
use Rattle.cube_model.specs.declared.reply.Reply.TheVariants.{Fixed}
use Rattle.cube_model.specs.Cubes.{same}
use Rattle.cube_model.specs.Dims.{Dims}
use Rattle.cube_model.specs.Rooms.{Room, aim, room_of, reply_by_room}
use Rattle.cube_io.specs.Desks.{IsConstant}
use Rattle.cube_engine.specs.Steps.{by_words, call, manner}

fault_reply : (s : Dims) (found : Option Room) (a : Ask) → reply_by_room (by_words s) found (call a JournalFault) ≡ Fixed constant.JournalFault
fault_reply s None a = refl
fault_reply s (Some room) a = refl

memory_reply : (s : Dims) (found : Option Room) (a : Ask) → reply_by_room (by_words s) found (call a NoMemory) ≡ Fixed constant.NoMemory
memory_reply s None a = refl
memory_reply s (Some room) a = refl

-- a room whose history stays whether it is meant or not
one_of : (room : Room) (b : Bool) → record { name = room.name; world = room.world; history = cond b room.history room.history } ≡ room
one_of room true = refl
one_of room false = refl

fault_next : (s : Dims) (a : Ask) (rooms : List Room) → (manner s).next rooms a JournalFault ≡ rooms
fault_next s a [] = refl
fault_next s a (room ∷ rooms) = rw (one_of room (same (aim a.group) room.name), fault_next s a rooms) refl

memory_next : (s : Dims) (a : Ask) (rooms : List Room) → (manner s).next rooms a NoMemory ≡ rooms
memory_next s a [] = refl
memory_next s a (room ∷ rooms) = rw (one_of room (same (aim a.group) room.name), memory_next s a rooms) refl

pub manner_is_constant : (s : Dims) → IsConstant (manner s)
manner_is_constant s = record {
  fault = λ rooms a. (fault_reply s (room_of (aim a.group) rooms) a, fault_next s a rooms);
  memory = λ rooms a. (memory_reply s (room_of (aim a.group) rooms) a, memory_next s a rooms);
}
