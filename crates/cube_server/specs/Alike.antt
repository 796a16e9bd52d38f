-- The same log over other rooms.
use Rattle.std.specs.Prelude.{◌≡◌, ⊤, List, [], ◌∷◌}
use Rattle.cube_model.specs.Rooms.{Room}
use Rattle.cube_io.specs.Desks.{Manner}
use Rattle.cube_io.specs.Wires.{Arrival}
use Rattle.cube_server.specs.Crashes.{after}
use Rattle.cube_server.specs.Logs.{Call, Luck, log_of, calls_of, end_of}

-- the replies to these asks, one after another, are the same over either rooms
abbrev pub SameReplies : Manner → List Room → List Room → List Call → Type 0
SameReplies m rooms others [] = ⊤
SameReplies m rooms others (c ∷ calls) = (m.reply others c.ask c.outcome ≡ m.reply rooms c.ask c.outcome) × SameReplies m (m.next rooms c.ask c.outcome) (m.next others c.ask c.outcome) calls

-- Over the other rooms the log is the same, and so are the asks; these lead from either rooms to those at the end.
pub record AreAlike (m : Manner) (rooms others : List Room) (events : List Arrival) (luck : Luck) : Type 0 where
  pub same_log : log_of m others events luck ≡ log_of m rooms events luck
  pub same_calls : calls_of m others events luck ≡ calls_of m rooms events luck
  pub ended : end_of m rooms events luck ≡ after m rooms (calls_of m rooms events luck)
  pub others_ended : end_of m others events luck ≡ after m others (calls_of m rooms events luck)

-- Where each reply is the same the log is the same.
abbrev pub LogsAreAlike : Type 0
LogsAreAlike = (m : Manner) (rooms others : List Room) (events : List Arrival) (luck : Luck) → SameReplies m rooms others (calls_of m rooms events luck) → AreAlike m rooms others events luck
