-- What a log says of the bytes of each connection, and how that stands to what the sockets tell.
use Rattle.std.specs.Prelude.{◌≡◌, ℕ, ◌==◌, false, IsTrue, List, [], ◌∷◌, ◌++◌, length, take, slice_get, if◌then◌else◌, Option, Some, None, Result, Ok, Err}
use Rattle.cube_io.specs.declared.faults.Failed.{Failed}
use Rattle.cube_io.specs.declared.wire.Event.{Event}
use Rattle.cube_io.specs.Wires.{LogEntry, arrival_of, open_after}
use Rattle.cube_io.specs.Wires.Arrival.{Opened, Came, Closed, End}
use Rattle.cube_io.specs.Wires.LogEntry.{Heard, Sent, Torn, Shut}
use Rattle.cube_edge.specs.declared.link.Link.{Link}
use Rattle.cube_edge.specs.declared.link.Look.{Look}
use Rattle.cube_edge.specs.declared.link.Look.TheVariants as look
use Rattle.cube_edge.specs.declared.link.Stage.TheVariants as stage
use Rattle.cube_edge.specs.Ends.{is_ended}
use Rattle.cube_edge.specs.Links.{is_there, is_open}
use Rattle.cube_edge.specs.Sockets.{SocketsState, outgoing}

-- of a connection since it was opened: the bytes that went out, those of sends that failed among them, and the bytes that came
pub record Flow : Type 0 where
  pub sent : List ℕ
  pub came : List ℕ

abbrev pub no_flow : Flow
no_flow = record { sent = []; came = [] }

-- that of connection c behind an entry
abbrev pub flow_by : ℕ → Flow → LogEntry → Flow
flow_by c was (Heard (Opened d)) = if d == c then no_flow else was
flow_by c was (Heard (Came d bytes)) = if d == c then record { sent = was.sent; came = was.came ++ bytes } else was
flow_by c was (Heard (Closed d)) = was
flow_by c was (Heard End) = was
flow_by c was (Sent d bytes) = if d == c then record { sent = was.sent ++ bytes; came = was.came } else was
flow_by c was (Torn d bytes size) = if d == c then record { sent = was.sent ++ bytes; came = was.came } else was
flow_by c was (Shut d) = was

abbrev pub flow_after : ℕ → Flow → List LogEntry → Flow
flow_after c was [] = was
flow_after c was (e ∷ log) = flow_after c (flow_by c was e) log

-- that of connection c behind a log
abbrev pub flow : ℕ → List LogEntry → Flow
flow c log = flow_after c no_flow log

-- Connection c is open where the log says so. Where there is one, what went out by the log is what its socket was given and what waits
-- behind that, and the other side was told that nothing more is written just where it is closed and nothing waits. While it is open,
-- what came by the log, followed by what is unread, is what was taken from its socket.
pub record IsTied (c : ℕ) (sockets : SocketsState) (log : List LogEntry) (link : Link) : Type 0 where
  pub opens : open_after c false log ≡ is_open link.stage
  pub sends : IsTrue (is_there link.stage) → (flow c log).sent ≡ outgoing c sockets link.waiting
  pub comes : IsTrue (is_open link.stage) → (flow c log).came ++ link.unread ≡ (sockets.socket c).taken
  pub ends : IsTrue (is_there link.stage) → (sockets.socket c).shut ≡ is_ended link

-- each connection
abbrev pub AreTied : SocketsState → List LogEntry → List Link → Type 0
AreTied sockets log links = (c : ℕ) (link : Link) → slice_get links c ≡ Some link → IsTied c sockets log link

-- a step that leaves each log as true as it was
abbrev pub Keeps : SocketsState → List Link → SocketsState → List Link → Type 0
Keeps old links new links' = IsTrue old.told → (log : List LogEntry) → AreTied old log links → AreTied new log links'

-- a step behind which each log is as true with an entry more
abbrev pub Takes : LogEntry → SocketsState → List Link → SocketsState → List Link → Type 0
Takes entry old links new links' = IsTrue old.told → (log : List LogEntry) → AreTied old log links → AreTied new (log ++ entry ∷ []) links'

-- a look for an event
abbrev pub TakesEvent : Option Event → List ℕ → SocketsState → List Link → SocketsState → List Link → Type 0
TakesEvent (Some event) buf old links new links' = Takes (Heard (arrival_of event buf)) old links new links'
TakesEvent None buf old links new links' = Keeps old links new links'

abbrev pub TakesNext : Result (Option Event) Failed → List ℕ → SocketsState → List Link → SocketsState → List Link → Type 0
TakesNext (Ok found) buf old links new links' = TakesEvent found buf old links new links'
TakesNext (Err failed) buf old links new links' = Keeps old links new links'

-- an accept
abbrev pub TakesAccept : Result (Option ℕ) Failed → SocketsState → List Link → SocketsState → List Link → Type 0
TakesAccept (Ok (Some c)) old links new links' = Takes (Heard (Opened c)) old links new links'
TakesAccept (Ok None) old links new links' = Keeps old links new links'
TakesAccept (Err failed) old links new links' = Keeps old links new links'

-- a send, or one that failed and of which nothing went out
abbrev pub TakesSend : Result (Unit {0}) Failed → ℕ → List ℕ → SocketsState → List Link → SocketsState → List Link → Type 0
TakesSend (Ok u) c piece old links new links' = Takes (Sent c piece) old links new links'
TakesSend (Err e) c piece old links new links' = Takes (Torn c [] (length piece)) old links new links'

-- a turn of connection c: bytes came, or nothing did, or it is no more
abbrev pub TurnTies : ℕ → Look → List ℕ → SocketsState → Link → SocketsState → Link → Type 0
TurnTies c (look.Piece n) buf old link new link' = (log : List LogEntry) → IsTied c old log link → IsTied c new (log ++ Heard (Came c (take n buf)) ∷ []) link'
TurnTies c look.Quiet buf old link new link' = (log : List LogEntry) → IsTied c old log link → IsTied c new log link'
TurnTies c look.Gone buf old link new link' = link'.stage ≡ stage.Free
