-- What sockets tell of themselves: by the number of each connection the bytes that came and those that went, in order, and how it ends.
use Rattle.std.specs.Prelude.{◌≡◌, ◌≢◌, ◌<◌, ◌≤◌, ℕ, Bool, true, false, IsTrue, List, [], ◌++◌, length, take, Option, Some, None, Result, Ok, Err}
use Rattle.cube_io.specs.Causes.{Rose}
use Rattle.cube_io.specs.declared.faults.Failed.{Failed}
use Rattle.cube_edge.specs.declared.sockets.Gone.{Gone}
use Rattle.cube_edge.specs.declared.link.Look.{Look}
use Rattle.cube_edge.specs.declared.link.Look.TheVariants as look
use Rattle.cube_edge.specs.Lines.{IsLine}

-- Of a connection since it was accepted: the bytes that were taken from its socket and those that it was given; whether the socket is at
-- an end, as a call said that it gives no more or takes no more; and whether the other side was told that nothing more is written.
pub record SocketState : Type 0 where
  pub taken : List ℕ
  pub given : List ℕ
  pub gone : Bool
  pub shut : Bool

-- as it is accepted
abbrev pub new_socket : SocketState
new_socket = record { taken = []; given = []; gone = false; shut = false }

-- Of sockets: how often they failed, whether they tell, each connection, the milliseconds that were told last, and how often it was
-- waited, up to the end of its type.
pub record SocketsState : Type 0 where
  pub faults : ℕ
  pub told : Bool
  pub socket : ℕ → SocketState
  pub clock : ℕ
  pub waits : ℕ

-- sockets that tell nothing
abbrev pub silent_sockets : ℕ → SocketsState
silent_sockets faults = record { faults = faults; told = false; socket = λ c. new_socket; clock = 0; waits = 0 }

-- the other connections than c are as they were
abbrev pub Elsewhere : ℕ → SocketsState → SocketsState → Type 0
Elsewhere c old new = (d : ℕ) → d ≢ c → new.socket d ≡ old.socket d

-- no time was told, and it was not waited
pub record SameTime (old new : SocketsState) : Type 0 where
  pub clock : new.clock ≡ old.clock
  pub waits : new.waits ≡ old.waits

-- a call on connection c left the others as they were, and was no fault
pub record OnlyOn (c : ℕ) (old new : SocketsState) : Type 0 where
  pub faults : new.faults ≡ old.faults
  pub told : new.told ≡ old.told
  pub time : SameTime old new
  pub elsewhere : IsTrue old.told → Elsewhere c old new

-- no connection changed
pub record MovedNothing (old new : SocketsState) : Type 0 where
  pub told : new.told ≡ old.told
  pub each : IsTrue old.told → (d : ℕ) → new.socket d ≡ old.socket d

-- of connection c these bytes were taken more, and these it was given; and so its socket is at an end, or not
pub record Moved (c : ℕ) (took gave : List ℕ) (gone : Bool) (old new : SocketsState) : Type 0 where
  pub taken : (new.socket c).taken ≡ (old.socket c).taken ++ took
  pub given : (new.socket c).given ≡ (old.socket c).given ++ gave
  pub gone_is : (new.socket c).gone ≡ gone
  pub shut_is : (new.socket c).shut ≡ (old.socket c).shut

-- connection c was accepted, and the others are as they were
pub record Accepted (c : ℕ) (old new : SocketsState) : Type 0 where
  pub fresh : new.socket c ≡ new_socket
  pub others : Elsewhere c old new

-- an accept: of a connection that was there, or no byte moved
abbrev pub AcceptTells : ℕ → Result Bool Failed → SocketsState → SocketsState → Type 0
AcceptTells c (Ok true) old new = Accepted c old new
AcceptTells c (Ok false) old new = MovedNothing old new
AcceptTells c (Err e) old new = MovedNothing old new

-- a wait: the time is told that it gave, or that from before, no time goes back, and the wait counts
abbrev pub clock_after : Result ℕ Failed → ℕ → ℕ
clock_after (Ok now) clock = now
clock_after (Err e) clock = clock

pub record WaitTells (result : Result ℕ Failed) (old new : SocketsState) : Type 0 where
  pub clock_is : new.clock ≡ clock_after result old.clock
  pub later : old.clock ≤ new.clock
  pub counted : Rose old.waits new.waits

-- a read: the bytes at the front of the buffer, or none; behind one that failed the socket is at an end
abbrev pub ReadTells : ℕ → Result (Option ℕ) Gone → List ℕ → SocketsState → SocketsState → Type 0
ReadTells c (Ok (Some n)) buf old new = Moved c (take n buf) [] (old.socket c).gone old new
ReadTells c (Ok None) buf old new = Moved c [] [] (old.socket c).gone old new
ReadTells c (Err e) buf old new = Moved c [] [] true old new

-- a write: so many bytes of the piece, or none; behind one that failed the socket is at an end
abbrev pub WriteTells : ℕ → Result ℕ Gone → List ℕ → SocketsState → SocketsState → Type 0
WriteTells c (Ok n) piece old new = Moved c [] (take n piece) (old.socket c).gone old new
WriteTells c (Err e) piece old new = Moved c [] [] true old new

-- the other side was told that nothing more is written
abbrev pub shut_down : SocketState → SocketState
shut_down s = record { taken = s.taken; given = s.given; gone = s.gone; shut = true }

abbrev pub shut_if : Bool → SocketState → SocketState
shut_if true s = shut_down s
shut_if false s = s

-- what goes out on connection c: what it was given, and what waits behind that
abbrev pub outgoing : ℕ → SocketsState → List ℕ → List ℕ
outgoing c sockets waiting = (sockets.socket c).given ++ waiting

-- a piece has a byte, stands in the buffer, and has no line feed but at its end
abbrev pub LookFits : Look → List ℕ → Type 0
LookFits (look.Piece n) buf = (0 < n) × (n ≤ length buf) × IsLine (take n buf)
LookFits look.Quiet buf = Unit {0}
LookFits look.Gone buf = Unit {0}

-- A look at connection c gave a piece. Where what came before, followed by what was unread, had been taken from the socket, so have
-- what came before, the piece, and what is unread now.
abbrev pub Gives : ℕ → List ℕ → SocketsState → List ℕ → SocketsState → List ℕ → Type 0
Gives c piece old unread new unread' = (came : List ℕ) → came ++ unread ≡ (old.socket c).taken → came ++ (piece ++ unread') ≡ (new.socket c).taken

-- a look at connection c: the bytes at the front of the buffer, or none; one that is no more gives nothing
abbrev pub LookTells : ℕ → Look → List ℕ → SocketsState → List ℕ → SocketsState → List ℕ → Type 0
LookTells c (look.Piece n) buf old unread new unread' = Gives c (take n buf) old unread new unread'
LookTells c look.Quiet buf old unread new unread' = Gives c [] old unread new unread'
LookTells c look.Gone buf old unread new unread' = Unit {0}
