-- What the connections that are open keep of what came on them.
use Rattle.std.specs.Prelude.{◌≡◌, ⊤, ℕ, ◌+◌, ◌≤◌, ◌==◌, ◌⊎◌, ◌<◌, if◌then◌else◌, Bool, true, false, List, [], ◌∷◌, ◌++◌, length, vec_len, vec_capacity}
use Rattle.std.specs.List.{list_any}
use Rattle.cube_io.specs.Wires.{LogEntry, IsSound}
use Rattle.cube_io.specs.declared.wire.Event.{Event}
use Rattle.cube_io.specs.declared.wire.Event.TheVariants as event
use Rattle.cube_http.specs.Laws.{later}
use Rattle.cube_http.specs.Stream.{Placed, Item, items}
use Rattle.cube_http.specs.Stream.Item.{Continue, Whole, Bad}
use Rattle.cube_http.specs.declared.connection.Conn.{Conn}
use Rattle.cube_http.specs.declared.connection.Conn.TheVariants as conn
use Rattle.cube_http.specs.declared.connection.Heard.{Heard}
use Rattle.cube_http.specs.declared.connection.Heard.TheVariants as heard
use Rattle.cube_server.specs.declared.lines.Ear.{Ear}
use Rattle.cube_server.specs.declared.lines.Ear.TheVariants as ear
use Rattle.cube_server.specs.declared.deal.Left.{Left}
use Rattle.cube_server.specs.declared.deal.Left.TheVariants as left
use Rattle.cube_server.specs.declared.lines.Line.{Line}
use Rattle.cube_server.specs.declared.lines.Lines.{Lines}

-- the bytes that are kept of the request that is heard
abbrev pub kept_bytes : Ear → List ℕ
kept_bytes (ear.Head bytes) = bytes
kept_bytes (ear.Body bytes) = bytes

-- what these bytes have said already
abbrev pub said_before : Ear → List Placed
said_before (ear.Head bytes) = []
said_before (ear.Body bytes) = items bytes

-- Behind this stream the items go on as those of the kept bytes do.
pub record Keeps (stream bytes : List ℕ) : Type 0 where
  pub past : List Placed
  pub far : ℕ
  pub goes_on : (more : List ℕ) → items (stream ++ more) ≡ past ++ later far (items (bytes ++ more))

-- the connections are those with these streams, in the same order
abbrev pub AreKept : List Line → List (ℕ × List ℕ) → Type 0
AreKept [] [] = ⊤
AreKept [] (o ∷ conns) = ⊥
AreKept (l ∷ lines) [] = ⊥
AreKept (l ∷ lines) (o ∷ conns) = (l.number ≡ o.0) × Keeps o.1 (kept_bytes l.ear) × AreKept lines conns

-- a connection has the number
abbrev pub has : ℕ → List Line → Bool
has c lines = list_any (λ l. l.number == c) lines

-- the test of the number
abbrev pub at_number : ℕ → Line → Bool
at_number c l = l.number == c

-- the connection of the number was taken out
pub record IsTakenOut (c : ℕ) (ear : Ear) (old new : List Line) : Type 0 where
  pub front : List Line
  pub after : List Line
  pub first : has c front ≡ false
  pub was : old ≡ front ++ record { number = c; ear = ear } ∷ after
  pub now : new ≡ front ++ after

-- a connection of the number is to be new: one was taken out, or there was none and there is space
abbrev pub IsAnew : ℕ → List Line → List Line → Type 0
IsAnew c old new = ((ear : Ear) × IsTakenOut c ear old new) ⊎ ((has c old ≡ false) × (length old < 64) × (new ≡ old))

-- each connection is open behind the log, and they have different numbers
abbrev pub AreOpen : List Line → List LogEntry → Type 0
AreOpen [] log = ⊤
AreOpen (l ∷ lines) log = IsSound l.number log × (has l.number lines ≡ false) × AreOpen lines log

-- There is space for all connections; so many are lent out.
pub record HasCapacity (lines : Lines) (lent : ℕ) : Type 0 where
  pub few : vec_len lines.lines + vec_len lines.spare + lent ≡ 64
  pub lines_room : 64 ≤ vec_capacity lines.lines
  pub spare_room : 64 ≤ vec_capacity lines.spare

-- ---- what was heard

-- the client waits for leave to send a body
abbrev pub is_continue : Heard → Bool
is_continue heard.More = false
is_continue heard.Continue = true
is_continue heard.Whole = false
is_continue (heard.Bad fixed) = false

abbrev pub said_in_body : Bool → List Item
said_in_body waits = if waits then Continue ∷ [] else []

abbrev pub said_to_dead : Heard → List Item
said_to_dead heard.More = []
said_to_dead heard.Continue = []
said_to_dead heard.Whole = []
said_to_dead (heard.Bad fixed) = Bad fixed ∷ []

-- the item that was heard, if any
abbrev pub said : Heard → Conn → List Item
said h (conn.Head bytes) = []
said h (conn.Body bytes) = said_in_body (is_continue h)
said h (conn.Done request) = Whole request ∷ []
said h (conn.Dead dead) = said_to_dead h

abbrev pub IsBad : Heard → Type 0
IsBad heard.More = ⊥
IsBad heard.Continue = ⊥
IsBad heard.Whole = ⊥
IsBad (heard.Bad fixed) = ⊤

-- a connection is dead only where its bytes were refused
abbrev pub Fits : Heard → Conn → Type 0
Fits h (conn.Head bytes) = ⊤
Fits h (conn.Body bytes) = ⊤
Fits h (conn.Done request) = ⊤
Fits h (conn.Dead dead) = IsBad h

-- ---- what became of a connection

abbrev pub is_on : Left → Bool
is_on (left.On ear) = true
is_on (left.Off head) = false

-- where it is open, it keeps these bytes
abbrev pub OnKeeps : Left → List ℕ → Type 0
OnKeeps (left.On ear) bytes = kept_bytes ear ≡ bytes
OnKeeps (left.Off head) bytes = ⊤

-- where it is open, it keeps what goes on as this stream does
abbrev pub OnGoes : Left → List ℕ → Type 0
OnGoes (left.On ear) stream = Keeps stream (kept_bytes ear)
OnGoes (left.Off head) stream = ⊤

-- it is open only where its bytes were not refused, and keeps what was heard
abbrev pub OnLeaves : Left → Conn → Type 0
OnLeaves l (conn.Head bytes) = OnKeeps l bytes
OnLeaves l (conn.Body bytes) = OnKeeps l bytes
OnLeaves l (conn.Done request) = OnKeeps l []
OnLeaves l (conn.Dead dead) = is_on l ≡ false

-- ---- behind an event

-- so are all of them but the one with this number
abbrev pub AreOpenBut : ℕ → List Line → List LogEntry → Type 0
AreOpenBut c [] log = ⊤
AreOpenBut c (l ∷ lines) log = ((c == l.number) ≡ false → IsSound l.number log) × (has l.number lines ≡ false) × AreOpenBut c lines log

-- what is known of the connections behind an event
abbrev pub AreOpenAt : Event → List Line → List LogEntry → Type 0
AreOpenAt (event.Opened c) lines log = AreOpenBut c lines log × IsSound c log
AreOpenAt (event.Piece c n) lines log = AreOpen lines log
AreOpenAt (event.Closed c) lines log = AreOpenBut c lines log
AreOpenAt event.End lines log = AreOpen lines log

-- the event is the end
abbrev pub is_last : Event → Bool
is_last (event.Opened c) = false
is_last (event.Piece c n) = false
is_last (event.Closed c) = false
is_last event.End = true
