-- A manner of the worked examples: a query is answered with its text, and no room changes.
use Rattle.std.specs.Prelude.{refl, ℕ, Bool, true, List, [], ◌∷◌, ◌++◌, take, drop, map, Option, Some, None, codes}
use Rattle.std.specs.List.{filter_map}
use Rattle.cube_model.specs.declared.ask.Ask.{Ask}
use Rattle.cube_model.specs.declared.ask.Question.{Question}
use Rattle.cube_model.specs.declared.ask.Question.TheVariants as question
use Rattle.cube_model.specs.declared.outcome.Outcome.{Outcome}
use Rattle.cube_model.specs.declared.outcome.Outcome.TheVariants.{Given, JournalFault, NoMemory}
use Rattle.cube_model.specs.declared.reply.Fixed.{Fixed}
use Rattle.cube_model.specs.declared.reply.Fixed.TheVariants as constant
use Rattle.cube_model.specs.declared.reply.Kind.TheVariants as kind
use Rattle.cube_model.specs.declared.reply.Reply.{Reply}
use Rattle.cube_model.specs.declared.reply.Reply.TheVariants as reply
use Rattle.cube_io.specs.Desks.{Manner, IsConstant}
use Rattle.cube_io.specs.Wires.{Arrival, LogEntry}
use Rattle.cube_io.specs.Wires.Arrival.{Opened, Came, Closed, End}
use Rattle.cube_io.specs.Wires.LogEntry.{Heard, Sent, Torn, Shut}
use Rattle.cube_http.specs.Examples.{head, host}
use Rattle.cube_http.specs.Responses.{head_bytes}
use Rattle.cube_server.specs.Logs.{Luck, log_of, calls_of}

abbrev pub said_again : Question → Reply
said_again (question.Query text) = reply.Made 200 kind.Csv text
said_again (question.Witness text) = reply.Fixed constant.NoPath
said_again question.Shape = reply.Fixed constant.NoPath

abbrev pub echoed : Ask → Outcome → Reply
echoed a Given = said_again a.question
echoed a JournalFault = reply.Fixed constant.JournalFault
echoed a NoMemory = reply.Fixed constant.NoMemory

abbrev pub echo : Manner
echo = record { reply = λ rooms a o. echoed a o; next = λ rooms a o. rooms }

-- the text of a question
abbrev pub text_of : Question → List ℕ
text_of (question.Query text) = text
text_of (question.Witness text) = text
text_of question.Shape = []

-- a log without its events
abbrev pub is_out : LogEntry → Option LogEntry
is_out (Heard e) = None
is_out (Sent c bytes) = Some (Sent c bytes)
is_out (Torn c bytes size) = Some (Torn c bytes size)
is_out (Shut c) = Some (Shut c)

-- what goes out and is closed, over no room
abbrev pub played : List Arrival → Luck → List LogEntry
played events luck = filter_map is_out (log_of echo [] events luck)

-- the texts that are asked
abbrev pub texts : List Arrival → Luck → List (List ℕ)
texts events luck = map (λ c. text_of c.ask.question) (calls_of echo [] events luck)

abbrev pub get : List ℕ → List ℕ
get q = head ((codes "GET /v1/query?q=" ++ q ++ codes " HTTP/1.1") ∷ host ∷ [])

abbrev pub ok_head : ℕ → List ℕ
ok_head digit = head (codes "HTTP/1.1 200 OK" ∷ codes "Content-Type: text/csv; charset=utf-8" ∷ (codes "Content-Length: " ++ digit ∷ []) ∷ [])

abbrev pub ample : List Outcome → List (Option ℕ) → List Bool → Luck
ample outcomes sends starved = record { asks = 9; events = 99; outcomes = outcomes; sends = sends; starved = starved }

-- two connections, the first in two halves and with a second request behind
abbrev pub mixed_events : List Arrival
mixed_events = Opened 1 ∷ Opened 2 ∷ Came 1 (take 20 (get (codes "a"))) ∷ Came 2 (get (codes "b")) ∷ Came 1 (drop 20 (get (codes "a")) ++ get (codes "c")) ∷ End ∷ []

-- a head without a host, and a head of another version
abbrev pub refused_events : List Arrival
refused_events = Opened 1 ∷ Came 1 (head (codes "GET / HTTP/1.1" ∷ [])) ∷ Opened 2 ∷ Came 2 (head (codes "GET / HTTP/1.0" ∷ [])) ∷ []

-- a connection that is closed in the middle of a request and opened again
abbrev pub anew_events : List Arrival
anew_events = Opened 1 ∷ Came 1 (take 20 (get (codes "a"))) ∷ Closed 1 ∷ Came 1 (drop 20 (get (codes "a"))) ∷ Opened 1 ∷ Came 1 (get (codes "b")) ∷ End ∷ []

-- a constant reply with its text and a line feed, and the close of the connection
abbrev pub refused_with : ℕ → Fixed → List ℕ → List LogEntry
refused_with c f text = Sent c (head_bytes (reply.Fixed f) true) ∷ Sent c (text ++ 10 ∷ []) ∷ Shut c ∷ []

-- what failed gets its constant reply
pub echo_is_constant : IsConstant echo
echo_is_constant = record { fault = λ rooms a. (refl, refl); memory = λ rooms a. (refl, refl) }
