-- A wire that plays a script: what it plays, its log and its space, and what each call is answered.
use Rattle.std.specs.Prelude.{◌≡◌, ◌<◌, ◌≤◌, ℕ, ◌+◌, Bool, true, false, ◌&&◌, ◌||◌, ◌==◌, nat_lt, nat_le, List, [], ◌∷◌, ◌++◌, length, if◌then◌else◌, sum_by, count_by, Option, None, slice_get, Result, Ok, Err}
use Rattle.std.specs.List.{list_any, list_all}
use Rattle.cube_io.specs.Seen.{WireState}
use Rattle.cube_io.specs.Wires.{Arrival, LogEntry, events_in}
use Rattle.cube_io.specs.Wires.Arrival.{End}
use Rattle.cube_io.specs.Wires.LogEntry.{Heard, Sent, Torn, Shut}
use Rattle.cube_script.specs.declared.script_wire.SendCapacity.{SendCapacity}
use Rattle.cube_script.specs.declared.play.ScriptFault.{ScriptFault}
use Rattle.cube_script.specs.declared.play.ScriptFault.TheVariants.{Line}

-- the entry notes a send that failed
abbrev pub is_torn : LogEntry → Bool
is_torn (Heard e) = false
is_torn (Sent c bytes) = false
is_torn (Torn c bytes size) = true
is_torn (Shut c) = false

-- a send failed
abbrev pub has_torn : List LogEntry → Bool
has_torn log = list_any is_torn log

-- the entry notes a send that went well
abbrev pub is_sent : LogEntry → Bool
is_sent (Heard e) = false
is_sent (Sent c bytes) = true
is_sent (Torn c bytes size) = false
is_sent (Shut c) = false

-- how many bytes it has
abbrev pub sent_size : LogEntry → ℕ
sent_size (Heard e) = 0
sent_size (Sent c bytes) = length bytes
sent_size (Torn c bytes size) = 0
sent_size (Shut c) = 0

-- no byte went out by a send that failed
abbrev pub is_settled : LogEntry → Bool
is_settled (Heard e) = true
is_settled (Sent c bytes) = true
is_settled (Torn c bytes size) = length bytes == 0
is_settled (Shut c) = true

-- A wire that plays a script: all that it plays, its log, the addresses that were heard, each with the seconds that a connection may be
-- still there, the space for sends that go well, whether an address was refused, and how often calls failed, and sends.
pub record Playing : Type 0 where
  pub script : List Arrival
  pub log : List LogEntry
  pub heard : List (List ℕ × ℕ)
  pub most : SendCapacity
  pub spilled : Bool
  pub faults : ℕ
  pub send_faults : ℕ

-- as it begins: it plays the events, and then the end
abbrev pub starting : List Arrival → SendCapacity → Playing
starting events most = record { script = events ++ End ∷ []; log = []; heard = []; most = most; spilled = false; faults = 0; send_faults = 0 }

-- a wire that tells its log, on which nothing came or went out, that was asked for no address, and that never failed
pub record IsFresh (wire : WireState) : Type 0 where
  pub told : wire.told ≡ true
  pub log : wire.log ≡ []
  pub heard : wire.heard ≡ []
  pub faults : wire.faults ≡ 0
  pub send_faults : wire.send_faults ≡ 0

-- what is answered to the events of a script, or to its first line that is refused
abbrev pub started : Result (List Arrival) ℕ → SendCapacity → Result Playing ScriptFault
started (Ok events) most = Ok (starting events most)
started (Err n) most = Err (Line n)

-- the event that comes next, if one does: none comes behind a send that failed
abbrev pub next_of : Playing → Option Arrival
next_of w = if has_torn w.log then None else slice_get w.script (length (events_in w.log))

-- behind the log a send of so many bytes would pass the space for sends
abbrev pub passes_capacity_by : SendCapacity → List LogEntry → ℕ → Bool
passes_capacity_by most log size = nat_le most.sends (count_by is_sent log) || nat_lt most.bytes (sum_by sent_size log + size)

-- a send of these bytes would
abbrev pub passes_capacity : SendCapacity → List LogEntry → List ℕ → Bool
passes_capacity most log piece = passes_capacity_by most log (length piece)

-- a send of these bytes fails: an earlier one did, or it would pass the space for sends
abbrev pub is_refused : Playing → List ℕ → Bool
is_refused w piece = has_torn w.log || passes_capacity w.most w.log piece

-- the most addresses, and the most bytes of them
abbrev pub max_addresses : ℕ
max_addresses = 8

abbrev pub max_address_bytes : ℕ
max_address_bytes = 1024

-- there is space for an address
abbrev pub has_capacity_for : Playing → List ℕ → Bool
has_capacity_for w address = nat_lt (length w.heard) max_addresses && nat_le (sum_by (λ heard. length heard.0) w.heard + length address) max_address_bytes

-- A send failed, and the first that did would have passed the space for sends behind what went out before it. Behind it no send goes
-- well, and no event comes.
pub record Overran (most : SendCapacity) (log : List LogEntry) : Type 0 where
  pub before : List LogEntry
  pub conn : ℕ
  pub size : ℕ
  pub behind : List LogEntry
  pub whole : log ≡ before ++ Torn conn [] size ∷ behind
  pub first : has_torn before ≡ false
  pub passes : passes_capacity_by most before size ≡ true
  pub unsent : count_by is_sent behind ≡ 0
  pub unheard : events_in behind ≡ []

-- A script ends with the end; of a log under it, no send failed but where it would have passed the space, and nothing went out of one that
-- failed; and one failed where the count of failed sends is not 0.
pub record FailsWell (script : List Arrival) (most : SendCapacity) (log : List LogEntry) (send_faults : ℕ) : Type 0 where
  pub ends : (events : List Arrival) × (script ≡ events ++ End ∷ [])
  pub nothing : list_all is_settled log ≡ true
  pub cause : has_torn log ≡ true → Overran most log
  pub sound : has_torn log ≡ false → send_faults ≡ 0
  pub broken : has_torn log ≡ true → 0 < send_faults

-- What holds of each such wire, whatever was called: its sends fail so; it has given the first events of its script, and no send passed
-- the space; and while none failed no other call did, but for one with an address too many or behind the end.
pub record IsPlaying (w : Playing) : Type 0 where
  pub fails : FailsWell w.script w.most w.log w.send_faults
  pub events : (rest : List Arrival) × (w.script ≡ events_in w.log ++ rest)
  pub sends : count_by is_sent w.log ≤ w.most.sends
  pub sent : sum_by sent_size w.log ≤ w.most.bytes
  pub steady : has_torn w.log ≡ false → w.spilled ≡ false → length (events_in w.log) < length w.script → w.faults ≡ 0
