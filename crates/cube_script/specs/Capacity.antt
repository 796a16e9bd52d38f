-- The space that a wire needs which plays a script, and that it has it.
use Rattle.std.specs.Prelude.{◌≡◌, ◌<◌, ◌≤◌, ⊤, ℕ, ◌+◌, ◌^◌, Bool, false, List, [], ◌∷◌, ◌++◌, length, take, drop, map, sum_by, count_by}
use Rattle.cube_model.specs.Cubes.{Each}
use Rattle.cube_io.specs.Scrolls.{Roll, owed_by}
use Rattle.cube_io.specs.Wires.{Arrival, LogEntry, events_in}
use Rattle.cube_io.specs.Wires.Arrival.{Opened, Came, Closed, End}
use Rattle.cube_io.specs.Wires.LogEntry.{Heard, Sent, Torn, Shut}
use Rattle.cube_script.specs.declared.script_wire.SendCapacity.{SendCapacity}
use Rattle.cube_script.specs.Playing.{FailsWell, has_torn, is_sent, sent_size, max_addresses, max_address_bytes}

-- a piece has a byte and fits the buffer
abbrev pub IsPlayable : Arrival → Type 0
IsPlayable (Opened c) = ⊤
IsPlayable (Came c bytes) = (0 < length bytes) × (length bytes ≤ 65536)
IsPlayable (Closed c) = ⊤
IsPlayable End = ⊤

-- how many entries may follow from an event: a close and a failed send for each connection that opens
abbrev pub entries_owed : Arrival → ℕ
entries_owed (Opened c) = 2
entries_owed (Came c bytes) = 0
entries_owed (Closed c) = 0
entries_owed End = 0

-- the entries of an event, with its own
abbrev pub entries_for : Arrival → ℕ
entries_for e = 1 + entries_owed e

-- the bytes of an event
abbrev pub bytes_for : Arrival → ℕ
bytes_for (Opened c) = 0
bytes_for (Came c bytes) = length bytes
bytes_for (Closed c) = 0
bytes_for End = 0

-- What a wire keeps beside its script: how many events it has taken, its log with the space behind it, how many entries it owes to
-- connections, the space for sends that is left and the whole of it, whether a send failed, whether an address was refused, and how
-- often calls failed, and sends.
pub record Kept : Type 0 where
  pub taken : ℕ
  pub roll : Roll
  pub owed : ℕ
  pub left : SendCapacity
  pub most : SendCapacity
  pub overrun : Bool
  pub spilled : Bool
  pub faults : ℕ
  pub send_faults : ℕ

-- What a wire keeps agrees with its log, and there is space for all that may come: the events that are left, the sends that are left,
-- and what is owed.
pub record IsReady (script : List Arrival) (kept : Kept) : Type 0 where
  pub events : events_in kept.roll.log ≡ take kept.taken script
  pub few : kept.taken ≤ length script
  pub fails : FailsWell script kept.most kept.roll.log kept.send_faults
  pub playable : Each IsPlayable script
  pub enough : owed_by kept.roll.log ≤ kept.owed
  pub entries : sum_by entries_for (drop kept.taken script) + kept.left.sends + kept.owed ≤ kept.roll.entries_left
  pub small : kept.roll.entries_left < 2 ^ 64
  pub bytes : sum_by bytes_for (drop kept.taken script) + kept.left.bytes ≤ kept.roll.bytes_left
  pub space : (count_by is_sent kept.roll.log + kept.left.sends ≡ kept.most.sends) × (sum_by sent_size kept.roll.log + kept.left.bytes ≡ kept.most.bytes)
  pub torn : kept.overrun ≡ has_torn kept.roll.log
  pub steady : has_torn kept.roll.log ≡ false → kept.spilled ≡ false → kept.taken < length script → kept.faults ≡ 0

-- the address that an entry keeps, as bytes that came, with the seconds that a connection may be still there, as the number of one
abbrev pub address_in : LogEntry → List ℕ × ℕ
address_in (Heard (Opened c)) = ([], 0)
address_in (Heard (Came idle bytes)) = (bytes, idle)
address_in (Heard (Closed c)) = ([], 0)
address_in (Heard End) = ([], 0)
address_in (Sent c bytes) = ([], 0)
address_in (Torn c bytes size) = ([], 0)
address_in (Shut c) = ([], 0)

-- the space for addresses
pub record IsListening (roll : Roll) : Type 0 where
  pub few : length (map address_in roll.log) + roll.entries_left ≡ max_addresses
  pub short : sum_by (λ heard. length heard.0) (map address_in roll.log) + roll.bytes_left ≡ max_address_bytes
