-- The entries of a log as a wire in memory keeps them, and the space that it owes.
use Rattle.std.specs.Prelude.{ℕ, ◌+◌, ◌-◌, ◌≤◌, ◌==◌, not, Bool, true, false, List, [], ◌∷◌, length, map, filter, vec_capacity}
use Rattle.std.specs.Global.{Vec}
use Rattle.cube_model.specs.Cubes.{Each}
use Rattle.cube_io.specs.Mem.{part}
use Rattle.cube_io.specs.Wires.{LogEntry}
use Rattle.cube_io.specs.Wires.{Arrival as arrival}
use Rattle.cube_io.specs.Wires.LogEntry.{Heard, Sent, Torn, Shut}
use Rattle.cube_io.specs.declared.scroll.Note.{Note}
use Rattle.cube_io.specs.declared.scroll.Note.TheVariants as note
use Rattle.cube_io.specs.declared.scroll.Written.{Written}

-- an entry with its bytes
abbrev pub entry_of : Note → List ℕ → LogEntry
entry_of (note.Opened c) bytes = Heard (arrival.Opened c)
entry_of (note.Came c) bytes = Heard (arrival.Came c bytes)
entry_of (note.Closed c) bytes = Heard (arrival.Closed c)
entry_of note.End bytes = Heard arrival.End
entry_of (note.Sent c) bytes = Sent c bytes
entry_of (note.Torn c size) bytes = Torn c bytes size
entry_of (note.Shut c) bytes = Shut c

-- an entry whose bytes stand in a buffer
abbrev pub entry : List ℕ → Written → LogEntry
entry bytes w = entry_of w.note (part bytes w.start w.len)

-- its bytes stand within the first n
abbrev pub IsInside : ℕ → Written → Type 0
IsInside n w = w.start + w.len ≤ n

-- a log, and space for how many entries and bytes is left
pub record Roll : Type 0 where
  pub log : List LogEntry
  pub entries_left : ℕ
  pub bytes_left : ℕ

abbrev pub roll_of : List Written → List ℕ → ℕ → ℕ → Roll
roll_of entries bytes most_entries most_bytes = record { log = map (entry bytes) entries; entries_left = most_entries - length entries; bytes_left = most_bytes - length bytes }

pub record IsRoomy (entries : Vec Written) (bytes : Vec ℕ) (most_entries most_bytes : ℕ) : Type 0 where
  pub inside : Each (IsInside (length bytes.items)) entries.items
  pub few : length entries.items ≤ most_entries
  pub short : length bytes.items ≤ most_bytes
  pub entries_room : most_entries ≤ vec_capacity entries
  pub bytes_room : most_bytes ≤ vec_capacity bytes

-- ---- the space that is owed

-- what an entry does to some connections: one comes in, one goes out, or they stay
pub data Act : Type 0 where
  Add : ℕ → Act
  Cut : ℕ → Act
  Stay : Act

-- to those that are open
abbrev pub open_act : LogEntry → Act
open_act (Heard (arrival.Opened d)) = Add d
open_act (Heard (arrival.Came d bytes)) = Stay
open_act (Heard (arrival.Closed d)) = Cut d
open_act (Heard arrival.End) = Stay
open_act (Sent d bytes) = Stay
open_act (Torn d bytes size) = Stay
open_act (Shut d) = Cut d

-- to those on which a send may go out
abbrev pub sound_act : LogEntry → Act
sound_act (Heard (arrival.Opened d)) = Add d
sound_act (Heard (arrival.Came d bytes)) = Stay
sound_act (Heard (arrival.Closed d)) = Cut d
sound_act (Heard arrival.End) = Stay
sound_act (Sent d bytes) = Stay
sound_act (Torn d bytes size) = Cut d
sound_act (Shut d) = Cut d

abbrev pub cut_out : ℕ → List ℕ → List ℕ
cut_out d conns = filter (λ c. not (c == d)) conns

abbrev pub acted : Act → List ℕ → List ℕ
acted (Add d) conns = d ∷ cut_out d conns
acted (Cut d) conns = cut_out d conns
acted Stay conns = conns

abbrev pub conns_after : (LogEntry → Act) → List ℕ → List LogEntry → List ℕ
conns_after act conns [] = conns
conns_after act conns (e ∷ log) = conns_after act (acted (act e) conns) log

-- An entry for each connection that may be closed, and one for each on which a send may fail.
abbrev pub owed_by : List LogEntry → ℕ
owed_by log = length (conns_after open_act [] log) + length (conns_after sound_act [] log)

-- the entry is an event
abbrev pub is_event : Note → Bool
is_event (note.Opened c) = true
is_event (note.Came c) = true
is_event (note.Closed c) = true
is_event note.End = true
is_event (note.Sent c) = false
is_event (note.Torn c size) = false
is_event (note.Shut c) = false

-- how many entries more are owed behind it
abbrev pub owes : Note → ℕ
owes (note.Opened c) = 2
owes (note.Came c) = 0
owes (note.Closed c) = 0
owes note.End = 0
owes (note.Sent c) = 0
owes (note.Torn c size) = 0
owes (note.Shut c) = 0
