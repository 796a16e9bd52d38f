-- What a reader of records that stands between two of them has left.
use Rattle.std.specs.Prelude.{◌≡◌, ℕ, suc, ◌&&◌, ◌||◌, not, Bool, true, false, List, [], length, Option, Some, None, is_some, is_none}
use Rattle.csv.specs.Machine.{ends_at_end}
use Rattle.csv.specs.Reading.{records_from, default_config, source_of, reader_trim, reader_config, reader_state, reader_headers, names_headers, took_first}
use Rattle.csv.specs.declared.parser.State.{State}
use Rattle.csv.specs.declared.reader.Reader.{Reader}
use Rattle.csv.specs.declared.reader.Trim.TheVariants as trim

-- the records from a state between two of them on, of bytes that are known
abbrev pub records_behind : State → Option (List ℕ) → List (List (List ℕ))
records_behind s None = []
records_behind s (Some bytes) = records_from default_config (suc (length bytes)) s bytes

-- the records that a reader has left
abbrev pub unread : {R : Type 0} → (R → Option (List ℕ)) → Reader R → List (List (List ℕ))
unread rem r = records_behind (reader_state r) (source_of rem r)

-- the next read is of one record, which is given
abbrev pub is_ready : {R : Type 0} → Reader R → Bool
is_ready r = took_first r || (not (names_headers r) && is_none (reader_headers r))

-- it reads records as they stand, stands between two of them, and its bytes are known
abbrev pub StandsBetween : {R : Type 0} → (R → Option (List ℕ)) → Reader R → Type 0
StandsBetween rem r = (reader_trim r ≡ trim.None) × (is_ready r ≡ true) × (reader_config r ≡ default_config) × (ends_at_end (reader_state r) ≡ false) × (is_some (source_of rem r) ≡ true)
