-- What a transcript says: what its bytes are as JSON, and the items of its array or the first fault.
use Rattle.std.specs.Prelude.{ℕ, ◌+◌, ◌&&◌, nat_le, nat_lt, List, [], ◌∷◌, length, codes, Option, Some, None, option_and_then, Result, Ok, Err, if◌then◌else◌}
use Rattle.std.specs.Str.{is_utf8}
use Rattle.serde_json.specs.Data.{Data, null, boolean, number, string, array, object, Items, no_items, item}
use Rattle.serde_json.specs.Find.{get, as_number, as_str, as_u64}
use Rattle.serde_json.specs.Read.{read}
use Rattle.cube_audit.specs.declared.transcript.TranscriptFault.{TranscriptFault}
use Rattle.cube_audit.specs.declared.transcript.TranscriptFault.TheVariants as fault
use Rattle.cube_audit.specs.declared.transcript.TranscriptItem.{TranscriptItem}

-- The value that bytes are: UTF-8 that JSON's grammar takes, with arrays and objects at most 127 deep. A key that stands twice has
-- the value that stands last.
unfoldable pub json_of : List ℕ → Option Data
json_of bytes = if is_utf8 bytes then read bytes else None

-- ---- an item

-- the text under a key
abbrev pub text_in : List ℕ → Data → Option (List ℕ)
text_in key d = option_and_then as_str (get key d)

abbrev pub in_range : ℕ → Option ℕ
in_range n = if nat_le 100 n && nat_le n 599 then Some n else None

-- the whole number under `status`, written as one, where it is a status
abbrev pub status_in : Data → Option ℕ
status_in d = option_and_then in_range (option_and_then as_u64 (option_and_then as_number (get (codes "status") d)))

abbrev pub item_with : Option (List ℕ) → Option ℕ → Option (List ℕ) → Option TranscriptItem
item_with None status body = None
item_with (Some query) None body = None
item_with (Some query) (Some status) None = None
item_with (Some query) (Some status) (Some body) = Some (record { query = query; status = status; body = body })

-- the item that a value is, whatever other keys it has
unfoldable pub item_of : Data → Option TranscriptItem
item_of d = item_with (text_in (codes "q") d) (status_in d) (text_in (codes "body") d)

-- ---- the items

abbrev pub values_in : Items → List Data
values_in no_items = []
values_in (item d ds) = d ∷ values_in ds

abbrev pub before : TranscriptItem → Result (List TranscriptItem) TranscriptFault → Result (List TranscriptItem) TranscriptFault
before i (Ok is) = Ok (i ∷ is)
before i (Err e) = Err e

abbrev pub with_item : ℕ → Option TranscriptItem → Result (List TranscriptItem) TranscriptFault → Result (List TranscriptItem) TranscriptFault
with_item k None rest = Err (fault.Item k)
with_item k (Some i) rest = before i rest

-- the items that values are, the first of them with this number, or the first that is none
abbrev pub items_from : ℕ → List Data → Result (List TranscriptItem) TranscriptFault
items_from k [] = Ok []
items_from k (d ∷ ds) = with_item k (item_of d) (items_from (k + 1) ds)

-- at most 65,536 of them
unfoldable pub items_of : List Data → Result (List TranscriptItem) TranscriptFault
items_of ds = if nat_lt 65536 (length ds) then Err fault.Limit else items_from 1 ds

abbrev pub array_said : Data → Result (List TranscriptItem) TranscriptFault
array_said null = Err fault.NotArray
array_said (boolean b) = Err fault.NotArray
array_said (number n) = Err fault.NotArray
array_said (string s) = Err fault.NotArray
array_said (array ds) = items_of (values_in ds)
array_said (object ms) = Err fault.NotArray

abbrev pub json_said : Option Data → Result (List TranscriptItem) TranscriptFault
json_said None = Err fault.NotJson
json_said (Some d) = array_said d

-- what the bytes of a transcript say, or their first fault
unfoldable pub transcript_of : List ℕ → Result (List TranscriptItem) TranscriptFault
transcript_of bytes = json_said (json_of bytes)
