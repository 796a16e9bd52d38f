-- What the bytes of a journal recover, in both versions.
use Rattle.std.specs.Prelude.{ℕ, ◌+◌, ◌^◌, Bool, true, false, not, ◌&&◌, ◌||◌, ◌==◌, nat_eq, nat_lt, List, [], ◌∷◌, ◌++◌, length, drop, flat_map, codes, slice_index_or, if◌then◌else◌, Option, Some, None, is_some, option_map, option_to_list, Result, Ok, Err}
use Rattle.std.specs.List.{list_any, starts_with, slice_split}
use Rattle.std.specs.Str.{bytes_eq}
use Rattle.std.specs.Str.Parse.{digits_value}
use Rattle.cube_model.specs.Checks.{check, in_turn, unless}
use Rattle.cube_model.specs.Cubes.{are_levels}
use Rattle.cube_model.specs.Dims.{Dims, plains}
use Rattle.cube_model.specs.Entries.{is_link}
use Rattle.cube_model.specs.Protection.{is_lattice, is_parity}
use Rattle.cube_model.specs.declared.entry.Entry.{Entry}
use Rattle.cube_model.specs.declared.entry.Entry.TheVariants.{Asked, Source, Linked}
use Rattle.cube_model.specs.declared.link.Link.{Link}
use Rattle.cube_model.specs.declared.link.Link.TheVariants.{Pair, Single}
use Rattle.cube_model.specs.declared.policy.Method.TheVariants.{Plain}
use Rattle.cube_model.specs.declared.policy.Policy.{Policy}
use Rattle.cube_model.specs.declared.request.Request.{Request}
use Rattle.cube_model.specs.declared.request.What.{What}
use Rattle.cube_model.specs.declared.request.What.TheVariants.{Count, Measure}
use Rattle.cube_text.specs.Units.{is_digits}
use Rattle.cube_query.specs.Canonical.{request_text}
use Rattle.cube_query.specs.Faults.{request_of}
use Rattle.cube_query.specs.declared.fault.RequestFault.{RequestFault}
use Rattle.cube_journal.specs.Digests.{is_digest}
use Rattle.cube_journal.specs.Lines.{ended_lines}
use Rattle.cube_journal.specs.declared.fault.JournalFault.{JournalFault}
use Rattle.cube_journal.specs.declared.fault.JournalFault.TheVariants.{Damaged, OtherCube}
use Rattle.cube_journal.specs.declared.first.Version.{Version}
use Rattle.cube_journal.specs.declared.first.Version.TheVariants.{One, Two}

-- ---- the first line

-- the words that begin a journal of a version
abbrev pub head_words : Version → List ℕ
head_words One = codes "cube-journal 1 "
head_words Two = codes "cube-journal 2 "

-- the line that begins a journal of a version
abbrev pub head_line : Version → List ℕ → List ℕ
head_line version digest = head_words version ++ digest ++ 10 ∷ []

-- the line that begins a new journal
abbrev pub first_line : List ℕ → List ℕ
first_line digest = head_line One digest

-- the line, without its line feed, begins a journal of this version
abbrev pub is_first : Version → List ℕ → Bool
is_first version line = starts_with nat_eq line (head_words version) && is_digest (drop 15 line)

abbrev pub version_of : List ℕ → Option Version
version_of line = if is_first One line then Some One else if is_first Two line then Some Two else None

-- ---- entries

-- the measure is under control, and the count is not
abbrev pub is_controlled : Policy → What → Bool
is_controlled p Count = false
is_controlled p (Measure m) = is_lattice (slice_index_or p.methods m Plain) || is_parity (slice_index_or p.methods m Plain)

-- the request where the text is its canonical one, and it asks for a measure under control
abbrev pub asked_if : Dims → Policy → List ℕ → Result Request RequestFault → Option Entry
asked_if s p text (Err e) = None
asked_if s p text (Ok r) = if bytes_eq (request_text s r) text && is_controlled p r.what then Some (Asked r) else None

-- decimal digits without leading zeros
abbrev pub is_plain : List ℕ → Bool
is_plain text = is_digits text && (not (starts_with nat_eq text (48 ∷ [])) || (length text == 1))

-- the number below 2^32 that a text writes so
abbrev pub number_of : List ℕ → Option ℕ
number_of text = if is_plain text && nat_lt (digits_value 10 text) (2 ^ 32) then Some (digits_value 10 text) else None

abbrev pub with_number : Option ℕ → Option (List ℕ) → Option (List ℕ)
with_number None more = None
with_number (Some n) more = option_map (λ ns. n ∷ ns) more

-- the numbers of texts, where each writes one
abbrev pub numbers_of : List (List ℕ) → Option (List ℕ)
numbers_of [] = Some []
numbers_of (text ∷ texts) = with_number (number_of text) (numbers_of texts)

-- the texts between blanks
abbrev pub fields : List ℕ → List (List ℕ)
fields text = slice_split (λ b. b == 32) text

-- a source of a lattice measure with levels in range, from the numbers of its line
abbrev pub source_of : Dims → Policy → Option (List ℕ) → Option Entry
source_of s p None = None
source_of s p (Some []) = None
source_of s p (Some (m ∷ levels)) = if is_lattice (slice_index_or p.methods m Plain) && are_levels (plains s) levels then Some (Source m levels) else None

-- a link of a parity measure with places in range, of which there are n
abbrev pub linked_if : Policy → ℕ → ℕ → Link → Option Entry
linked_if p n m link = if is_parity (slice_index_or p.methods m Plain) && is_link n link then Some (Linked m link) else None

-- from the numbers of its line
abbrev pub link_of : Policy → ℕ → Option (List ℕ) → Option Entry
link_of p n None = None
link_of p n (Some []) = None
link_of p n (Some (m ∷ [])) = None
link_of p n (Some (m ∷ i ∷ [])) = linked_if p n m (Single i)
link_of p n (Some (m ∷ i ∷ j ∷ [])) = linked_if p n m (Pair i j)
link_of p n (Some (m ∷ i ∷ j ∷ k ∷ more)) = None

abbrev pub is_request_line : List ℕ → Bool
is_request_line text = starts_with nat_eq text (codes "q ")

-- the entry that a line without its line feed writes, where there are n places
unfoldable pub entry_of : Dims → Policy → ℕ → List ℕ → Option Entry
entry_of s p n text =
    if is_request_line text then asked_if s p (drop 2 text) (request_of s (drop 2 text))
    else if starts_with nat_eq text (codes "s ") then source_of s p (numbers_of (fields (drop 2 text)))
    else if starts_with nat_eq text (codes "k ") then link_of p n (numbers_of (fields (drop 2 text)))
    else None

-- ---- the lines behind the first

abbrev pub is_second : Version → Bool
is_second One = false
is_second Two = true

-- a source or a link may stand here: in the second version, and before each request
abbrev pub may_hold : Version → List (List ℕ) → Bool
may_hold version earlier = is_second version && not (list_any is_request_line earlier)

-- a line writes an entry that may stand behind the earlier lines
abbrev pub is_sound : Dims → Policy → ℕ → Version → List (List ℕ) → List ℕ → Bool
is_sound s p n version earlier text = is_some (entry_of s p n text) && (is_request_line text || may_hold version earlier)

-- else it is damaged; the first line of the log has the number 1
abbrev pub damage : Dims → Policy → ℕ → Version → List (List ℕ) → List ℕ → List JournalFault
damage s p n version earlier text = check (not (is_sound s p n version earlier text)) (Damaged (length earlier + 2))

-- the entries of these lines
abbrev pub entries_in : Dims → Policy → ℕ → List (List ℕ) → List Entry
entries_in s p n texts = flat_map (λ text. option_to_list (entry_of s p n text)) texts

abbrev pub lines_in : Dims → Policy → ℕ → Version → List (List ℕ) → Result (List Entry) JournalFault
lines_in s p n version texts = unless (in_turn (damage s p n version) [] texts) (entries_in s p n texts)

-- ---- the whole log

abbrev pub with_version : List ℕ → Dims → Policy → ℕ → List ℕ → List (List ℕ) → Option Version → Result (List Entry) JournalFault
with_version digest s p n first texts None = Err (Damaged 1)
with_version digest s p n first texts (Some version) =
    if bytes_eq (drop 15 first) digest then lines_in s p n version texts else Err (OtherCube (drop 15 first) digest)

-- without a line that ends it is an empty journal where it is the beginning of a first line
abbrev pub recovered_from : List ℕ → Dims → Policy → ℕ → List ℕ → List (List ℕ) → Result (List Entry) JournalFault
recovered_from digest s p n bytes [] = if starts_with nat_eq (first_line digest) bytes then Ok [] else Err (Damaged 1)
recovered_from digest s p n bytes (first ∷ texts) = with_version digest s p n first texts (version_of first)

-- the entries that the bytes of a log recover, before they are judged, or the first fault
unfoldable pub recovered : List ℕ → Dims → Policy → ℕ → List ℕ → Result (List Entry) JournalFault
recovered digest s p n bytes = recovered_from digest s p n bytes (ended_lines bytes)

-- the bytes that are kept of a log: its ended lines, or a first line where there is none
abbrev pub kept_from : List ℕ → List (List ℕ) → List ℕ
kept_from head [] = head
kept_from head (line ∷ lines) = flat_map (λ text. text ++ 10 ∷ []) (line ∷ lines)

abbrev pub kept_of : List ℕ → List ℕ → List ℕ
kept_of head bytes = kept_from head (ended_lines bytes)
