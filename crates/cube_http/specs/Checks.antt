-- The checks of a whole head, the length of its body, and whether the reply closes the connection.
use Rattle.std.specs.Prelude.{ℕ, ◌&&◌, ◌||◌, ◌==◌, not, Bool, true, false, List, [], ◌∷◌, length, map, filter, nat_lt, Option, Some, None, if◌then◌else◌, bytes_eq, codes}
use Rattle.std.specs.List.{list_all, list_any, slice_split}
use Rattle.std.specs.Char.{to_ascii_lowercase, is_ascii_digit}
use Rattle.std.specs.Str.Parse.{digits_value}
use Rattle.httparse.specs.Grammar.{RequestHead, trim_ows}
use Rattle.httparse.specs.Spans.{name_and_value}
use Rattle.cube_http.specs.Methods.{kind_of, is_post}
use Rattle.cube_model.specs.declared.reply.Fixed.{Fixed}
use Rattle.cube_model.specs.declared.reply.Fixed.TheVariants.{BadHead, LengthRequired, TooLarge}

-- the same word without regard to ASCII case
abbrev pub same_word : List ℕ → List ℕ → Bool
same_word a b = bytes_eq (map to_ascii_lowercase a) (map to_ascii_lowercase b)

-- the values of the fields of a name, among names with values
abbrev pub named : List ℕ → List (List ℕ × List ℕ) → List (List ℕ)
named name fields = map (λ f. f.1) (filter (λ f. same_word f.0 name) fields)

-- the fields of a head: the names, and the values without the white space around them
abbrev pub fields_of : RequestHead → List (List ℕ × List ℕ)
fields_of h = map name_and_value h.fields

-- one or more digits
abbrev pub is_number : List ℕ → Bool
is_number text = not (length text == 0) && list_all is_ascii_digit text

-- the number that the first value writes
abbrev pub first_number : List (List ℕ) → ℕ
first_number [] = 0
first_number (v ∷ vs) = digits_value 10 v

-- the length of the body that fields state; where none is stated it is 0
abbrev pub stated_len : List (List ℕ × List ℕ) → ℕ
stated_len fields = first_number (named (codes "content-length") fields)

unfoldable pub body_len : RequestHead → ℕ
body_len h = stated_len (fields_of h)

-- the hosts of a head of HTTP/1.minor are not one; in HTTP/1.0 none will do
abbrev pub is_hostless : ℕ → List (List ℕ) → Bool
is_hostless minor [] = minor == 1
is_hostless minor (v ∷ []) = false
is_hostless minor (v ∷ w ∷ vs) = true

-- there is a length that is no number, or more than one
abbrev pub is_bad_length : List (List ℕ) → Bool
is_bad_length [] = false
is_bad_length (v ∷ []) = not (is_number v)
is_bad_length (v ∷ w ∷ vs) = true

-- what the fields of a head of HTTP/1.minor are refused with: the first check that fails
abbrev pub refusal : ℕ → Bool → List (List ℕ × List ℕ) → Option Fixed
refusal minor post fields =
    if is_hostless minor (named (codes "host") fields) then Some BadHead
    else if not (length (named (codes "transfer-encoding") fields) == 0) then Some LengthRequired
    else if is_bad_length (named (codes "content-length") fields) then Some BadHead
    else if nat_lt 65536 (stated_len fields) then Some TooLarge
    else if post && length (named (codes "content-length") fields) == 0 then Some LengthRequired
    else None

unfoldable pub check : RequestHead → Option Fixed
check h = refusal h.minor (is_post (kind_of h.method)) (fields_of h)

-- the one value, if it is this word
abbrev pub is_only : List ℕ → List (List ℕ) → Bool
is_only word [] = false
is_only word (v ∷ []) = same_word v word
is_only word (v ∷ w ∷ vs) = false

-- the client waits for leave to send the body
abbrev pub is_waiting : ℕ → List (List ℕ × List ℕ) → Bool
is_waiting minor fields = minor == 1 && nat_lt 0 (stated_len fields) && is_only (codes "100-continue") (named (codes "expect") fields)

unfoldable pub wants_continue : RequestHead → Bool
wants_continue h = is_waiting h.minor (fields_of h)

-- a value has the word among its parts between commas
abbrev pub has_word : List ℕ → List ℕ → Bool
has_word word value = list_any (λ part. same_word (trim_ows part) word) (slice_split (λ b. b == 44) value)

-- the reply to a request closes the connection: in HTTP/1.0, or where a field asks for it
abbrev pub is_closing : ℕ → List (List ℕ × List ℕ) → Bool
is_closing minor fields = minor == 0 || list_any (has_word (codes "close")) (named (codes "connection") fields)

unfoldable pub closes : RequestHead → Bool
closes h = is_closing h.minor (fields_of h)
