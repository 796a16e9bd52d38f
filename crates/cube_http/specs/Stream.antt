-- What the bytes of one connection say, and at which byte.
use Rattle.std.specs.Prelude.{ℕ, zero, suc, ◌+◌, ◌||◌, ◌==◌, Bool, List, [], ◌∷◌, ◌++◌, length, take, drop, find, nat_le, nat_eq, Option, Some, None, if◌then◌else◌}
use Rattle.std.specs.List.{ends_with}
use Rattle.httparse.specs.Grammar.{RequestHead}
use Rattle.cube_model.specs.declared.reply.Fixed.{Fixed}
use Rattle.cube_model.specs.declared.reply.Fixed.TheVariants.{BadHead, HeadTooLarge}
use Rattle.cube_http.specs.Head.{front, rest, head_of}
use Rattle.cube_http.specs.Checks.{check, body_len, wants_continue}

-- a request: its head, and its body
pub record Request : Type 0 where
  pub head : RequestHead
  pub body : List ℕ

-- what is heard: that the client waits for leave to send a body, a whole request, or bytes that are refused
pub data Item : Type 0 where
  Continue : Item
  Whole : Request → Item
  Bad : Fixed → Item

-- an item, and the number of bytes of the stream up to its last byte
pub record Placed : Type 0 where
  pub ends : ℕ
  pub item : Item

-- a byte of a line end
abbrev pub is_break : ℕ → Bool
is_break b = b == 13 || b == 10

-- the bytes end with an empty line: with LF LF, or with LF CR LF
abbrev pub ends_head : List ℕ → Bool
ends_head bytes = ends_with nat_eq bytes (10 ∷ 10 ∷ []) || ends_with nat_eq bytes (10 ∷ 13 ∷ 10 ∷ [])

-- the numbers from start on, so many of them
abbrev pub numbers : ℕ → ℕ → List ℕ
numbers start zero = []
numbers start (suc n) = start ∷ numbers (suc start) n

-- the length of a head: the least number of bytes that end with an empty line
unfoldable pub head_len : List ℕ → Option ℕ
head_len text = find (λ n. ends_head (take n text)) (numbers 1 (length text))

-- the most bytes of a head
abbrev pub most_head : ℕ
most_head = 16384

-- The opening of a text: its head has not ended; or its bytes up to a place are refused; or they
-- are a head that passes all checks.
pub data Opening : Type 0 where
  Unended : Opening
  Refused : ℕ → Fixed → Opening
  Headed : ℕ → RequestHead → Opening

abbrev pub checked : ℕ → RequestHead → Option Fixed → Opening
checked n h None = Headed n h
checked n h (Some fixed) = Refused n fixed

abbrev pub parsed : ℕ → Option RequestHead → Opening
parsed n None = Refused n BadHead
parsed n (Some h) = checked n h (check h)

-- the opening of a text behind so many line ends, by the length of its head
abbrev pub measured : ℕ → List ℕ → Option ℕ → Opening
measured dropped text None = if nat_le most_head (length text) then Refused (dropped + most_head) HeadTooLarge else Unended
measured dropped text (Some n) = if nat_le n most_head then parsed (dropped + n) (head_of (take n text)) else Refused (dropped + most_head) HeadTooLarge

-- the bytes of line ends before a head do not count
unfoldable pub opening : List ℕ → Opening
opening text = measured (length (front is_break text)) (rest is_break text) (head_len (rest is_break text))

-- the request of a head that ends at a place of the text
abbrev pub request_at : ℕ → RequestHead → List ℕ → Request
request_at n h text = record { head = h; body = take (body_len h) (drop n text) }

-- what is heard of a text that stands at a place of the stream, and of the requests behind the first one
abbrev pub heard_of : (ℕ → List ℕ → List Placed) → ℕ → List ℕ → Opening → List Placed
heard_of more at text Unended = []
heard_of more at text (Refused n fixed) = record { ends = at + n; item = Bad fixed } ∷ []
heard_of more at text (Headed n h) =
    (if wants_continue h then record { ends = at + n; item = Continue } ∷ [] else [])
    ++ (if nat_le (n + body_len h) (length text) then record { ends = at + (n + body_len h); item = Whole (request_at n h text) } ∷ more (at + (n + body_len h)) (drop (n + body_len h) text) else [])

-- at most so many requests of a text that stands at a place
abbrev pub items_from : ℕ → ℕ → List ℕ → List Placed
items_from zero at text = []
items_from (suc n) at text = heard_of (items_from n) at text (opening text)

-- The items of a stream: behind a request the definition starts again, behind Bad there is nothing.
unfoldable pub items : List ℕ → List Placed
items text = items_from (length text) 0 text
