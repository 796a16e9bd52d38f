-- The bytes of a response.
use Rattle.std.specs.Prelude.{ℕ, ◌||◌, ◌==◌, Bool, List, [], ◌∷◌, ◌++◌, length, if◌then◌else◌, codes, decimal}
use Rattle.std.specs.List.{list_any}
use Rattle.cube_model.specs.declared.reply.Fixed.{Fixed}
use Rattle.cube_model.specs.declared.reply.Fixed.TheVariants.{BadHead, NoQuery, NoPath, MethodForm, MethodGet, LengthRequired, TooLarge, HeadTooLarge, JournalFault, NoMemory, Busy}
use Rattle.cube_model.specs.declared.reply.Kind.{Kind}
use Rattle.cube_model.specs.declared.reply.Kind.TheVariants.{Csv, Json, Plain}
use Rattle.cube_model.specs.declared.reply.Reply.{Reply}
use Rattle.cube_model.specs.declared.reply.Reply.TheVariants as reply

-- the table of constant replies: their status, and the line that is their body
abbrev pub fixed_status : Fixed → ℕ
fixed_status BadHead = 400
fixed_status NoQuery = 400
fixed_status NoPath = 404
fixed_status MethodForm = 405
fixed_status MethodGet = 405
fixed_status LengthRequired = 411
fixed_status TooLarge = 413
fixed_status HeadTooLarge = 431
fixed_status JournalFault = 503
fixed_status NoMemory = 500
fixed_status Busy = 503

abbrev pub fixed_line : Fixed → List ℕ
fixed_line BadHead = codes "bad request"
fixed_line NoQuery = codes "no parameter q"
fixed_line NoPath = codes "not found"
fixed_line MethodForm = codes "method not allowed"
fixed_line MethodGet = codes "method not allowed"
fixed_line LengthRequired = codes "length required"
fixed_line TooLarge = codes "too large"
fixed_line HeadTooLarge = codes "head too large"
fixed_line JournalFault = codes "journal fault"
fixed_line NoMemory = codes "no memory"
fixed_line Busy = codes "too many connections"

abbrev pub status_of : Reply → ℕ
status_of (reply.Made status kind body) = status
status_of (reply.Fixed fixed) = fixed_status fixed

abbrev pub body_of : Reply → List ℕ
body_of (reply.Made status kind body) = body
body_of (reply.Fixed fixed) = fixed_line fixed ++ 10 ∷ []

abbrev pub kind_of : Reply → Kind
kind_of (reply.Made status kind body) = kind
kind_of (reply.Fixed fixed) = Plain

abbrev pub type_text : Kind → List ℕ
type_text Csv = codes "text/csv; charset=utf-8"
type_text Json = codes "application/json"
type_text Plain = codes "text/plain; charset=utf-8"

-- the statuses of replies, each with its phrase
abbrev pub has_phrase : ℕ → Bool
has_phrase status = list_any (λ s. s == status) (200 ∷ 400 ∷ 403 ∷ 404 ∷ 405 ∷ 411 ∷ 413 ∷ 431 ∷ 500 ∷ 503 ∷ [])

unfoldable pub phrase : ℕ → List ℕ
phrase status =
    if status == 200 then codes "OK" else if status == 400 then codes "Bad Request" else if status == 403 then codes "Forbidden"
    else if status == 404 then codes "Not Found" else if status == 405 then codes "Method Not Allowed" else if status == 411 then codes "Length Required"
    else if status == 413 then codes "Payload Too Large" else if status == 431 then codes "Request Header Fields Too Large"
    else if status == 500 then codes "Internal Server Error" else codes "Service Unavailable"

abbrev pub crlf : List ℕ
crlf = 13 ∷ 10 ∷ []

-- a line `name: value`
abbrev pub field : List ℕ → List ℕ → List ℕ
field name value = name ++ codes ": " ++ value ++ crlf

abbrev pub status_line : ℕ → List ℕ
status_line status = codes "HTTP/1.1 " ++ decimal status ++ codes " " ++ phrase status ++ crlf

-- the methods that a path allows, behind a method that it does not
abbrev pub allow_field : Reply → List ℕ
allow_field (reply.Made status kind body) = []
allow_field (reply.Fixed BadHead) = []
allow_field (reply.Fixed NoQuery) = []
allow_field (reply.Fixed NoPath) = []
allow_field (reply.Fixed MethodForm) = field (codes "Allow") (codes "GET, HEAD, POST")
allow_field (reply.Fixed MethodGet) = field (codes "Allow") (codes "GET, HEAD")
allow_field (reply.Fixed LengthRequired) = []
allow_field (reply.Fixed TooLarge) = []
allow_field (reply.Fixed HeadTooLarge) = []
allow_field (reply.Fixed JournalFault) = []
allow_field (reply.Fixed NoMemory) = []
allow_field (reply.Fixed Busy) = []

abbrev pub close_field : Bool → List ℕ
close_field close = if close then field (codes "Connection") (codes "close") else []

-- the head of a response, behind which the connection closes or not
abbrev pub head_bytes : Reply → Bool → List ℕ
head_bytes r close =
    status_line (status_of r) ++ field (codes "Content-Type") (type_text (kind_of r)) ++ field (codes "Content-Length") (decimal (length (body_of r)))
    ++ allow_field r ++ close_field close ++ crlf

-- the sends of a reply: its head, and its body unless that is left out or empty
abbrev pub sends_of : Reply → Bool → Bool → List (List ℕ)
sends_of r close head_only = head_bytes r close ∷ (if head_only || length (body_of r) == 0 then [] else body_of r ∷ [])

abbrev pub continue_bytes : List ℕ
continue_bytes = codes "HTTP/1.1 100 Continue" ++ crlf ++ crlf
