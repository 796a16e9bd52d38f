-- The facts of a head by its parts.
use Rattle.std.proofs.Common.{◌≡◌, ℕ, List, length, map, Some, None}
use Rattle.httparse.specs.declared.spans.HeaderSpan.{HeaderSpan}
use Rattle.httparse.specs.declared.spans.RequestSpans.{RequestSpans}
use Rattle.httparse.specs.Grammar.{RequestHead}
use Rattle.httparse.specs.Spans.{span_bytes, header_bytes, IsWithin}
use Rattle.cube_model.specs.declared.reply.Fixed.{Fixed}
use Rattle.cube_http.specs.declared.head.MethodKind.{MethodKind}
use Rattle.cube_http.specs.declared.head.HeadFacts.{HeadFacts}
use Rattle.cube_http.specs.Methods.{kind_of, is_post}
use Rattle.cube_http.specs.Checks.{stated_len, refusal, is_waiting, is_closing, check, body_len, wants_continue, closes}
use Rattle.cube_http.specs.Facts.{AreParts, AreFacts}

-- what the parts of a head are refused with is what the head is refused with
pub refused : (bytes : List ℕ) (headers : List HeaderSpan) (spans : RequestSpans) (kind : MethodKind) (h : RequestHead) (fixed : Fixed) → AreParts bytes headers spans h → kind ≡ kind_of (span_bytes bytes spans.method)
    → refusal spans.version (is_post kind) (map (header_bytes bytes) headers) ≡ Some fixed → check h ≡ Some fixed
unfolding check
refused bytes headers spans kind h fixed parts is e = rw (is, parts.method, parts.minor, parts.fields) at e

-- and what is told of the parts is told of the head
pub accepted : (bytes : List ℕ) (headers : List HeaderSpan) (spans : RequestSpans) (facts : HeadFacts) (h : RequestHead) → AreParts bytes headers spans h → facts.method ≡ kind_of (span_bytes bytes spans.method)
    → refusal spans.version (is_post facts.method) (map (header_bytes bytes) headers) ≡ None → facts.target ≡ spans.path → IsWithin (length bytes) spans.path
    → facts.length ≡ stated_len (map (header_bytes bytes) headers) → facts.waits ≡ is_waiting spans.version (map (header_bytes bytes) headers) → facts.closes ≡ is_closing spans.version (map (header_bytes bytes) headers)
    → (check h ≡ None) × AreFacts bytes h facts
unfolding check body_len wants_continue closes
accepted bytes headers spans facts h parts is e target within size waits closing = (
  rw (is, parts.method, parts.minor, parts.fields) at e,
  record {
    kind = rw parts.method at is;
    within = rw target within;
    target = rw target parts.target;
    size = rw parts.fields at size;
    waits = rw (parts.minor, parts.fields) at waits;
    closes = rw (parts.minor, parts.fields) at closing;
  },
)
