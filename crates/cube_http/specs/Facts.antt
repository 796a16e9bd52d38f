-- What is kept of a head that was read.
use Rattle.std.specs.Prelude.{◌≡◌, ℕ, ◌<◌, Bool, true, min, map, List, [], ◌∷◌, length, Option, Some, None, Result, Ok, Err, MatchResult}
use Rattle.std.specs.Str.Parse.{digits_value}
use Rattle.httparse.specs.Grammar.{RequestHead}
use Rattle.httparse.specs.declared.spans.HeaderSpan.{HeaderSpan}
use Rattle.httparse.specs.declared.spans.RequestSpans.{RequestSpans}
use Rattle.httparse.specs.Spans.{span_bytes, header_bytes, IsWithin}
use Rattle.cube_model.specs.declared.reply.Fixed.{Fixed}
use Rattle.cube_model.specs.declared.reply.Fixed.TheVariants.{BadHead}
use Rattle.cube_http.specs.declared.fields.Found.{Found}
use Rattle.cube_http.specs.declared.fields.Found.TheVariants as found
use Rattle.cube_http.specs.declared.fields.Length.{Length}
use Rattle.cube_http.specs.declared.fields.Length.TheVariants as size
use Rattle.cube_http.specs.declared.head.HeadFacts.{HeadFacts}
use Rattle.cube_http.specs.Methods.{kind_of}
use Rattle.cube_http.specs.Checks.{is_number, is_bad_length, fields_of, stated_len, refusal, check, body_len, wants_continue, closes}

-- none, the one, or more than one of the values
abbrev pub AreValues : Found → List (List ℕ) → Type 0
AreValues found.Absent vs = vs ≡ []
AreValues (found.One v) vs = vs ≡ v.now ∷ []
AreValues found.Many vs = 1 < length vs

-- what the values of Content-Length state: a number is told up to one more than the largest length
abbrev pub States : List (List ℕ) → Length → Type 0
States vs size.Unstated = vs ≡ []
States vs (size.Bytes n) = (v : List ℕ) × (vs ≡ v ∷ []) × (is_number v ≡ true) × (n ≡ min 65537 (digits_value 10 v))
States vs size.Bad = is_bad_length vs ≡ true

-- what is kept of the head h, whose bytes are these
pub record AreFacts (bytes : List ℕ) (h : RequestHead) (facts : HeadFacts) : Type 0 where
  pub kind : facts.method ≡ kind_of h.method
  pub within : IsWithin (length bytes) facts.target
  pub target : span_bytes bytes facts.target ≡ h.target
  pub size : facts.length ≡ body_len h
  pub waits : facts.waits ≡ wants_continue h
  pub closes : facts.closes ≡ closes h

-- the parts of a head, as spans of its bytes
pub record AreParts (bytes : List ℕ) (headers : List HeaderSpan) (spans : RequestSpans) (h : RequestHead) : Type 0 where
  pub method : span_bytes bytes spans.method ≡ h.method
  pub target : span_bytes bytes spans.path ≡ h.target
  pub minor : spans.version ≡ h.minor
  pub fields : map (header_bytes bytes) headers ≡ fields_of h

-- the checks refuse the fields, or tell the length of the body
abbrev pub Checks : ℕ → Bool → List (List ℕ × List ℕ) → Result ℕ Fixed → Type 0
Checks minor post fields result = MatchResult result (λ n. (refusal minor post fields ≡ None) × (n ≡ stated_len fields)) (λ fixed. refusal minor post fields ≡ Some fixed)

-- the bytes of a head are judged: they are none, or it is refused by a check, or its facts are kept
abbrev pub Judges : List ℕ → Option RequestHead → Result HeadFacts Fixed → Type 0
Judges bytes None (Ok facts) = ⊥
Judges bytes None (Err fixed) = fixed ≡ BadHead
Judges bytes (Some h) (Ok facts) = (check h ≡ None) × AreFacts bytes h facts
Judges bytes (Some h) (Err fixed) = check h ≡ Some fixed
