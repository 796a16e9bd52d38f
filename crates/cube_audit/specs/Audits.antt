-- When a transcript is sound: each query with a sum has just that sum for its reply, and the queries keep each measure.
use Rattle.std.specs.Prelude.{ℕ, ◌+◌, ◌==◌, ◌&&◌, Bool, false, not, List, [], ◌∷◌, length, filter, flat_map, Option, Some, None, Result, Ok, Err, if◌then◌else◌}
use Rattle.std.specs.Str.{bytes_eq}
use Rattle.cube_model.specs.declared.cell.Cell.{Cell}
use Rattle.cube_model.specs.declared.entry.Entry.{Entry}
use Rattle.cube_model.specs.declared.policy.Policy.{Policy}
use Rattle.cube_model.specs.declared.request.Request.{Request}
use Rattle.cube_model.specs.Cores.{Core, shown, world}
use Rattle.cube_model.specs.Cubes.{Public, World, count_from}
use Rattle.cube_model.specs.Dims.{Dims}
use Rattle.cube_model.specs.Entries.{asked}
use Rattle.cube_model.specs.Kept.{unkept}
use Rattle.cube_model.specs.Requests.{answer}
use Rattle.cube_query.specs.Faults.{request_of}
use Rattle.cube_query.specs.declared.fault.RequestFault.{RequestFault}
use Rattle.cube_answers.specs.AnswerText.{answer_text}
use Rattle.cube_audit.specs.declared.auditing.Audited.{Audited}
use Rattle.cube_audit.specs.declared.auditing.Audited.TheVariants.{Yes, Inexact, Fixed}
use Rattle.cube_audit.specs.declared.transcript.TranscriptItem.{TranscriptItem}

-- ---- items that are exact

-- A reply of status 200 is examined. What another says, as a refusal, is not.
abbrev pub is_examined : TranscriptItem → Bool
is_examined i = i.status == 200

abbrev pub examined : List TranscriptItem → List TranscriptItem
examined items = filter is_examined items

abbrev pub is_body : Dims → World → List ℕ → Result Request RequestFault → Bool
is_body s w body (Ok r) = bytes_eq body (answer_text s r (answer w r))
is_body s w body (Err e) = false

-- the query is read, and the body is the text of its answer
abbrev pub is_exact : Dims → World → TranscriptItem → Bool
is_exact s w i = is_body s w i.body (request_of s i.query)

-- the number of the first item that is examined and not exact, where the first of all has this number
abbrev pub inexact_from : Dims → World → ℕ → List TranscriptItem → Option ℕ
inexact_from s w k [] = None
inexact_from s w k (i ∷ is) = if is_examined i && not (is_exact s w i) then Some k else inexact_from s w (k + 1) is

abbrev pub requests_in : Result Request RequestFault → List Request
requests_in (Ok r) = r ∷ []
requests_in (Err e) = []

-- the requests that are examined, in order
abbrev pub asked_by : Dims → List TranscriptItem → List Request
asked_by s items = flat_map (λ i. requests_in (request_of s i.query)) (examined items)

-- ---- measures that are kept

abbrev pub unless_fixed : ℕ → Audited → Option Cell → Audited
unless_fixed m rest None = rest
unless_fixed m rest (Some t) = Fixed m t

-- a yes on so many requests where they keep each of the measures, or else the first that they do not keep, with its first protected
-- cell that fails
abbrev pub kept_or_fixed : ℕ → Public → List Entry → List ℕ → Audited
kept_or_fixed n g h [] = Yes n
kept_or_fixed n g h (m ∷ ms) = unless_fixed m (kept_or_fixed n g h ms) (unkept g h m)

-- ---- the audit

abbrev pub unless_inexact : Audited → Option ℕ → Audited
unless_inexact rest None = rest
unless_inexact rest (Some k) = Inexact k

-- The first item that is not exact; or else the first measure that is not kept, with its first protected cell that fails; or else a
-- yes, with the number of items that were examined. The requests may come in any order, and need not be admissible.
unfoldable pub audited : Core → Policy → List TranscriptItem → Audited
audited c p items = unless_inexact
    (kept_or_fixed (length (examined items)) (shown c p) (asked (asked_by c.dims items)) (count_from 0 (length c.dims.measures)))
    (inexact_from c.dims (world c p) 1 items)
