-- The pay cube of the worked examples, what is said of small transcripts, and what an audit of them tells.
use Rattle.std.specs.Prelude.{ℕ, List, [], ◌∷◌, codes, None, Result, Ok, Err}
use Rattle.cube_model.specs.declared.policy.Method.TheVariants.{Lattice, Parity}
use Rattle.cube_model.specs.declared.policy.Policy.{Policy}
use Rattle.cube_core.specs.Worked.{pay_core}
use Rattle.cube_audit.specs.Audits.{audited}
use Rattle.cube_audit.specs.AuditText.{audited_text}
use Rattle.cube_audit.specs.Transcripts.{transcript_of}
use Rattle.cube_audit.specs.Words.{fault_words}
use Rattle.cube_audit.specs.declared.transcript.TranscriptFault.{TranscriptFault}
use Rattle.cube_audit.specs.declared.transcript.TranscriptItem.{TranscriptItem}

-- pay is under the source rule and hours under the parity rule; each cell of a city in a month is protected
abbrev pub pay_policy : Policy
pay_policy = record { methods = Lattice ∷ Parity ∷ []; objects = record { measure = 0; levels = 0 ∷ 0 ∷ []; slice = []; fewer = None } ∷ [] }

abbrev pub item : List ℕ → ℕ → List ℕ → TranscriptItem
item query status body = record { query = query; status = status; body = body }

abbrev pub months : TranscriptItem
months = item (codes "slice pay by time.month") 200 (codes "time.month,pay\nJan,80\nFeb,70\n")

abbrev pub areas : TranscriptItem
areas = item (codes "slice pay by region.area") 200 (codes "region.area,pay\nSouth,60\nNorth,90\n")

-- the sum of a month is wrong
abbrev pub wrong_months : TranscriptItem
wrong_months = item (codes "slice pay by time.month") 200 (codes "time.month,pay\nJan,81\nFeb,70\n")

abbrev pub cities_of_hours : TranscriptItem
cities_of_hours = item (codes "slice hours by region.city") 200 (codes "region.city,hours\nLyon,3\nNice,3\nParis,9\n")

abbrev pub refusal : TranscriptItem
refusal = item (codes "slice pay by region.area") 403 (codes "no")

-- the line of an audit of the pay cube
abbrev pub line_of : List TranscriptItem → List ℕ
line_of items = audited_text pay_core.dims (audited pay_core pay_policy items)

abbrev pub words_of : Result (List TranscriptItem) TranscriptFault → List ℕ
words_of (Ok items) = line_of items
words_of (Err fault) = fault_words fault

-- the line of an audit of the pay cube, or the words of the first fault of a transcript
abbrev pub said : List ℕ → List ℕ
said bytes = words_of (transcript_of bytes)
