-- What the bytes of a log recover, with one more line, and what they can recover.
use Rattle.std.specs.Prelude.{◌≡◌, ◌⊎◌, ℕ, ◌+◌, ◌*◌, ◌^◌, ◌≤◌, List, [], ◌∷◌, ◌++◌, length, true, Ok}
use Rattle.cube_model.specs.Cubes.{Each}
use Rattle.cube_model.specs.Dims.{Dims, IsDims}
use Rattle.cube_model.specs.Entries.{requests}
use Rattle.cube_model.specs.declared.entry.Entry.{Entry}
use Rattle.cube_model.specs.declared.entry.Entry.TheVariants.{Asked}
use Rattle.cube_model.specs.declared.policy.Policy.{Policy}
use Rattle.cube_model.specs.declared.request.Request.{Request}
use Rattle.cube_query.specs.Canonical.{is_request}
use Rattle.cube_journal.specs.Digests.{is_digest}
use Rattle.cube_journal.specs.Lines.{IsPrefix, IsEnded, ended_lines}
use Rattle.cube_journal.specs.Recovery.{is_controlled, first_line, recovered, kept_of}
use Rattle.cube_journal.specs.RequestLines.{request_line}
use Rattle.cube_journal.specs.SecondText.{journal2_text}
use Rattle.cube_journal.specs.Sound.{IsSound}

-- behind ended lines the line of a request recovers the request too, and a part of it nothing more, or the request
pub record Grows (digest : List ℕ) (s : Dims) (p : Policy) (n : ℕ) (safe : List ℕ) (es : List Entry) (r : Request) : Type 0 where
  pub whole : recovered digest s p n (safe ++ request_line s r) ≡ Ok (es ++ Asked r ∷ [])
  pub part : (part : List ℕ) → IsPrefix part (request_line s r) → (recovered digest s p n (safe ++ part) ≡ Ok es) ⊎ (recovered digest s p n (safe ++ part) ≡ Ok (es ++ Asked r ∷ []))

-- so it is of each request on a measure under control
abbrev pub LogsGrow : Type 0
LogsGrow = (digest : List ℕ) (s : Dims) (p : Policy) (n : ℕ) (safe : List ℕ) (es : List Entry) (r : Request) → IsDims s → is_request s r ≡ true → is_controlled p r.what ≡ true
    → IsEnded safe → (ended_lines safe ≡ [] → ⊥) → recovered digest s p n safe ≡ Ok es → Grows digest s p n safe es r

-- what is recovered are requests of the dimensions, sources and links of the measures
abbrev pub EntriesAreSound : Type 0
EntriesAreSound = (digest : List ℕ) (s : Dims) (p : Policy) (n : ℕ) (bytes : List ℕ) (es : List Entry) → IsDims s → recovered digest s p n bytes ≡ Ok es → Each (IsSound s p n) es

-- these bytes recover the entries, and a line of them has ended
pub record KeptIs (digest : List ℕ) (s : Dims) (p : Policy) (n : ℕ) (kept : List ℕ) (es : List Entry) : Type 0 where
  pub recovers : recovered digest s p n kept ≡ Ok es
  pub begun : ended_lines kept ≡ [] → ⊥

-- what is kept of a log recovers what the log did
abbrev pub KeptRecovers : Type 0
KeptRecovers = (digest : List ℕ) (s : Dims) (p : Policy) (n : ℕ) (bytes : List ℕ) (es : List Entry) → is_digest digest ≡ true → recovered digest s p n bytes ≡ Ok es → KeptIs digest s p n (kept_of (first_line digest) bytes) es

-- a history of sources and links that the dimensions allow, with numbers of 32 bits
pub record IsWithoutRequests (s : Dims) (p : Policy) (n : ℕ) (es : List Entry) : Type 0 where
  pub dims : IsDims s
  pub few_measures : length p.methods ≤ 2 ^ 32
  pub few_places : n ≤ 2 ^ 32
  pub no_requests : requests es ≡ []
  pub sound : Each (IsSound s p n) es

-- its text as a journal of the second version recovers just these entries
abbrev pub SecondReadsBack : Type 0
SecondReadsBack = (digest : List ℕ) (s : Dims) (p : Policy) (n : ℕ) (es : List Entry) → is_digest digest ≡ true → IsWithoutRequests s p n es → recovered digest s p n (journal2_text digest es) ≡ Ok es

-- a line of this text has at most 128 bytes, the first 80
abbrev pub SecondIsShort : Type 0
SecondIsShort = (digest : List ℕ) (s : Dims) (p : Policy) (n : ℕ) (es : List Entry) → is_digest digest ≡ true → IsWithoutRequests s p n es → length (journal2_text digest es) ≤ 80 + 128 * length es

-- each line of this text has ended: all of it is kept
abbrev pub SecondIsKept : Type 0
SecondIsKept = (digest : List ℕ) (s : Dims) (p : Policy) (n : ℕ) (head : List ℕ) (es : List Entry) → is_digest digest ≡ true → IsWithoutRequests s p n es → kept_of head (journal2_text digest es) ≡ journal2_text digest es
