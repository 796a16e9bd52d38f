-- What a connection keeps of the request that it hears.
use Rattle.std.specs.Prelude.{◌≡◌, ◌⊎◌, ℕ, ◌<◌, ◌≤◌, false, List, [], length, vec_capacity, None, Some, if◌then◌else◌, true}
use Rattle.cube_http.specs.declared.connection.Kept.{Kept}
use Rattle.cube_http.specs.declared.head.HeadFacts.{HeadFacts}
use Rattle.cube_http.specs.Head.{at_end, guess}
use Rattle.cube_http.specs.Facts.{AreFacts}
use Rattle.cube_http.specs.Stream.{ends_head, head_len, most_head, opening}
use Rattle.cube_http.specs.Stream.Opening.{Headed}

-- a head that goes on, without the line ends before it
pub record GoesOn (head : List ℕ) : Type 0 where
  pub begins : at_end head ≡ false
  pub unended : head_len head ≡ None
  pub short : length head < most_head

-- a head that has ended, or has as many bytes as one may have
pub record Stops (head : List ℕ) : Type 0 where
  pub begins : at_end head ≡ false
  pub ended : head_len head ≡ (if ends_head head then Some (length head) else None)
  pub full : (ends_head head ≡ true) ⊎ (length head ≡ most_head)
  pub short : length head ≤ most_head

-- the bytes are a head that passes all checks, and its facts are these
pub record IsRead (head : List ℕ) (facts : HeadFacts) : Type 0 where
  pub begins : at_end head ≡ false
  pub opens : opening head ≡ Headed (length head) (guess head)
  pub tells : AreFacts head (guess head) facts
  pub small : facts.length ≤ 65536

-- there is space for a head and for a body
pub record KeepsCapacity (kept : Kept) : Type 0 where
  pub head : most_head ≤ vec_capacity kept.head
  pub body : 65536 ≤ vec_capacity kept.body

-- a head that goes on, and nothing behind it
pub record KeepsHead (kept : Kept) : Type 0 where
  pub goes_on : GoesOn kept.head.items
  pub empty : kept.body.items ≡ []
  pub capacity : KeepsCapacity kept

-- a head that was read, and the front of its body
pub record KeepsBody (kept : Kept) : Type 0 where
  pub read : IsRead kept.head.items kept.facts
  pub unfinished : length kept.body.items < kept.facts.length
  pub capacity : KeepsCapacity kept

-- a head that was read, and any body
pub record KeepsRequest (kept : Kept) : Type 0 where
  pub read : IsRead kept.head.items kept.facts
  pub capacity : KeepsCapacity kept
