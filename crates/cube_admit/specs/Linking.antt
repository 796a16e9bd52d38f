-- What the links of a request do to those that are kept of a parity measure.
use Rattle.std.specs.List.{list_all}
use Rattle.std.specs.Prelude.{◌≡◌, ◌≤◌, ℕ, Bool, true, false, List, ◌++◌, length, take, slice_index_or, slice_set, nat_le, if◌then◌else◌, Option, Some, None}
use Rattle.cube_model.specs.declared.link.Link.{Link}
use Rattle.cube_model.specs.declared.verdict.Verdict.{Verdict}
use Rattle.cube_model.specs.declared.verdict.Verdict.TheVariants.{Answer, Full}
use Rattle.cube_model.specs.Links.{follows, suiting, basis}
use Rattle.cube_model.specs.LinkLaws.{AreOfPlaces}
use Rattle.cube_model.specs.Verdicts.{fixed_by, first_stop, unless_stopped, stopped_at, most_held}
use Rattle.cube_colour.specs.Colourings.{Colouring}
use Rattle.cube_admit.specs.declared.held.Held.{Held}
use Rattle.cube_admit.specs.declared.held.Held.TheVariants as held
use Rattle.cube_model.specs.declared.request.Request.{Request}
use Rattle.cube_admit.specs.declared.held.Next.TheVariants as next
use Rattle.cube_admit.specs.declared.held.Pending.{Pending}
use Rattle.cube_admit.specs.States.{State}
use Rattle.cube_admit.specs.declared.parity.Effect.{Effect}
use Rattle.cube_admit.specs.declared.parity.Effect.TheVariants.{Follow, Fit, Stop}

-- each link follows from those kept
abbrev pub all_follow : Colouring → List Link → Bool
all_follow c ls = list_all (follows c.places c.kept) ls

-- with the links added
abbrev pub with_links : Colouring → List Link → Colouring
with_links c ls = record c { kept = basis c.places (c.kept ++ ls) }

-- some link does not follow, and all were added
pub record IsFit (old new : Colouring) (ls : List Link) (mark : ℕ) : Type 0 where
  pub news : all_follow old ls ≡ false
  pub added : new ≡ with_links old ls
  pub before : mark ≡ length old.kept
  pub within : mark ≤ length new.kept
  pub front : take mark new.kept ≡ old.kept
  pub free : first_stop old.places old.guarded old.kept ls ≡ None

-- some link does not follow, and none was added: up to this link they fix this guarded place
pub record IsStop (old new : Colouring) (ls : List Link) (index place : ℕ) : Type 0 where
  pub news : all_follow old ls ≡ false
  pub stays : new ≡ old
  pub from : 1 ≤ index
  pub below : index ≤ length ls
  pub stop : first_stop old.places old.guarded old.kept ls ≡ Some index
  pub fixed : fixed_by (suiting old.places (old.kept ++ take index ls)) old.guarded ≡ Some place

abbrev pub Does : Colouring → Colouring → List Link → Effect → Type 0
Does old new ls Follow = (all_follow old ls ≡ true) × (new ≡ old)
Does old new ls (Fit mark) = IsFit old new ls mark
Does old new ls (Stop index place) = IsStop old new ls index place

-- the verdict on links behind so many requests
abbrev pub linked_as : Colouring → ℕ → List Link → Verdict
linked_as c many ls = if all_follow c ls then Answer false else if nat_le most_held many then Full many else unless_stopped (stopped_at c.places c.guarded c.kept ls) (first_stop c.places c.guarded c.kept ls)

-- what is kept behind a verdict, by the mark that is given
abbrev pub KeptBy : Colouring → Colouring → List Link → Verdict → Option ℕ → Type 0
KeptBy old new ls v None = (new ≡ old) × (v ≡ Answer true → ⊥)
KeptBy old new ls v (Some mark) = (new ≡ with_links old ls) × (v ≡ Answer true) × (mark ≡ length old.kept) × (mark ≤ length new.kept)

abbrev pub ColouringJudged : Colouring → Colouring → ℕ → List Link → Verdict × Option ℕ → Type 0
ColouringJudged old new many ls given = (given.0 ≡ linked_as old many ls) × KeptBy old new ls given.0 given.1

-- links are kept of the measure
abbrev pub is_linked : Held → Bool
is_linked held.Open = false
is_linked (held.Source s) = false
is_linked (held.Links c) = true

-- what is kept is of a parity measure, and the links are of its places
abbrev pub IsLinks : Held → List Link → Type 0
IsLinks held.Open ls = ⊥
IsLinks (held.Source s) ls = ⊥
IsLinks (held.Links c) ls = AreOfPlaces c.places ls

abbrev pub HeldJudged : Held → Held → ℕ → List Link → Verdict × Option ℕ → Type 0
HeldJudged held.Open new many ls given = ⊥
HeldJudged (held.Source s) new many ls given = ⊥
HeldJudged (held.Links c) held.Open many ls given = ⊥
HeldJudged (held.Links c) (held.Source s) many ls given = ⊥
HeldJudged (held.Links c) (held.Links d) many ls given = ColouringJudged c d many ls given

-- a request on a measure that waits, where there is a mark
abbrev pub marked : Request → ℕ → Option ℕ → Option Pending
marked r m None = None
marked r m (Some mark) = Some (record { request = r; measure = m; next = next.Mark mark })

-- a request on a parity measure was judged by its links, and waits where its answer is fresh
pub record LinksJudged (many m : ℕ) (r : Request) (ls : List Link) (old new : State) (v : Verdict) : Type 0 where
  pub mark : Option ℕ
  pub history : new.history ≡ old.history
  pub others : new.held ≡ slice_set old.held m (slice_index_or new.held m held.Open)
  pub judged : HeldJudged (slice_index_or old.held m held.Open) (slice_index_or new.held m held.Open) many ls (v, mark)
  pub waits : new.pending ≡ marked r m mark
  pub table : new.table ≡ old.table
