-- What is fresh, what is full, and what never enters the history.
use Rattle.std.specs.List.{list_all}
use Rattle.std.proofs.Common.{◌≡◌, ℕ, ◌↔◌, Bool, true, false, cond, not, ◌-◌, ◌++◌, List, take, length, Option, Some, None, unwrap_or, slice_index_or, refl, sym, ap, ◌∙◌, leb}
use Rattle.std.proofs.lemmas.Bool.{false≢true, leb-true, le-leb}
use Rattle.cube_model.specs.declared.cell.Cell.{Cell}
use Rattle.cube_model.specs.declared.entry.Entry.{Entry}
use Rattle.cube_model.specs.declared.link.Link.{Link}
use Rattle.cube_model.specs.declared.link.Link.TheVariants.{Single}
use Rattle.cube_model.specs.declared.outcome.Outcome.{Outcome}
use Rattle.cube_model.specs.declared.outcome.Outcome.TheVariants.{Given, JournalFault, NoMemory}
use Rattle.cube_model.specs.declared.policy.Method.{Method}
use Rattle.cube_model.specs.declared.policy.Method.TheVariants.{Plain, Lattice, Parity}
use Rattle.cube_model.specs.declared.request.Request.{Request}
use Rattle.cube_model.specs.declared.request.What.{What}
use Rattle.cube_model.specs.declared.request.What.TheVariants.{Count, Measure}
use Rattle.cube_model.specs.declared.verdict.Verdict.{Verdict}
use Rattle.cube_model.specs.declared.verdict.Verdict.TheVariants.{Answer, Full}
use Rattle.cube_model.specs.Cubes.{Public}
use Rattle.cube_model.specs.Requests.{grain, is_valid}
use Rattle.cube_model.specs.Protection.{method, guarded, uncut}
use Rattle.cube_model.specs.Links.{links, follows, suiting}
use Rattle.cube_model.specs.Entries.{requests}
use Rattle.cube_model.specs.Verdicts.{source, links_of, narrowed, holds_grain, most_held, fixed_by, first_stop, stopped_at, unless_stopped, unless_uncut, judged, judged_what, verdict}
use Rattle.cube_model.specs.Runs.{entered, grown, next_by, by_rules}
use Rattle.cube_model.specs.Runs.Question.{Query}
use Rattle.cube_model.specs.Fresh.{is_fresh_by, is_fresh_on, NotFreshIsAnswered, FullIs, is_open_by, is_open, OpenLeavesHistory}
use Rattle.cube_model.proofs.Parities.{no_answer_fixes, no_full_fixes}

-- neither an answer that is not fresh nor full
record IsLate (v : Verdict) : Type 0 where
  pub other : v ≡ Answer false → ⊥
  pub room : (n : ℕ) → v ≡ Full n → ⊥

late_uncut : (c : List ℕ) (o : Option Cell) → IsLate (unless_uncut c o)
late_uncut c None = record { other = λ e. cc; room = λ n e. cc }
late_uncut c (Some t) = record { other = λ e. cc; room = λ n e. cc }

late_stopped : (n : ℕ) (guards : List ℕ) (kept others : List Link) (o : Option ℕ) → IsLate (unless_stopped (stopped_at n guards kept others) o)
late_stopped n guards kept others None = record { other = λ e. cc; room = λ n e. cc }
late_stopped n guards kept others (Some k) = record {
  other = λ e. no_answer_fixes k (slice_index_or others (k - 1) (Single 0)) (unwrap_or (fixed_by (suiting n (kept ++ take k others)) guards) 0) false (sym e);
  room = λ held e. no_full_fixes k (slice_index_or others (k - 1) (Single 0)) (unwrap_or (fixed_by (suiting n (kept ++ take k others)) guards) 0) held (sym e);
}

-- the three cases of a verdict on a measure that is not open
said : Bool → Bool → ℕ → Verdict → Verdict
said a b n v = cond a (Answer false) (cond b (Full n) v)

said_answer : (a b : Bool) (n : ℕ) (v : Verdict) → IsLate v → (said a b n v ≡ Answer false) ↔ (not a ≡ false)
unfolding said
said_answer true b n v late = ((λ e. refl), (λ e. refl))
said_answer false true n v late = ((λ e. absurd (cc)), (λ e. absurd (false≢true (sym e))))
said_answer false false n v late = ((λ e. absurd (late.other e)), (λ e. absurd (false≢true (sym e))))

said_full : (a b : Bool) (n : ℕ) (v : Verdict) (held : ℕ) → IsLate v → (said a b n v ≡ Full held) ↔ ((not a ≡ true) × (b ≡ true) × (held ≡ n))
unfolding said
said_full true b n v held late = ((λ e. absurd (cc)), (λ p. absurd (false≢true p.0)))
said_full false true n v held late = ((λ e. (refl, refl, cc)), (λ p. ap Full (sym p.2)))
said_full false false n v held late = ((λ e. absurd (late.room held e)), (λ p. absurd (false≢true p.1)))

answered_by : (way : Method) (g : Public) (h : List Entry) (r : Request) (m : ℕ) → (judged way g h r m ≡ Answer false) ↔ (is_fresh_by way g h r m ≡ false)
unfolding said
answered_by Plain g h r m = ((λ e. refl), (λ e. refl))
answered_by Lattice g h r m = said_answer (holds_grain (source h m) (grain r)) (leb most_held (length (requests h))) (length (requests h)) (unless_uncut (narrowed (source h m) (grain r)) (uncut g (narrowed (source h m) (grain r)) m)) (late_uncut (narrowed (source h m) (grain r)) (uncut g (narrowed (source h m) (grain r)) m))
answered_by Parity g h r m = said_answer (list_all (follows (length g.shape.points) (links_of g h m)) (links g r)) (leb most_held (length (requests h))) (length (requests h)) _ (late_stopped (length g.shape.points) (guarded g m) (links_of g h m) (links g r) (first_stop (length g.shape.points) (guarded g m) (links_of g h m) (links g r)))

-- full, with the limit as a test
abbrev HasFull : Verdict → Bool → ℕ → ℕ → Type 0
HasFull v fresh n held = (v ≡ Full held) ↔ ((fresh ≡ true) × (leb most_held n ≡ true) × (held ≡ n))

full_by : (way : Method) (g : Public) (h : List Entry) (r : Request) (m held : ℕ) → HasFull (judged way g h r m) (is_fresh_by way g h r m) (length (requests h)) held
unfolding said
full_by Plain g h r m held = ((λ e. absurd (cc)), (λ p. absurd (false≢true p.0)))
full_by Lattice g h r m held = said_full (holds_grain (source h m) (grain r)) (leb most_held (length (requests h))) (length (requests h)) (unless_uncut (narrowed (source h m) (grain r)) (uncut g (narrowed (source h m) (grain r)) m)) held (late_uncut (narrowed (source h m) (grain r)) (uncut g (narrowed (source h m) (grain r)) m))
full_by Parity g h r m held = said_full (list_all (follows (length g.shape.points) (links_of g h m)) (links g r)) (leb most_held (length (requests h))) (length (requests h)) _ held (late_stopped (length g.shape.points) (guarded g m) (links_of g h m) (links g r) (first_stop (length g.shape.points) (guarded g m) (links_of g h m) (links g r)))

answered_on : (what : What) (g : Public) (h : List Entry) (r : Request) → (judged_what what g h r ≡ Answer false) ↔ (is_fresh_on what g h r ≡ false)
answered_on Count g h r = ((λ e. refl), (λ e. refl))
answered_on (Measure m) g h r = answered_by (method g m) g h r m

full_on : (what : What) (g : Public) (h : List Entry) (r : Request) (held : ℕ) → HasFull (judged_what what g h r) (is_fresh_on what g h r) (length (requests h)) held
full_on Count g h r held = ((λ e. absurd (cc)), (λ p. absurd (false≢true p.0)))
full_on (Measure m) g h r held = full_by (method g m) g h r m held

pub not_fresh_is_answered : NotFreshIsAnswered
unfolding verdict
not_fresh_is_answered g h r = answered_on r.what g h r

pub full_is : FullIs
unfolding verdict
full_is g h r held =
    let a = full_on r.what g h r held in
    ((λ e. let p = a.0 e in (p.0, leb-true most_held (length (requests h)) p.1, p.2)), (λ p. a.1 (p.0, le-leb most_held (length (requests h)) p.1, p.2)))

-- ---- what is open
open_by : (way : Method) (g : Public) (h : List Entry) (r : Request) (m : ℕ) → is_open_by way ≡ true → judged way g h r m ≡ Answer false
open_by Plain g h r m e = refl
open_by Lattice g h r m e = absurd (false≢true e)
open_by Parity g h r m e = absurd (false≢true e)

open_on : (what : What) (g : Public) (h : List Entry) (r : Request) → is_open g what ≡ true → judged_what what g h r ≡ Answer false
open_on Count g h r e = refl
open_on (Measure m) g h r e = open_by (method g m) g h r m e

open_grown : (g : Public) (h : List Entry) (r : Request) → is_open g r.what ≡ true → grown (Query r) g h ≡ h
unfolding verdict
open_grown g h r e = ap (λ v. cond (is_valid g r) (entered h r v) h) (open_on r.what g h r e) ∙ both (is_valid g r)
  where
    both : (b : Bool) → cond b h h ≡ h
    both true = refl
    both false = refl

open_next : (o : Outcome) (g : Public) (h : List Entry) (r : Request) → is_open g r.what ≡ true → next_by by_rules o (Query r) g h ≡ h
open_next Given g h r e = open_grown g h r e
open_next JournalFault g h r e = refl
open_next NoMemory g h r e = refl

pub open_leaves_history : OpenLeavesHistory
open_leaves_history g h a r q e = ap (λ x. next_by by_rules a.outcome x g h) q ∙ open_next a.outcome g h r e
