-- One text, one request or one table more.
use Rattle.std.specs.Prelude.{IsErr}
use Rattle.std.proofs.Common.{◌≡◌, ℕ, zero, suc, ◌+◌, ◌*◌, ◌<◌, ◌≤◌, Bool, true, false, cond, ◌&&◌, List, [], ◌∷◌, ◌++◌, length, map, filter, get_or, take, drop, Option, Some, None, Result, Ok, Err, IfOk, refl, sym, ap, ap₂, ◌∙◌, subst, arith, add-one, append_assoc, append-nil, drop-cons}
use Rattle.std.specs.List.{All}
use Rattle.std.proofs.lemmas.Bool.{and_parts, false≢true}
use Rattle.std.proofs.lemmas.List.Elements.{All-append}
use Rattle.std.proofs.lemmas.List.{map_more, map-append, drop_all, length-map}
use Rattle.std.specs.Option.{option_map}
use Rattle.cube_model.specs.declared.answer.Row.{Row}
use Rattle.cube_model.specs.declared.entry.Entry.{Entry}
use Rattle.cube_model.specs.declared.entry.Entry.TheVariants.{Asked}
use Rattle.cube_model.specs.declared.request.Request.{Request}
use Rattle.cube_model.specs.declared.verdict.Verdict.{Verdict}
use Rattle.cube_model.specs.declared.verdict.Verdict.TheVariants.{Answer, Full, SourceWould, Pair, Single}
use Rattle.cube_model.specs.Cubes.{Public}
use Rattle.cube_model.specs.Requests.{asks, rows}
use Rattle.cube_model.specs.Runs.{entered}
use Rattle.cube_model.specs.Verdicts.{verdict}
use Rattle.cube_admit.specs.States.{State, entry_of, waiting, whole, waits_for}
use Rattle.cube_admit.specs.declared.held.Pending.{Pending}
use Rattle.cube_query.specs.declared.fault.RequestFault.{RequestFault}
use Rattle.cube_gen.specs.Draws.{seed, drawn}
use Rattle.cube_gen.specs.Made.{draws_of, queries_from, made_queries}
use Rattle.cube_engine.specs.Books.{is_answer}
use Rattle.cube_demo.specs.Counting.{verdicts, history_behind, answered}
use Rattle.cube_demo.specs.Hiding.{rows_on}

-- what stands from a place on
dropped : {X : Type 0} (xs : List X) (i : ℕ) (x : X) → i < length xs → x ≡ get_or xs i x → drop i xs ≡ x ∷ drop (i + 1) xs
dropped xs i x l at = rw (add-one i) (drop-cons xs i x l ∙ ap (λ y. y ∷ drop (suc i) xs) (sym at))

-- one element more
pub all_more : {X : Type 0} (P : X → Type 0) (xs new : List X) (x : X) → new ≡ xs ++ x ∷ [] → All P xs → P x → All P new
all_more P xs new x grown so_far here = subst (All P) (sym grown) (All-append P xs (x ∷ []) so_far one)
  where
    one : All P (x ∷ [])
    one zero d l = here
    one (suc k) d l = absurd (omega (arith, l))

-- what follows of a value
pub ok_map : {T E : Type 0} (P Q : T → Type 0) (r : Result T E) → ((x : T) → P x → Q x) → IfOk r P → IfOk r Q
ok_map P Q (Ok x) f h = f x h
ok_map P Q (Err e) f h = tt

-- ---- texts that are read

module _ (f : List ℕ → Result Request RequestFault) where
  pub read_long : (texts : List (List ℕ)) (rs : List Request) → map f texts ≡ map Ok rs → length rs ≡ length texts
  read_long texts rs h = sym (length-map rs Ok) ∙ sym (ap length h) ∙ length-map texts f

from_long : (x s n : ℕ) → length (queries_from x s n) ≡ n
from_long x s zero = refl
from_long x s (suc n) = ap suc (from_long (seed (seed x 1) (draws_of (drawn x 1 5))) s n)

pub made_long : (x s : ℕ) → length (made_queries x s) ≡ 200 * s
unfolding made_queries
made_long x s = from_long (seed x (3 * (20000 * s))) s (200 * s)

-- ---- requests that are judged

nothing_waits : (s : State) → waiting s ≡ None → whole s ≡ s.history
nothing_waits s e = go s.pending e
  where
    go : (p : Option Pending) → option_map (λ q. q.request) p ≡ None → s.history ++ entry_of p ≡ s.history
    go None e = append-nil s.history
    go (Some p) e = absurd (cc)

it_waits : (s : State) (r : Request) → waiting s ≡ Some r → whole s ≡ s.history ++ Asked r ∷ []
it_waits s r e = go s.pending e
  where
    entry_from : Option Request → List Entry
    entry_from None = []
    entry_from (Some r) = Asked r ∷ []

    go : (p : Option Pending) → option_map (λ q. q.request) p ≡ Some r → s.history ++ entry_of p ≡ s.history ++ Asked r ∷ []
    go None e = absurd (cc)
    go (Some p) e = ap (λ (o : Option Request). s.history ++ entry_from o) e

-- what enters the history is what waits
pub enters : (s : State) (r : Request) (v : Verdict) → waiting s ≡ waits_for v r → whole s ≡ entered s.history r v
enters s r (Answer true) e = it_waits s r e
enters s r (Answer false) e = nothing_waits s e
enters s r (Full n) e = nothing_waits s e
enters s r (SourceWould c t) e = nothing_waits s e
enters s r (Pair k i j t) e = nothing_waits s e
enters s r (Single k i t) e = nothing_waits s e

module _ (g : Public) (rs : List Request) (i : ℕ) (r : Request) (lt : i < length rs) (at : r ≡ get_or rs i r) (h h' : List Entry) (v : Verdict) (is : v ≡ verdict g h r) (left : h' ≡ entered h r v) where
  own : h' ≡ entered h r (verdict g h r)
  own = left ∙ ap (entered h r) is

  pub verdicts_more : (vs new judged : List Verdict) → new ≡ vs ++ v ∷ [] → vs ++ verdicts g h (drop i rs) ≡ judged → new ++ verdicts g h' (drop (i + 1) rs) ≡ judged
  verdicts_more vs new judged grown so_far =
      ap (λ (l : List Verdict). l ++ verdicts g h' (drop (i + 1) rs)) grown
      ∙ append_assoc vs (v ∷ []) (verdicts g h' (drop (i + 1) rs))
      ∙ ap₂ (λ (x : Verdict) (k : List Entry). vs ++ x ∷ verdicts g k (drop (i + 1) rs)) is own
      ∙ ap (λ (l : List Request). vs ++ verdicts g h l) (sym (dropped rs i r lt at))
      ∙ so_far

  pub history_more : (last : List Entry) → history_behind g h (drop i rs) ≡ last → history_behind g h' (drop (i + 1) rs) ≡ last
  history_more last so_far = ap (λ (k : List Entry). history_behind g k (drop (i + 1) rs)) own ∙ ap (history_behind g h) (sym (dropped rs i r lt at)) ∙ so_far

pub verdicts_whole : (g : Public) (h : List Entry) (rs : List Request) (i : ℕ) (vs judged : List Verdict) → length rs ≤ i → vs ++ verdicts g h (drop i rs) ≡ judged → vs ≡ judged
verdicts_whole g h rs i vs judged l so_far = sym (append-nil vs) ∙ ap (λ (l : List Request). vs ++ verdicts g h l) (sym (drop_all i rs l)) ∙ so_far

pub history_whole : (g : Public) (h last : List Entry) (rs : List Request) (i : ℕ) → length rs ≤ i → history_behind g h (drop i rs) ≡ last → h ≡ last
history_whole g h last rs i l so_far = ap (history_behind g h) (sym (drop_all i rs l)) ∙ so_far

pub verdicts_long : (g : Public) (h : List Entry) (rs : List Request) → length (verdicts g h rs) ≡ length rs
verdicts_long g h [] = refl
verdicts_long g h (r ∷ rs) = ap suc (verdicts_long g (entered h r (verdict g h r)) rs)

-- ---- requests that are answered

module _ (g : Public) (m : ℕ) where
  yes_first : (r : Request) (rs : List Request) (v : Verdict) (vs : List Verdict) → (is_answer v && asks m r) ≡ true → rows_on g m (r ∷ rs) (v ∷ vs) ≡ rows g r ∷ rows_on g m rs vs
  yes_first r rs v vs e =
      let p = and_parts (is_answer v) (asks m r) e in
      ap (λ (b : Bool). map (rows g) (filter (asks m) (cond b (r ∷ answered rs vs) (answered rs vs)))) p.0
      ∙ ap (λ (b : Bool). map (rows g) (cond b (r ∷ filter (asks m) (answered rs vs)) (filter (asks m) (answered rs vs)))) p.1

  no_first : (r : Request) (rs : List Request) (v : Verdict) (vs : List Verdict) → (is_answer v && asks m r) ≡ false → rows_on g m (r ∷ rs) (v ∷ vs) ≡ rows_on g m rs vs
  no_first r rs v vs e = go (is_answer v) e
    where
      go : (b : Bool) → (b && asks m r) ≡ false → map (rows g) (filter (asks m) (cond b (r ∷ answered rs vs) (answered rs vs))) ≡ map (rows g) (filter (asks m) (answered rs vs))
      go true e = ap (λ (b : Bool). map (rows g) (cond b (r ∷ filter (asks m) (answered rs vs)) (filter (asks m) (answered rs vs)))) e
      go false e = refl

  module _ (rs : List Request) (vs : List Verdict) (i : ℕ) (r : Request) (v : Verdict) (l : i < length rs) (k : i < length vs) (at : r ≡ get_or rs i r) (judged : v ≡ get_or vs i v) where
    pub rows_more : (tables new all : List (List Row)) (table : List Row) → (is_answer v && asks m r) ≡ true → table ≡ rows g r → new ≡ tables ++ table ∷ [] → tables ++ rows_on g m (drop i rs) (drop i vs) ≡ all → new ++ rows_on g m (drop (i + 1) rs) (drop (i + 1) vs) ≡ all
    rows_more tables new all table e is grown so_far =
        ap (λ (ts : List (List Row)). ts ++ rows_on g m (drop (i + 1) rs) (drop (i + 1) vs)) grown
        ∙ append_assoc tables (table ∷ []) (rows_on g m (drop (i + 1) rs) (drop (i + 1) vs))
        ∙ ap (λ (t : List Row). tables ++ t ∷ rows_on g m (drop (i + 1) rs) (drop (i + 1) vs)) is
        ∙ ap (λ (ts : List (List Row)). tables ++ ts) (sym (ap₂ (rows_on g m) (dropped rs i r l at) (dropped vs i v k judged) ∙ yes_first r (drop (i + 1) rs) v (drop (i + 1) vs) e))
        ∙ so_far

    pub rows_same : (tables new all : List (List Row)) → (is_answer v && asks m r) ≡ false → new ≡ tables → tables ++ rows_on g m (drop i rs) (drop i vs) ≡ all → new ++ rows_on g m (drop (i + 1) rs) (drop (i + 1) vs) ≡ all
    rows_same tables new all e same so_far =
        ap (λ (ts : List (List Row)). ts ++ rows_on g m (drop (i + 1) rs) (drop (i + 1) vs)) same
        ∙ ap (λ (ts : List (List Row)). tables ++ ts) (sym (ap₂ (rows_on g m) (dropped rs i r l at) (dropped vs i v k judged) ∙ no_first r (drop (i + 1) rs) v (drop (i + 1) vs) e))
        ∙ so_far

  pub rows_whole : (rs : List Request) (vs : List Verdict) (i : ℕ) (tables all : List (List Row)) → length rs ≤ i → tables ++ rows_on g m (drop i rs) (drop i vs) ≡ all → tables ≡ all
  rows_whole rs vs i tables all l so_far = sym (append-nil tables) ∙ ap (λ (ys : List Request). tables ++ rows_on g m ys (drop i vs)) (sym (drop_all i rs l)) ∙ so_far
