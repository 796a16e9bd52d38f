-- What the log of a cube recovers, behind one more line, and where it was opened.
use Rattle.std.proofs.Common.{◌≡◌, ◌⊎◌, inl, inr, ⊎_elim, ℕ, zero, suc, ◌≤◌, ◌<◌, ◌^◌, refl, sym, ap, ◌∙◌, subst, Bool, true, false, cond, ◌||◌, List, [], ◌∷◌, ◌++◌, length, get_or, append_assoc, arith, Option, Some, None, Result, Ok, Err}
use Rattle.std.proofs.lemmas.List.{append-nil}
use Rattle.cube_model.specs.declared.entry.Entry.{Entry}
use Rattle.cube_model.specs.declared.entry.Entry.TheVariants.{Asked, Source, Linked}
use Rattle.cube_model.specs.declared.entry.Taken.{Taken as Taking}
use Rattle.cube_model.specs.declared.entry.Taken.TheVariants.{Taken}
use Rattle.cube_model.specs.declared.policy.Method.{Method}
use Rattle.cube_model.specs.declared.policy.Method.TheVariants.{Plain, Lattice, Parity}
use Rattle.cube_model.specs.declared.policy.Policy.{Policy}
use Rattle.cube_model.specs.declared.request.Request.{Request}
use Rattle.cube_model.specs.declared.request.What.{What}
use Rattle.cube_model.specs.declared.request.What.TheVariants.{Count, Measure}
use Rattle.cube_model.specs.declared.verdict.Verdict.TheVariants.{Answer}
use Rattle.cube_model.specs.Cores.{Core, shown}
use Rattle.cube_model.specs.Cubes.{Public, Each, IsIn}
use Rattle.cube_model.specs.Dims.{Dims, IsDims}
use Rattle.cube_model.specs.Entries.{is_allowed}
use Rattle.cube_model.specs.Logs.{Left, is_refused, is_taken, left}
use Rattle.cube_model.specs.Logs.Left.{Leaves, Stops}
use Rattle.cube_model.specs.Policies.{IsPolicy}
use Rattle.cube_model.specs.Protection.{method, is_lattice, is_parity}
use Rattle.cube_model.specs.Rooms.{Room}
use Rattle.cube_model.specs.Verdicts.{verdict, judged, judged_what, taken, taken_by}
use Rattle.cube_io.specs.Desks.{ForeignStay, GivesRooms, LeavesOf, LeavesAll, IsOneOf}
use Rattle.cube_io.specs.Seen.{StoreState}
use Rattle.cube_io.specs.States.{State, Log, Gained, IsImage, settled}
use Rattle.cube_io.specs.Told.{OthersStay}
use Rattle.cube_io.proofs.Leaving.{leaves_all_map}
use Rattle.cube_io.proofs.Trails.{gained_map}
use Rattle.cube_journal.specs.Digests.{is_digest}
use Rattle.cube_journal.specs.Keeping.{Journal, Fits, KeepsSafe, IsInKeep, IsInRecovery}
use Rattle.cube_journal.specs.Laws.{Grows}
use Rattle.cube_journal.specs.Lines.{IsPrefix, IsEnded, ended_lines}
use Rattle.cube_journal.specs.Opening.{IsFaultOf}
use Rattle.cube_journal.specs.Recovery.{is_controlled, first_line, recovered, kept_of}
use Rattle.cube_journal.specs.RequestLines.{request_line}
use Rattle.cube_journal.specs.Sound.{IsSound}
use Rattle.cube_journal.specs.declared.fault.OpenFault.{OpenFault}
use Rattle.cube_journal.specs.declared.fault.OpenFault.TheVariants as opened
use Rattle.cube_journal.proofs.KeptBytes.{kept_recovers}
use Rattle.cube_journal.proofs.LineFacts.{lines_split}
use Rattle.cube_journal.proofs.Longer.{logs_grow}
use Rattle.cube_engine.specs.declared.fault.StartFault.{StartFault}
use Rattle.cube_engine.specs.declared.fault.StartFault.TheVariants.{Inadmissible, NoMemory}
use Rattle.cube_rollup.specs.Rollups.{entry_of}
use Rattle.cube_engine.specs.Books.{Holding}
use Rattle.cube_engine.specs.Kept.{digest_for, written, first_entry, by_left, judged_in, history_of, GivesHistory, IsExact, RecoversWithin, IsWithin, MayEnter, IsTail, IsKept}
use Rattle.cube_engine.specs.Opening.{of_open, IsStartFault}
use Rattle.cube_engine.specs.Worlds.{first_history}
use Rattle.cube_engine.proofs.Settled.{nothing, settled_image, settled_exact}
use Rattle.cube_engine.proofs.Named.{valid_under}

-- ---- entries judged one behind another

-- one that is taken behind what the others leave
pub left_more : (g : Public) (h : List Entry) (n : ℕ) (es : List Entry) (e : Entry) (k : List Entry) → left g h n es ≡ Leaves k → taken g k e ≡ Taken → left g h n (es ++ e ∷ []) ≡ Leaves (k ++ e ∷ [])
left_more g h n [] e k is takes =
    let same : h ≡ k = cc in
    ap (λ (t : Taking). cond (is_refused t) (Stops n) (Leaves (cond (is_taken t) (h ++ e ∷ []) h))) (ap (λ (x : List Entry). taken g x e) same ∙ takes) ∙ ap (λ (x : List Entry). Leaves (x ++ e ∷ [])) same
left_more g h n (x ∷ es) e k is takes = go (is_refused (taken g h x)) (left_more g (cond (is_taken (taken g h x)) (h ++ x ∷ []) h) (suc n) es e k) is
  where
    next : List Entry
    next = cond (is_taken (taken g h x)) (h ++ x ∷ []) h

    go : (b : Bool) → (left g next (suc n) es ≡ Leaves k → taken g k e ≡ Taken → left g next (suc n) (es ++ e ∷ []) ≡ Leaves (k ++ e ∷ [])) → cond b (Stops n) (left g next (suc n) es) ≡ Leaves k → cond b (Stops n) (left g next (suc n) (es ++ e ∷ [])) ≡ Leaves (k ++ e ∷ [])
    go true again is = absurd (cc)
    go false again is = again is takes

-- a request with a fresh answer is taken, and its measure is under control
fresh_taken : (g : Public) (h : List Entry) (r : Request) → verdict g h r ≡ Answer true → taken g h (Asked r) ≡ Taken
unfolding taken
fresh_taken g h r e = ap taken_by e

controlled_by : (way : Method) (g : Public) (h : List Entry) (r : Request) (m : ℕ) → judged way g h r m ≡ Answer true → (is_lattice way || is_parity way) ≡ true
controlled_by Plain g h r m e = absurd (cc)
controlled_by Lattice g h r m e = refl
controlled_by Parity g h r m e = refl

controlled_what : (c : Core) (p : Policy) (h : List Entry) (r : Request) (what : What) → judged_what what (shown c p) h r ≡ Answer true → is_controlled p what ≡ true
controlled_what c p h r Count e = absurd (cc)
controlled_what c p h r (Measure m) e = controlled_by (method (shown c p) m) (shown c p) h r m e

fresh_controlled : (c : Core) (p : Policy) (h : List Entry) (r : Request) → verdict (shown c p) h r ≡ Answer true → is_controlled p r.what ≡ true
unfolding verdict
fresh_controlled c p h r e = controlled_what c p h r r.what e

-- ---- bytes that recover a history

pub history_by : (c : Core) (p : Policy) (b : List ℕ) (es h : List Entry) → written c p b ≡ Ok es → left (shown c p) [] first_entry es ≡ Leaves h → history_of c p b ≡ Ok h
history_by c p b es h is leaves = ap (judged_in c p) is ∙ ap by_left leaves

-- what is safe of a log
pub record Safe (c : Core) (p : Policy) (h : List Entry) (bytes : List ℕ) : Type 0 where
  pub dims : IsDims c.dims
  pub ended : IsEnded bytes
  pub begun : ended_lines bytes ≡ [] → ⊥
  pub entries : List Entry
  pub is_written : written c p bytes ≡ Ok entries
  pub leaves : left (shown c p) [] first_entry entries ≡ Leaves h

safe_of : (c : Core) (p : Policy) (h : List Entry) (j : Journal) (s : State) → IsDims c.dims → IsKept c p h j s → Safe c p h s.safe
safe_of c p h j s dims k = record { dims = dims; ended = k.fits.ended; begun = k.begun; entries = k.entries; is_written = k.written; leaves = k.left }

grows : (c : Core) (p : Policy) (h : List Entry) (bytes : List ℕ) (r : Request) (safe : Safe c p h bytes) → MayEnter c p h r → Grows (digest_for c p) c.dims p (length c.shape.points) bytes safe.entries r
grows c p h bytes r safe may = logs_grow (digest_for c p) c.dims p (length c.shape.points) bytes safe.entries r safe.dims may.valid (fresh_controlled c p h r may.fresh) safe.ended safe.begun safe.is_written

leaves_more : (c : Core) (p : Policy) (h : List Entry) (bytes : List ℕ) (r : Request) (safe : Safe c p h bytes) → MayEnter c p h r → left (shown c p) [] first_entry (safe.entries ++ Asked r ∷ []) ≡ Leaves (h ++ Asked r ∷ [])
leaves_more c p h bytes r safe may = left_more (shown c p) [] first_entry safe.entries (Asked r) h safe.leaves (fresh_taken (shown c p) h r may.fresh)

pub recovers_more : (c : Core) (p : Policy) (h : List Entry) (bytes : List ℕ) (r : Request) (safe : Safe c p h bytes) → MayEnter c p h r → history_of c p (bytes ++ request_line c.dims r) ≡ Ok (h ++ Asked r ∷ [])
recovers_more c p h bytes r safe may = history_by c p (bytes ++ request_line c.dims r) (safe.entries ++ Asked r ∷ []) (h ++ Asked r ∷ []) (grows c p h bytes r safe may).whole (leaves_more c p h bytes r safe may)

-- behind the beginning of a line
part_within : (c : Core) (p : Policy) (h : List Entry) (bytes part : List ℕ) (r : Request) (safe : Safe c p h bytes) → MayEnter c p h r → IsPrefix part (request_line c.dims r) → RecoversWithin c p h (bytes ++ part)
part_within c p h bytes part r safe may prefix =
    ⊎_elim
    (λ same. inl (history_by c p (bytes ++ part) safe.entries h same safe.leaves))
    (λ more. inr (r, history_by c p (bytes ++ part) (safe.entries ++ Asked r ∷ []) (h ++ Asked r ∷ []) more (leaves_more c p h bytes r safe may)))
    ((grows c p h bytes r safe may).part part prefix)

image_within : (c : Core) (p : Policy) (h : List Entry) (bytes kept lost : List ℕ) (safe : Safe c p h bytes) → IsTail c p h (kept ++ lost) → RecoversWithin c p h (bytes ++ kept)
image_within c p h bytes kept lost safe (inl none) =
    let e : kept ≡ [] = nothing kept lost none in
    inl (ap (λ (k : List ℕ). history_of c p (bytes ++ k)) e ∙ ap (history_of c p) (append-nil bytes) ∙ history_by c p bytes safe.entries h safe.is_written safe.leaves)
image_within c p h bytes kept lost safe (inr tail) =
    part_within c p h bytes kept tail.0 safe tail.1 (lost ++ (tail.2).0, sym (append_assoc kept lost (tail.2).0) ∙ (tail.2).1)

tail_at : (c : Core) (p : Policy) (h : List Entry) (t : List ℕ) (ts : List (List ℕ)) → Each (IsTail c p h) ts → IsIn t ts → IsTail c p h t
tail_at c p h t [] e i = absurd i
tail_at c p h t (x ∷ ts) e (inl same) = subst (IsTail c p h) same e.0
tail_at c p h t (x ∷ ts) e (inr i) = tail_at c p h t ts e.1 i

tails_within : (c : Core) (p : Policy) (h : List Entry) (s : State) → Safe c p h s.safe → Each (IsTail c p h) s.tails → IsWithin c p h s
tails_within c p h s safe tails b image =
    subst (RecoversWithin c p h) (sym image.whole) (image_within c p h s.safe image.kept image.lost safe (tail_at c p h (image.kept ++ image.lost) s.tails tails image.is_tail))

pub kept_within : (c : Core) (p : Policy) (h : List Entry) (j : Journal) (s : State) → IsDims c.dims → IsKept c p h j s → IsWithin c p h s
kept_within c p h j s dims k = tails_within c p h s (safe_of c p h j s dims k) k.tails

-- ---- a keep

kept_tails : (c : Core) (p : Policy) (h : List Entry) (r : Request) (old ts : List (List ℕ)) → MayEnter c p h r → Each (IsTail c p h) old → Each (λ t. IsIn t old ⊎ IsPrefix t (request_line c.dims r)) ts → Each (IsTail c p h) ts
kept_tails c p h r old [] may tails e = tt
kept_tails c p h r old (t ∷ ts) may tails e = (⊎_elim (λ i. tail_at c p h t old tails i) (λ prefix. inr (r, may, prefix)) e.0, kept_tails c p h r old ts may tails e.1)

-- at each moment of it
pub keep_within : (c : Core) (p : Policy) (h : List Entry) (j : Journal) (old s : State) (r : Request) (line : List ℕ) → IsDims c.dims → IsKept c p h j old → MayEnter c p h r → line ≡ request_line c.dims r → IsInKeep line old s → IsWithin c p h s
keep_within c p h j old s r line dims k may is (inl safe) =
    let keeps = subst (λ (l : List ℕ). KeepsSafe l old s) is safe in
    tails_within c p h s (subst (Safe c p h) (sym keeps.safe) (safe_of c p h j old dims k)) (kept_tails c p h r old.tails s.tails may k.tails keeps.tails)
keep_within c p h j old s r line dims k may is (inr whole) = λ b image.
    let all : b ≡ old.safe ++ line = settled_image (old.safe ++ line) b (subst (λ (t : State). IsImage t b) whole image) in
    inr (r, ap (history_of c p) (all ∙ ap (λ (l : List ℕ). old.safe ++ l) is) ∙ recovers_more c p h old.safe r (safe_of c p h j old dims k) may)

not_begun : (xs ys : List (List ℕ)) → (xs ≡ [] → ⊥) → xs ++ ys ≡ [] → ⊥
not_begun [] ys some e = some refl
not_begun (x ∷ xs) ys some e = cc

-- behind a line that was kept
pub keep_done : (c : Core) (p : Policy) (h : List Entry) (j k : Journal) (old s : State) (r : Request) (line : List ℕ) → IsDims c.dims → IsKept c p h j old → MayEnter c p h r → line ≡ request_line c.dims r → Fits s k → s ≡ settled (old.safe ++ line) → IsKept c p (h ++ Asked r ∷ []) k s
keep_done c p h j k old s r line dims kept may is fits done =
    let safe = safe_of c p h j old dims kept in
    let bytes : s.safe ≡ old.safe ++ request_line c.dims r = ap (λ (t : State). t.safe) done ∙ ap (λ (l : List ℕ). old.safe ++ l) is in
    record {
      fits = fits;
      begun = λ none. not_begun (ended_lines old.safe) (ended_lines (request_line c.dims r)) kept.begun (sym (lines_split old.safe (request_line c.dims r) kept.fits.ended) ∙ ap ended_lines (sym bytes) ∙ none);
      entries = safe.entries ++ Asked r ∷ [];
      written = ap (written c p) bytes ∙ (grows c p h old.safe r safe may).whole;
      left = leaves_more c p h old.safe r safe may;
      tails = subst (Each (IsTail c p (h ++ Asked r ∷ []))) (sym (ap (λ (t : State). t.tails) done)) (inl refl, tt);
    }

pub keep_exact : (c : Core) (p : Policy) (h : List Entry) (j : Journal) (old s : State) (r : Request) (line : List ℕ) → IsDims c.dims → IsKept c p h j old → MayEnter c p h r → line ≡ request_line c.dims r → s ≡ settled (old.safe ++ line) → IsExact c p (h ++ Asked r ∷ []) s
keep_exact c p h j old s r line dims kept may is done = settled_exact c p (old.safe ++ line) (h ++ Asked r ∷ []) s done (ap (λ (l : List ℕ). history_of c p (old.safe ++ l)) is ∙ recovers_more c p h old.safe r (safe_of c p h j old dims kept) may)

-- behind a keep that failed
pub keep_failed : (c : Core) (p : Policy) (h : List Entry) (j k : Journal) (old s : State) (r : Request) (line : List ℕ) → IsKept c p h j old → MayEnter c p h r → line ≡ request_line c.dims r → Fits s k → KeepsSafe line old s → IsKept c p h k s
keep_failed c p h j k old s r line kept may is fits safe =
    let keeps = subst (λ (l : List ℕ). KeepsSafe l old s) is safe in
    record {
      fits = fits;
      begun = λ none. kept.begun (ap ended_lines (sym keeps.safe) ∙ none);
      entries = kept.entries;
      written = ap (written c p) keeps.safe ∙ kept.written;
      left = kept.left;
      tails = kept_tails c p h r old.tails s.tails may kept.tails keeps.tails;
    }

-- ---- a log that is opened

kept_open : (c : Core) (p : Policy) (h es : List Entry) (j : Journal) (bytes : List ℕ) (s : State) → is_digest (digest_for c p) ≡ true → written c p bytes ≡ Ok es → left (shown c p) [] first_entry es ≡ Leaves h → Fits s j → s ≡ settled (kept_of (first_line (digest_for c p)) bytes) → IsKept c p h j s
kept_open c p h es j bytes s lower is leaves fits done =
    let kept = kept_recovers (digest_for c p) c.dims p (length c.shape.points) bytes es lower is in
    record {
      fits = fits;
      begun = λ none. kept.begun (ap ended_lines (sym (ap (λ (t : State). t.safe) done)) ∙ none);
      entries = es;
      written = ap (written c p) (ap (λ (t : State). t.safe) done) ∙ kept.recovers;
      left = leaves;
      tails = subst (Each (IsTail c p h)) (sym (ap (λ (t : State). t.tails) done)) (inl refl, tt);
    }

exact_open : (c : Core) (p : Policy) (h es : List Entry) (bytes : List ℕ) (s : State) → is_digest (digest_for c p) ≡ true → written c p bytes ≡ Ok es → left (shown c p) [] first_entry es ≡ Leaves h → s ≡ settled (kept_of (first_line (digest_for c p)) bytes) → IsExact c p h s
exact_open c p h es bytes s lower is leaves done =
    let kept = kept_recovers (digest_for c p) c.dims p (length c.shape.points) bytes es lower is in
    settled_exact c p (kept_of (first_line (digest_for c p)) bytes) h s done (history_by c p (kept_of (first_line (digest_for c p)) bytes) es h kept.recovers leaves)

pub open_fault : (c : Core) (p : Policy) (bytes : List ℕ) (f : OpenFault) → IsFaultOf (written c p bytes) bytes f → IsStartFault (history_of c p bytes) bytes (of_open f)
open_fault c p bytes opened.Failed is = tt
open_fault c p bytes opened.TooLong is = is
open_fault c p bytes (opened.Damaged line) is = (is.0, ap (judged_in c p) is.1)
open_fault c p bytes (opened.OtherCube kept now) is = (is.0, ap (judged_in c p) is.1)
open_fault c p bytes opened.NoMemory is = tt

left_is : (x : Left) (said : Result (List Entry) StartFault) (bytes : List ℕ) (e : StartFault) → length bytes ≤ 2 ^ 28 → said ≡ by_left x → by_left x ≡ Err e → IsStartFault said bytes e
left_is (Leaves h) said bytes e short is err = absurd (cc)
left_is (Stops n) said bytes e short is err = subst (IsStartFault said bytes) (same (Inadmissible n) e err) (short, is)
  where
    same : (x y : StartFault) → ◌≡◌ {A = Result (List Entry) StartFault} (Err x) (Err y) → x ≡ y
    same x y e = cc

pub judge_fault : (c : Core) (p : Policy) (bytes : List ℕ) (es : List Entry) (e : StartFault) → length bytes ≤ 2 ^ 28 → written c p bytes ≡ Ok es → (e ≡ NoMemory) ⊎ (by_left (left (shown c p) [] first_entry es) ≡ Err e) → IsStartFault (history_of c p bytes) bytes e
judge_fault c p bytes es e short is (inl none) = subst (IsStartFault (history_of c p bytes) bytes) (sym none) tt
judge_fault c p bytes es e short is (inr err) = left_is (left (shown c p) [] first_entry es) (history_of c p bytes) bytes e short (ap (judged_in c p) is) err

-- ---- what is recovered may be judged

pub sound_allowed : (c : Core) (p : Policy) (e : Entry) → IsPolicy c.dims p → IsSound c.dims p (length c.shape.points) e → is_allowed (shown c p) e ≡ true
unfolding is_allowed
sound_allowed c p (Asked r) policy is = valid_under c p r policy is
sound_allowed c p (Source m levels) policy is = is
sound_allowed c p (Linked m l) policy is = is

each_at : {X : Type 0} (P : X → Type 0) (xs : List X) (i : ℕ) (d : X) → i < length xs → Each P xs → P (get_or xs i d)
each_at P [] i d lt e = absurd (omega (arith, lt))
each_at P (x ∷ xs) zero d lt e = e.0
each_at P (x ∷ xs) (suc i) d lt e = each_at P xs i d (omega (arith, lt)) e.1

pub allowed_at : (c : Core) (p : Policy) (es : List Entry) (i : ℕ) (e : Entry) → IsPolicy c.dims p → Each (IsSound c.dims p (length c.shape.points)) es → i < length es → e ≡ get_or es i e → is_allowed (shown c p) e ≡ true
allowed_at c p es i e policy sound lt is = sound_allowed c p e policy (subst (IsSound c.dims p (length c.shape.points)) (sym is) (each_at (IsSound c.dims p (length c.shape.points)) es i e lt sound))

-- ---- with the digest, the dimensions and the number of places that were handed over

pub read_alike : (c : Core) (p : Policy) (digest : List ℕ) (s : Dims) (n : ℕ) → digest ≡ digest_for c p → s ≡ c.dims → n ≡ length c.shape.points → (b : List ℕ) → recovered digest s p n b ≡ written c p b
read_alike c p digest s n is dims few b = ap (λ (k : ℕ). recovered digest s p k b) few ∙ ap (λ (t : Dims). recovered digest t p (length c.shape.points) b) dims ∙ ap (λ (d : List ℕ). recovered d c.dims p (length c.shape.points) b) is

pub opened_crash : (c : Core) (p : Policy) (digest : List ℕ) (s : Dims) (n : ℕ) (old new : Log) → digest ≡ digest_for c p → s ≡ c.dims → n ≡ length c.shape.points → Gained (IsInRecovery (recovered digest s p n) old.state) old new → Gained (IsInRecovery (history_of c p) old.state) old new
opened_crash c p digest s n old new is dims few gained = gained_map (IsInRecovery (recovered digest s p n) old.state) (IsInRecovery (history_of c p) old.state) old new each gained
  where
    each : (t : State) → IsInRecovery (recovered digest s p n) old.state t → IsInRecovery (history_of c p) old.state t
    each t (inl same) = inl same
    each t (inr e) = inr (λ b image. ap (judged_in c p) (sym (read_alike c p digest s n is dims few b) ∙ e b image ∙ read_alike c p digest s n is dims few old.state.now))

pub opened_sound : (c : Core) (p : Policy) (s : Dims) (n : ℕ) (es : List Entry) → s ≡ c.dims → n ≡ length c.shape.points → Each (IsSound s p n) es → Each (IsSound c.dims p (length c.shape.points)) es
opened_sound c p s n es dims few e = subst (λ (t : Dims). Each (IsSound t p (length c.shape.points)) es) dims (subst (λ (k : ℕ). Each (IsSound s p k) es) few e)

lower_for : (c : Core) (p : Policy) (digest : List ℕ) → digest ≡ digest_for c p → is_digest digest ≡ true → is_digest (digest_for c p) ≡ true
lower_for c p digest is lower = subst (λ (d : List ℕ). is_digest d ≡ true) is lower

done_for : (c : Core) (p : Policy) (digest bytes : List ℕ) (t : State) → digest ≡ digest_for c p → t ≡ settled (kept_of (first_line digest) bytes) → t ≡ settled (kept_of (first_line (digest_for c p)) bytes)
done_for c p digest bytes t is done = done ∙ ap (λ (d : List ℕ). settled (kept_of (first_line d) bytes)) is

pub opened_kept : (c : Core) (p : Policy) (h es : List Entry) (j : Journal) (bytes digest : List ℕ) (s : Dims) (n : ℕ) (t : State) → digest ≡ digest_for c p → s ≡ c.dims → n ≡ length c.shape.points → is_digest digest ≡ true
    → recovered digest s p n bytes ≡ Ok es → left (shown c p) [] first_entry es ≡ Leaves h → Fits t j → t ≡ settled (kept_of (first_line digest) bytes) → IsKept c p h j t
opened_kept c p h es j bytes digest s n t is dims few lower reads leaves fits done = kept_open c p h es j bytes t (lower_for c p digest is lower) (sym (read_alike c p digest s n is dims few bytes) ∙ reads) leaves fits (done_for c p digest bytes t is done)

pub opened_exact : (c : Core) (p : Policy) (h es : List Entry) (bytes digest : List ℕ) (s : Dims) (n : ℕ) (t : State) → digest ≡ digest_for c p → s ≡ c.dims → n ≡ length c.shape.points → is_digest digest ≡ true
    → recovered digest s p n bytes ≡ Ok es → left (shown c p) [] first_entry es ≡ Leaves h → t ≡ settled (kept_of (first_line digest) bytes) → IsExact c p h t
opened_exact c p h es bytes digest s n t is dims few lower reads leaves done = exact_open c p h es bytes t (lower_for c p digest is lower) (sym (read_alike c p digest s n is dims few bytes) ∙ reads) leaves (done_for c p digest bytes t is done)

-- ---- a book that keeps a line

pub keep_crash : (c : Core) (p : Policy) (h : List Entry) (j : Journal) (old new : Log) (r : Request) (line : List ℕ) → IsDims c.dims → IsKept c p h j old.state → MayEnter c p h r → line ≡ request_line c.dims r → Gained (IsInKeep line old.state) old new → Gained (IsWithin c p h) old new
keep_crash c p h j old new r line dims kept may is gained = gained_map (IsInKeep line old.state) (IsWithin c p h) old new (λ s e. keep_within c p h j old.state s r line dims kept may is e) gained

-- beyond what a crash could leave before, the history comes back, alone or with the request whose line is kept
part_either : (c : Core) (p : Policy) (h : List Entry) (bytes part : List ℕ) (r : Request) (safe : Safe c p h bytes) → MayEnter c p h r → IsPrefix part (request_line c.dims r) → (history_of c p (bytes ++ part) ≡ Ok h) ⊎ (history_of c p (bytes ++ part) ≡ Ok (h ++ Asked r ∷ []))
part_either c p h bytes part r safe may prefix =
    ⊎_elim
    (λ same. inl (history_by c p (bytes ++ part) safe.entries h same safe.leaves))
    (λ more. inr (history_by c p (bytes ++ part) (safe.entries ++ Asked r ∷ []) (h ++ Asked r ∷ []) more (leaves_more c p h bytes r safe may)))
    ((grows c p h bytes r safe may).part part prefix)

one_of : (c : Core) (p : Policy) (h k : List Entry) (b : List ℕ) → GivesHistory c p h b ⊎ GivesHistory c p k b → (x : List Entry) × IsOneOf h k x × GivesHistory c p x b
one_of c p h k b (inl g) = (h, inl refl, g)
one_of c p h k b (inr g) = (k, inr refl, g)

tail_either : (old ts : List (List ℕ)) (line t : List ℕ) → Each (λ x. IsIn x old ⊎ IsPrefix x line) ts → IsIn t ts → IsIn t old ⊎ IsPrefix t line
tail_either old [] line t e i = absurd i
tail_either old (x ∷ ts) line t e (inl same) = subst (λ (y : List ℕ). IsIn y old ⊎ IsPrefix y line) same e.0
tail_either old (x ∷ ts) line t e (inr i) = tail_either old ts line t e.1 i

keep_either : (c : Core) (p : Policy) (h : List Entry) (j : Journal) (old s : State) (r : Request) (line : List ℕ) → IsDims c.dims → IsKept c p h j old → MayEnter c p h r → line ≡ request_line c.dims r → IsInKeep line old s → LeavesOf (GivesHistory c p) (IsOneOf h (h ++ Asked r ∷ [])) old s
keep_either c p h j old s r line dims k may is (inl safe) b image =
    let keeps = subst (λ (l : List ℕ). KeepsSafe l old s) is safe in
    let bytes : b ≡ old.safe ++ image.kept = image.whole ∙ ap (λ (x : List ℕ). x ++ image.kept) keeps.safe in
    ⊎_elim
    (λ before. inl (record { kept = image.kept; lost = image.lost; is_tail = before; whole = bytes }))
    (λ prefix. inr (one_of c p h (h ++ Asked r ∷ []) b (subst (λ (x : List ℕ). GivesHistory c p h x ⊎ GivesHistory c p (h ++ Asked r ∷ []) x) (sym bytes)
    (part_either c p h old.safe image.kept r (safe_of c p h j old dims k) may (image.lost ++ prefix.0, sym (append_assoc image.kept image.lost prefix.0) ∙ prefix.1)))))
    (tail_either old.tails s.tails (request_line c.dims r) (image.kept ++ image.lost) keeps.tails image.is_tail)
keep_either c p h j old s r line dims k may is (inr whole) b image =
    let all : b ≡ old.safe ++ line = settled_image (old.safe ++ line) b (subst (λ (t : State). IsImage t b) whole image) in
    inr (one_of c p h (h ++ Asked r ∷ []) b (inr (ap (history_of c p) (all ∙ ap (λ (l : List ℕ). old.safe ++ l) is) ∙ recovers_more c p h old.safe r (safe_of c p h j old dims k) may)))

pub keep_in_hand : (c : Core) (p : Policy) (h : List Entry) (j : Journal) (old new : Log) (r : Request) (line : List ℕ) → IsDims c.dims → IsKept c p h j old.state → MayEnter c p h r → line ≡ request_line c.dims r
    → Gained (IsInKeep line old.state) old new → IsInKeep line old.state new.state → LeavesAll (GivesHistory c p) (IsOneOf h (h ++ Asked r ∷ [])) old new
keep_in_hand c p h j old new r line dims kept may is gained last = record {
  passed = gained_map (IsInKeep line old.state) (LeavesOf (GivesHistory c p) (IsOneOf h (h ++ Asked r ∷ [])) old.state) old new (λ s e. keep_either c p h j old.state s r line dims kept may is e) gained;
  last = keep_either c p h j old.state new.state r line dims kept may is last;
}

-- the request that waited is the last of the history now
pub has_entered : (old new : Holding) (r : Request) → new ≡ record { core = old.core; policy = old.policy; history = old.history ++ entry_of old.waiting; waiting = None } → old.waiting ≡ Some r → new.history ≡ old.history ++ Asked r ∷ []
has_entered old new r is waits = ap (λ (b : Holding). b.history) is ∙ ap (λ (o : Option Request). old.history ++ entry_of o) waits

-- ---- the log of a desk

-- at this state a crash leaves nothing
nowhere : State
nowhere = record { now = []; safe = []; tails = [] }

-- a log of which nothing is said is another one
pub log_others : (c : Core) (p : Policy) (own : ℕ) (old new : StoreState) → OthersStay own old new → ForeignStay (λ rooms log s. (log ≡ own) × IsWithin c p (first_history rooms) s) old new
unfolding nowhere
log_others c p own old new stay tells log foreign = stay tells log (λ is. foreign [] nowhere (is, λ b image. absurd image.is_tail))

pub log_crash : (c : Core) (p : Policy) (h k : List Entry) (old new : ℕ → Log) (own log : ℕ) → log ≡ own → Gained (IsWithin c p h) (old own) (new own) → Gained (λ s. ((log ≡ own) × IsWithin c p h s) ⊎ ((log ≡ own) × IsWithin c p k s)) (old log) (new log)
log_crash c p h k old new own log is gained =
    gained_map (IsWithin c p h) (λ s. ((log ≡ own) × IsWithin c p h s) ⊎ ((log ≡ own) × IsWithin c p k s)) (old log) (new log) (λ s w. inl (is, w)) (subst (λ (n : ℕ). Gained (IsWithin c p h) (old n) (new n)) (sym is) gained)

pub log_within : (c c' : Core) (p p' : Policy) (h : List Entry) (logs : ℕ → Log) (own own' log : ℕ) → log ≡ own → c' ≡ c → p' ≡ p → own' ≡ own → IsWithin c p h (logs own).state → (log ≡ own') × IsWithin c' p' h (logs log).state
log_within c c' p p' h logs own own' log is core policy same within =
    (is ∙ sym same, subst (λ (d : Core). IsWithin d p' h (logs log).state) (sym core) (subst (λ (q : Policy). IsWithin c q h (logs log).state) (sym policy) (subst (λ (n : ℕ). IsWithin c p h (logs n).state) (sym is) within)))

pub log_in_hand : (c : Core) (p : Policy) (h k : List Entry) (rooms rooms' : List Room) (own log : ℕ) (old new : ℕ → Log) → h ≡ first_history rooms → k ≡ first_history rooms' → log ≡ own
    → LeavesAll (GivesHistory c p) (IsOneOf h k) (old own) (new own) → LeavesAll (GivesRooms (λ rs n s. (n ≡ own) × IsExact c p (first_history rs) s) log) (IsOneOf rooms rooms') (old log) (new log)
log_in_hand c p h k rooms rooms' own log old new here there is leaves =
    leaves_all_map (GivesHistory c p) (GivesRooms (λ rs n s. (n ≡ own) × IsExact c p (first_history rs) s) log) (IsOneOf h k) (IsOneOf rooms rooms') (old log) (new log) (λ x bytes one gives. by_room x bytes gives one)
    (subst (λ (n : ℕ). LeavesAll (GivesHistory c p) (IsOneOf h k) (old n) (new n)) (sym is) leaves)
  where
    by_room : (x : List Entry) (bytes : List ℕ) → GivesHistory c p x bytes → IsOneOf h k x → (rs : List Room) × IsOneOf rooms rooms' rs × GivesRooms (λ qs n s. (n ≡ own) × IsExact c p (first_history qs) s) log rs bytes
    by_room x bytes gives (inl e) = (rooms, inl refl, (is, settled_exact c p bytes (first_history rooms) (settled bytes) refl (subst (λ (y : List Entry). GivesHistory c p y bytes) (e ∙ here) gives)))
    by_room x bytes gives (inr e) = (rooms', inr refl, (is, settled_exact c p bytes (first_history rooms') (settled bytes) refl (subst (λ (y : List Entry). GivesHistory c p y bytes) (e ∙ there) gives)))

pub log_renewed : (c c' : Core) (p p' : Policy) (h : List Entry) (old new : ℕ → Log) (own own' log : ℕ) → log ≡ own → c' ≡ c → p' ≡ p → own' ≡ own → (new own ≡ old own) ⊎ IsExact c p h (new own).state → (new log ≡ old log) ⊎ ((log ≡ own') × IsExact c' p' h (new log).state)
log_renewed c c' p p' h old new own own' log is core policy same (inl stays) = inl (subst (λ (n : ℕ). new n ≡ old n) (sym is) stays)
log_renewed c c' p p' h old new own own' log is core policy same (inr exact) =
    inr (is ∙ sym same, subst (λ (d : Core). IsExact d p' h (new log).state) (sym core) (subst (λ (q : Policy). IsExact c q h (new log).state) (sym policy) (subst (λ (n : ℕ). IsExact c p h (new n).state) (sym is) exact)))
