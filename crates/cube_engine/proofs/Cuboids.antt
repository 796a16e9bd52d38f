-- The cuboids that a book answers from: they are those of what its state keeps, and each serves the requests that are answered.
use Rattle.std.specs.Option.{IfSome, option_map}
use Rattle.std.proofs.Common.{◌≡◌, ℕ, zero, suc, ◌+◌, ◌<◌, ◌≤◌, Bool, true, false, List, [], ◌∷◌, ◌++◌, length, map, get_or, Option, Some, None, refl, sym, ap, ◌∙◌, subst, arith, append-nil, eqb}
use Rattle.std.proofs.lemmas.Bool.{eqb-true, eq-eqb, false≢true}
use Rattle.std.proofs.lemmas.Bool.Decides.{nat_tests}
use Rattle.std.proofs.lemmas.List.{length-map}
use Rattle.std.proofs.Math.ListN.{get_or-append}
use Rattle.std.proofs.Math.Seq.{get_or-append_seam}
use Rattle.cube_model.specs.declared.answer.AnswerRow.{AnswerRow}
use Rattle.cube_model.specs.declared.entry.Entry.{Entry}
use Rattle.cube_model.specs.declared.entry.Entry.TheVariants.{Asked}
use Rattle.cube_model.specs.declared.policy.Method.{Method}
use Rattle.cube_model.specs.declared.policy.Method.TheVariants.{Plain, Lattice, Parity}
use Rattle.cube_model.specs.declared.policy.Policy.{Policy}
use Rattle.cube_model.specs.declared.request.Request.{Request}
use Rattle.cube_model.specs.declared.request.What.{What}
use Rattle.cube_model.specs.declared.request.What.TheVariants.{Count, Measure}
use Rattle.cube_model.specs.declared.verdict.Verdict.TheVariants.{Answer}
use Rattle.cube_model.specs.Cores.{Core, IsCore, shown, world}
use Rattle.cube_model.specs.Cubes.{Public, are_levels, is_finer, key_at}
use Rattle.cube_model.specs.Protection.{method}
use Rattle.cube_model.specs.declared.answer.Row.{Row}
use Rattle.cube_model.specs.Requests.{answer as answer_of, asks, grain, is_measure, is_picked, is_valid, rows, summed, total}
use Rattle.cube_model.specs.Runs.{entered as entered_with}
use Rattle.cube_model.specs.Verdicts.{source, verdict, IsAdmissible}
use Rattle.cube_model.proofs.Compacts.{InRange, source_in_range}
use Rattle.cube_model.proofs.Histories.{AreAllowed, admissible_allowed, answered_source}
use Rattle.cube_answers.specs.AnswerText.{IsAnswer}
use Rattle.cube_answers.specs.Sums.{row_sum}
use Rattle.cube_answers.proofs.Keys.{answer_fits}
use Rattle.cube_answers.proofs.Valid.{valid_fits, valid_measure}
use Rattle.cube_admit.specs.declared.held.Held.{Held}
use Rattle.cube_admit.specs.declared.held.Held.TheVariants as held
use Rattle.cube_admit.specs.declared.held.Next.TheVariants as next
use Rattle.cube_admit.specs.declared.held.Pending.{Pending}
use Rattle.cube_admit.specs.States.{State, entry_of as entry_pending, waiting, whole, source_in, waits_for, IsHeldBy, IsNextBy, IsReady, IsStateOf}
use Rattle.cube_query.specs.Canonical.{is_request}
use Rattle.cube_rollup.specs.Cuboids.{Cuboid, IsCuboidOf, cell_keys}
use Rattle.cube_rollup.specs.Rollups.{Rollups, entered, source_by, kept_at, IsCuboidAt, entry_of, RollupsStand, cells_at}
use Rattle.cube_rollup.proofs.Keeping.{committed, held as held_next, others}
use Rattle.cube_engine.specs.Reads.{ReadsFew, cuboid_of, IsFineEnough}

-- ---- what a state keeps

source_kept : (way : Method) (g : Public) (h k : List Entry) (m : ℕ) (kept : Held) → IsHeldBy way g h k m kept → source_in kept ≡ source_by way (source h m)
source_kept Plain g h k m held.Open is = refl
source_kept Plain g h k m (held.Source c) is = absurd is
source_kept Plain g h k m (held.Links c) is = absurd is
source_kept Lattice g h k m held.Open is = absurd is
source_kept Lattice g h k m (held.Source c) is = is
source_kept Lattice g h k m (held.Links c) is = absurd is
source_kept Parity g h k m held.Open is = absurd is
source_kept Parity g h k m (held.Source c) is = absurd is
source_kept Parity g h k m (held.Links c) is = refl

-- the source that a state keeps of a measure is at the levels of the cuboid that is kept for it
pub source_of : (g : Public) (s : State) (m : ℕ) → IsStateOf g s → m < length g.policy.methods → source_in (get_or s.held m held.Open) ≡ kept_at g s.history m
source_of g s m stands lt = source_kept (method g m) g s.history (whole s) m (get_or s.held m held.Open) (stands.held m (subst (λ (n : ℕ). m < n) (sym stands.long) lt))

in_range : (g : Public) (way : Method) (s : Option (List ℕ)) (ls : List ℕ) → InRange g s → source_by way s ≡ Some ls → are_levels g.dimensions ls ≡ true
in_range g Plain s ls i e = absurd (let x : None ≡ Some ls = e in cc)
in_range g Lattice s ls i e = subst (InRange g) e i
in_range g Parity s ls i e = absurd (let x : None ≡ Some ls = e in cc)

-- the cuboid that is kept for a measure is at levels of the dimensions
pub kept_in_range : (g : Public) (h : List Entry) (m : ℕ) (ls : List ℕ) → AreAllowed g h → kept_at g h m ≡ Some ls → are_levels g.dimensions ls ≡ true
kept_in_range g h m ls allowed e = in_range g (method g m) (source h m) ls (source_in_range g h m allowed) e

-- a cuboid is kept only for a measure that there is
pub kept_there : (ms : List Method) (m : ℕ) (s : Option (List ℕ)) (ls : List ℕ) → source_by (get_or ms m Plain) s ≡ Some ls → m < length ms
kept_there [] m s ls e = absurd (let x : None ≡ Some ls = e in cc)
kept_there (way ∷ ms) zero s ls e = omega arith
kept_there (way ∷ ms) (suc m) s ls e = let below = kept_there ms m s ls e in omega (arith, below)

-- one more measure
pub one_more : (c : Core) (g : Public) (h : List Entry) (ks now : List (Option Cuboid)) (n : ℕ) (k : Option Cuboid) → length ks ≡ n → ((m : ℕ) → m < n → IsCuboidAt c m (kept_at g h m) (get_or ks m None)) → IsCuboidAt c n (kept_at g h n) k → now ≡ ks ++ k ∷ [] → (m : ℕ) → m < n + 1 → IsCuboidAt c m (kept_at g h m) (get_or now m None)
one_more c g h ks now n k long each here is m below = subst (λ (all : List (Option Cuboid)). IsCuboidAt c m (kept_at g h m) (get_or all m None)) (sym is) (go (eqb m n) refl)
  where
    go : (b : Bool) → eqb m n ≡ b → IsCuboidAt c m (kept_at g h m) (get_or (ks ++ k ∷ []) m None)
    go true e =
        let same = eqb-true m n e in
        let last : get_or (ks ++ k ∷ []) n None ≡ k = ap (λ (i : ℕ). get_or (ks ++ k ∷ []) i None) (sym long) ∙ get_or-append_seam ks k [] None in
        subst (λ (i : ℕ). IsCuboidAt c i (kept_at g h i) (get_or (ks ++ k ∷ []) i None)) (sym same) (subst (IsCuboidAt c n (kept_at g h n)) (sym last) here)
    go false e =
        let before : m < n = grind (arith, nat_tests) in
        let within : m < length ks = subst (λ (i : ℕ). m < i) (sym long) before in
        subst (IsCuboidAt c m (kept_at g h m)) (sym (get_or-append ks (k ∷ []) None m within)) (each m before)

-- ---- the request that waits

next_source : (way : Method) (g : Public) (h k : List Entry) (m : ℕ) (ls : List ℕ) → IsNextBy way g h k m (next.Source ls) → source_by way (source k m) ≡ Some ls
next_source Plain g h k m ls is = absurd is
next_source Lattice g h k m ls is = sym is
next_source Parity g h k m ls is = absurd is

next_none : (way : Method) (g : Public) (h k : List Entry) (m n : ℕ) → IsNextBy way g h k m (next.Mark n) → (s : Option (List ℕ)) → source_by way s ≡ None
next_none Plain g h k m n is s = absurd is
next_none Lattice g h k m n is s = absurd is
next_none Parity g h k m n is s = refl

whole_of : (s : State) (p : Pending) → s.pending ≡ Some p → whole s ≡ s.history ++ Asked p.request ∷ []
whole_of s p e = ap (λ (o : Option Pending). s.history ++ entry_pending o) e

-- what is known of a source that the request that waits makes
pub record Makes (g : Public) (s : State) (p : Pending) (ls : List ℕ) : Type 0 where
  pub kept : kept_at g (s.history ++ Asked p.request ∷ []) p.measure ≡ Some ls
  pub there : p.measure < length g.policy.methods
  pub levels : are_levels g.dimensions ls ≡ true
  pub asked : asks p.measure p.request ≡ true

pub makes : (g : Public) (s : State) (p : Pending) (ls : List ℕ) → IsStateOf g s → s.pending ≡ Some p → p.next ≡ next.Source ls → Makes g s p ls
makes g s p ls stands waits is =
    let ready : IsReady g s (Some p) = subst (IsReady g s) waits stands.ready in
    let from : source_by (method g p.measure) (source (whole s) p.measure) ≡ Some ls = next_source (method g p.measure) g s.history (whole s) p.measure ls (subst (IsNextBy (method g p.measure) g s.history (whole s) p.measure) is ready.1) in
    record {
      kept = subst (λ (k : List Entry). kept_at g k p.measure ≡ Some ls) (whole_of s p waits) from;
      there = kept_there g.policy.methods p.measure (source (whole s) p.measure) ls from;
      levels = kept_in_range g (whole s) p.measure ls (admissible_allowed g [] (whole s) stands.admissible) from;
      asked = ready.0;
    }

-- the cuboid at that source is held
pub holds : (c : Core) (p : Policy) (s : State) (w : Pending) (ls : List ℕ) (k : Cuboid) (old new : Rollups) → IsStateOf (shown c p) s → s.pending ≡ Some w → w.next ≡ next.Source ls → RollupsStand c p s.history None old → k.levels ≡ ls → k.measure ≡ w.measure → IsCuboidOf c k → new ≡ record { kept = old.kept; next = Some k }
    → RollupsStand c p s.history (waiting s) new
holds c p s w ls k old new stands waits is rolled levels measure stood made =
    let m = makes (shown c p) s w ls stands waits is in
    let now : waiting s ≡ Some w.request = ap (option_map (λ (q : Pending). q.request)) waits in
    subst (λ (o : Option Request). RollupsStand c p s.history o new) (sym now)
    (subst (RollupsStand c p s.history (Some w.request)) (sym made) (held_next c p s.history w.request w.measure ls k old rolled.now m.asked m.there m.kept levels measure stood))

-- a request on a parity measure waits
pub passes : (c : Core) (p : Policy) (s : State) (w : Pending) (n : ℕ) (old : Rollups) → IsStateOf (shown c p) s → s.pending ≡ Some w → w.next ≡ next.Mark n → RollupsStand c p s.history None old → RollupsStand c p s.history (waiting s) old
passes c p s w n old stands waits is rolled =
    let g = shown c p in
    let ready : IsReady g s (Some w) = subst (IsReady g s) waits stands.ready in
    let now : waiting s ≡ Some w.request = ap (option_map (λ (q : Pending). q.request)) waits in
    subst (λ (o : Option Request). RollupsStand c p s.history o old) (sym now)
    (others c p s.history w.request w.measure old rolled ready.0 (next_none (method g w.measure) g s.history (whole s) w.measure n (subst (IsNextBy (method g w.measure) g s.history (whole s) w.measure) is ready.1)))

-- no request waits
pub stays : (c : Core) (p : Policy) (s : State) (old : Rollups) → s.pending ≡ None → RollupsStand c p s.history None old → RollupsStand c p s.history (waiting s) old
stays c p s old none rolled = subst (λ (o : Option Request). RollupsStand c p s.history o old) (sym now) rolled
  where
    now : waiting s ≡ None
    now = ap (option_map (λ (q : Pending). q.request)) none

-- ---- a request that is answered

-- the history with a fresh request that waits is the one that the answer makes
behind : (h : List Entry) (r : Request) (fresh : Bool) → h ++ entry_of (waits_for (Answer fresh) r) ≡ entered_with h r (Answer fresh)
behind h r true = refl
behind h r false = append-nil h

measured : (w : What) (m : ℕ) → is_measure m w ≡ true → w ≡ Measure m
measured Count m e = absurd (false≢true e)
measured (Measure k) m e = ap Measure (eqb-true k m e)

-- it is by the source rule where a cuboid is kept
by_source : (way : Method) (s : Option (List ℕ)) (ls : List ℕ) → source_by way s ≡ Some ls → (way ≡ Lattice) × (s ≡ Some ls)
by_source Plain s ls e = absurd (let x : None ≡ Some ls = e in cc)
by_source Lattice s ls e = (refl, e)
by_source Parity s ls e = absurd (let x : None ≡ Some ls = e in cc)

one_value : (x y : List ℕ) → Some x ≡ Some y → x ≡ y
one_value x y e = cc

-- what is known of the cuboid that is kept for a measure
at_levels : (c : Core) (m : ℕ) (o : Option (List ℕ)) (k : Cuboid) → IsCuboidAt c m o (Some k) → (o ≡ Some k.levels) × (k.measure ≡ m) × IsCuboidOf c k
at_levels c m None k is = absurd is
at_levels c m (Some ls) k is = (ap Some (sym is.0), is.1, is.2)

-- a cuboid that is kept serves a request that is answered
pub serves : (c : Core) (p : Policy) (h : List Entry) (r : Request) (fresh : Bool) (waits : Option Request) (rollups : Rollups) → is_valid (shown c p) r ≡ true → IsAdmissible (shown c p) h → ((m : ℕ) → r.what ≡ Measure m → m < length p.methods)
    → verdict (shown c p) h r ≡ Answer fresh → waits ≡ waits_for (Answer fresh) r → RollupsStand c p h waits rollups → IfSome (cuboid_of rollups r.what) (IsFineEnough c r)
serves c p h r fresh waits rollups valid admissible there judged waiting_is stands = on r.what refl
  where
    g : Public
    g = shown c p

    here : (m : ℕ) → r.what ≡ Measure m → (o : Option Cuboid) → IsCuboidAt c m (kept_at g (h ++ entry_of waits) m) o → IfSome o (IsFineEnough c r)
    here m e None is = tt
    here m e (Some k) is =
        let at = at_levels c m (kept_at g (h ++ entry_of waits) m) k is in
        let ruled = by_source (method g m) (source (h ++ entry_of waits) m) k.levels at.0 in
        let asked : asks m r ≡ true = ap (is_measure m) e ∙ eq-eqb m m refl in
        let answered = answered_source g h r m fresh ruled.0 valid (admissible_allowed g [] h admissible) asked judged in
        let same : Some k.levels ≡ Some answered.0 = sym ruled.1 ∙ ap (λ (o : Option Request). source (h ++ entry_of o) m) waiting_is ∙ ap (λ (l : List Entry). source l m) (behind h r fresh) ∙ answered.1 in
        record {
          stands = at.2;
          measure = ap (λ (n : ℕ). asks n r) at.1 ∙ asked;
          finer = subst (λ (ls : List ℕ). is_finer ls (grain r) ≡ true) (sym (one_value k.levels answered.0 same)) answered.2;
        }

    on : (w : What) → r.what ≡ w → IfSome (cuboid_of rollups w) (IsFineEnough c r)
    on Count e = tt
    on (Measure m) e = here m e (get_or (entered rollups) m None) (stands.next.each m (there m e))

-- nothing waits, and the history is as it was
pub unmoved : (c : Core) (p : Policy) (h : List Entry) (s : State) (r : Rollups) → RollupsStand c p h None r → s.history ≡ h → s.pending ≡ None → RollupsStand c p s.history (waiting s) r
unmoved c p h s r stands same none = stays c p s r none (subst (λ (l : List Entry). RollupsStand c p l None r) (sym same) stands)

-- ---- the request that waits enters, or goes

entries_are : (o : Option Pending) → entry_of (option_map (λ (w : Pending). w.request) o) ≡ entry_pending o
entries_are None = refl
entries_are (Some w) = refl

pub has_entered : (c : Core) (p : Policy) (s t : State) (r now : Rollups) → RollupsStand c p s.history (waiting s) r → t.history ≡ whole s → t.pending ≡ None → now ≡ record { kept = entered r; next = None } → RollupsStand c p t.history (waiting t) now
has_entered c p s t r now stands same none is =
    let behind_it : s.history ++ entry_of (waiting s) ≡ whole s = ap (λ (es : List Entry). s.history ++ es) (entries_are s.pending) in
    unmoved c p (whole s) t now (subst (RollupsStand c p (whole s) None) (sym is) (subst (λ (h : List Entry). RollupsStand c p h None (record { kept = entered r; next = None })) behind_it (committed c p s.history (waiting s) r stands))) same none

-- ---- how many values are read

same_answer : (a b : Bool) → Answer a ≡ Answer b → a ≡ b
same_answer a b e = cc

-- a cuboid has as many cells as its core has at its levels
as_many : (c : Core) (p : Policy) (k : Cuboid) → IsCuboidOf c k → length k.cells ≡ length (cell_keys (shown c p) k.levels)
as_many c p k stands = ap (λ (cells : List AnswerRow). length cells) (stands.cells p) ∙ length-map (cell_keys (shown c p) k.levels) _

-- a request that adds nothing to the history is answered from the source cuboid
pub reads_few : (c : Core) (p : Policy) (h : List Entry) (r : Request) (fresh : Bool) (waits : Option Request) (rollups : Rollups) (before after : ℕ) → is_valid (shown c p) r ≡ true → IsAdmissible (shown c p) h → ((m : ℕ) → r.what ≡ Measure m → m < length p.methods)
    → verdict (shown c p) h r ≡ Answer fresh → waits ≡ waits_for (Answer fresh) r → RollupsStand c p h waits rollups → IfSome (cuboid_of rollups r.what) (λ k. after ≤ before + length k.cells) → ReadsFew (shown c p) h r before after
reads_few c p h r fresh waits rollups before after valid admissible there judged waiting_is stands few m asked lattice passed = go (get_or (entered rollups) m None) kept counted
  where
    g : Public
    g = shown c p

    old : fresh ≡ false
    old = same_answer fresh false (sym judged ∙ passed)

    what_is : r.what ≡ Measure m
    what_is = measured r.what m asked

    answered : (s : List ℕ) × (source h m ≡ Some s) × (is_finer s (grain r) ≡ true)
    answered = answered_source g h r m false lattice valid (admissible_allowed g [] h admissible) asked passed

    levels_are : kept_at g (h ++ entry_of waits) m ≡ Some answered.0
    levels_are = ap (λ (way : Method). source_by way (source (h ++ entry_of waits) m)) lattice ∙ ap (λ (o : Option Request). source (h ++ entry_of o) m) (waiting_is ∙ ap (λ (b : Bool). waits_for (Answer b) r) old) ∙ ap (λ (l : List Entry). source l m) (append-nil h) ∙ answered.1

    kept : IsCuboidAt c m (Some answered.0) (get_or (entered rollups) m None)
    kept = subst (λ (o : Option (List ℕ)). IsCuboidAt c m o (get_or (entered rollups) m None)) levels_are (stands.next.each m (there m what_is))

    counted : IfSome (get_or (entered rollups) m None) (λ k. after ≤ before + length k.cells)
    counted = subst (λ (w : What). IfSome (cuboid_of rollups w) (λ k. after ≤ before + length k.cells)) what_is few

    go : (o : Option Cuboid) → IsCuboidAt c m (Some answered.0) o → IfSome o (λ k. after ≤ before + length k.cells) → after ≤ before + cells_at g (source h m)
    go None is up_to = absurd is
    go (Some k) is up_to =
        let cells : cells_at g (source h m) ≡ length (cell_keys g answered.0) = ap (cells_at g) answered.1 in
        let own : length k.cells ≡ length (cell_keys g answered.0) = as_many c p k is.2 ∙ ap (λ (ls : List ℕ). length (cell_keys g ls)) is.0 in
        omega (arith, up_to, cells, own)

-- ---- the answer from a cuboid can be written

-- the plain sums of a request, as the sums of its rows
sums_are : (c : Core) (p : Policy) (r : Request) → answer_of (world c p) r ≡ map (row_sum c r.what) (rows (shown c p) r)
sums_are c p r = same r.what
  where
    same : (w : What) → map (λ (row : Row). record { key = row.key; sum = total (summed (world c p) w) row.places }) (rows (shown c p) r) ≡ map (row_sum c w) (rows (shown c p) r)
    same Count = refl
    same (Measure m) = refl

pub rolled_fits : (c : Core) (r : Request) (answer : List AnswerRow) → IsCore c → is_request c.dims r ≡ true → ((p : Policy) → answer ≡ answer_of (world c p) r) → IsAnswer c.dims r answer
unfolding is_picked key_at
rolled_fits c r answer ok valid is =
    let none : Policy = record { methods = []; objects = [] } in
    answer_fits c r (rows (shown c none) r) answer ok (valid_fits c.dims r valid) (valid_measure c.dims r valid) (λ p. refl) (is none ∙ sums_are c none r)
