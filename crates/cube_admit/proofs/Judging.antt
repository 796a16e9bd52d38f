-- What one more request does to what is kept of its measure, and the verdict on it.
use Rattle.std.proofs.Common.{◌≡◌, ℕ, ◌<◌, Bool, true, false, cond, not, ◌&&◌, ◌||◌, List, [], ◌∷◌, ◌++◌, length, set, take, get_or, unwrap_or, leb, ℤ, ◌-◌, Option, Some, None, refl, sym, ap, ◌∙◌, subst, append-nil, Result, Ok, Err, IfOk, OnErr}
use Rattle.std.specs.List.{list_all}
use Rattle.std.proofs.lemmas.Bool.{false≢true, and_parts, ltb-true, eq-eqb}
use Rattle.cube_model.specs.declared.entry.Entry.{Entry}
use Rattle.cube_model.specs.declared.entry.Entry.TheVariants.{Asked}
use Rattle.cube_model.specs.declared.policy.Method.{Method}
use Rattle.cube_model.specs.declared.policy.Method.TheVariants.{Plain, Lattice, Parity}
use Rattle.cube_model.specs.declared.request.Request.{Request}
use Rattle.cube_model.specs.declared.request.What.TheVariants.{Measure}
use Rattle.cube_model.specs.declared.verdict.Verdict.{Verdict}
use Rattle.cube_model.specs.declared.verdict.Verdict.TheVariants.{Answer, Full, SourceWould, Pair, Single}
use Rattle.cube_model.specs.declared.memory.NoMemory.{NoMemory}
use Rattle.cube_model.specs.Cubes.{Public, are_levels}
use Rattle.cube_model.specs.Requests.{grain, asks, is_measure, is_valid, is_there, fits, is_grouped, is_one}
use Rattle.cube_model.specs.Protection.{method, guarded}
use Rattle.cube_model.specs.Entries.{is_on, requests}
use Rattle.cube_model.specs.Verdicts.{narrowed, source, links_of, holds_grain, most_held, fixed_by, first_stop, fixes, stopped_at, unless_stopped, judged, verdict, IsAdmissible}
use Rattle.cube_model.proofs.Compacts.{InRange, source_in_range, lesser_in_range, meet_in_range}
use Rattle.cube_model.proofs.Histories.{AreAllowed, IsLong as IsOfLength, admissible_allowed, fits_valid, length-grain, long_source, links_of-append, source-push, verdict_on}
use Rattle.cube_admit.specs.declared.held.Held.{Held}
use Rattle.cube_admit.specs.declared.held.Held.TheVariants as held
use Rattle.cube_admit.specs.declared.source.Step.TheVariants.{Stays, Would}
use Rattle.cube_admit.specs.Sources.{IsLong, stepped, step_by, judged_as}
use Rattle.cube_admit.specs.States.{State, entry_of, whole, waiting, waits_by, waits_for, coloured, source_in, IsHeldBy, IsNextBy, IsReady, IsTableOf, IsStateOf}
use Rattle.cube_admit.specs.declared.held.Pending.{Pending}
use Rattle.cube_model.proofs.Worlds.{admissible_fresh}
use Rattle.cube_admit.proofs.Standing.{unchanged, put_each, asks_one, links-skip}
use Rattle.cube_admit.specs.Linking.{is_linked, with_links, linked_as, KeptBy, IsLinks, HeldJudged, marked, LinksJudged}
use Rattle.cube_colour.specs.Colourings.{Colouring}
use Rattle.cube_model.specs.declared.link.Link.{Link}
use Rattle.cube_model.specs.declared.link.Link.TheVariants.{Single as SingleOf}
use Rattle.cube_model.specs.Links.{links, follows, basis}
use Rattle.cube_model.specs.LinkLaws.{IsOfPlaces}
use Rattle.cube_model.proofs.Alike.{pointwise, of_places_to}
use Rattle.cube_model.proofs.Bases.{basis_of_more}
use Rattle.cube_model.proofs.Parities.{links_places, links_of-one}
use Rattle.cube_admit.proofs.Linking.{more_suiting, follows_basis, stop_basis}
use Rattle.std.specs.Option.{option_map}
use Rattle.cube_admit.specs.declared.held.Next.{Next}
use Rattle.std.proofs.lemmas.List.{set-get_or}
use Rattle.std.proofs.Math.ListN.{length-set}
use Rattle.cube_admit.specs.declared.held.Next.TheVariants as next

-- a request on a measure asks for it
pub asks_it : (r : Request) (m : ℕ) → r.what ≡ Measure m → asks m r ≡ true
asks_it r m e = ap (is_measure m) e ∙ eq-eqb m m refl

-- a valid request on a measure is on one that there is
pub there_valid : (g : Public) (r : Request) (m : ℕ) → is_valid g r ≡ true → r.what ≡ Measure m → m < length g.policy.methods
unfolding is_valid
there_valid g r m v e =
    let front = (and_parts (fits g.dimensions r.group r.picks && is_there g r.what) (not (is_grouped g.dimensions r.group) || list_all is_one r.picks) v).0 in
    let there : is_there g r.what ≡ true = (and_parts (fits g.dimensions r.group r.picks) (is_there g r.what) front).1 in
    ltb-true m (length g.policy.methods) (sym (ap (is_there g) e) ∙ there)

pub grain_in_range : (g : Public) (r : Request) → is_valid g r ≡ true → are_levels g.dimensions (grain r) ≡ true
unfolding grain
grain_in_range g r v = lesser_in_range g.dimensions r.group r.picks (fits_valid g r v)

pub narrowed_in_range : (g : Public) (s : Option (List ℕ)) (c : List ℕ) → InRange g s → are_levels g.dimensions c ≡ true → are_levels g.dimensions (narrowed s c) ≡ true
narrowed_in_range g None c a b = b
narrowed_in_range g (Some s) c a b = meet_in_range g.dimensions s c a b

-- what is kept is as long as the grain
pub long_held : (g : Public) (h : List Entry) (r : Request) (m : ℕ) (k : Held) → AreAllowed g h → is_valid g r ≡ true → IsHeldBy (method g m) g h h m k → IsLong (length (grain r)) (source_in k)
long_held g h r m k allowed v i = go (method g m) k i
  where
    long : (s : Option (List ℕ)) → IsOfLength (length g.dimensions) s → IsLong (length (grain r)) s
    long None l = tt
    long (Some s) l = l ∙ sym (length-grain g r v)

    go : (way : Method) (k : Held) → IsHeldBy way g h h m k → IsLong (length (grain r)) (source_in k)
    go Plain held.Open i = tt
    go Plain (held.Source c) i = absurd i
    go Plain (held.Links c) i = absurd i
    go Lattice held.Open i = absurd i
    go Lattice (held.Source c) i = subst (IsLong (length (grain r))) (sym i) (long (source h m) (long_source g h m allowed))
    go Lattice (held.Links c) i = absurd i
    go Parity held.Open i = absurd i
    go Parity (held.Source c) i = absurd i
    go Parity (held.Links c) i = tt

-- what a request that leaves the source as it is, or would narrow it, is told
pub record IsStep (g : Public) (h : List Entry) (r : Request) (m : ℕ) (c : List ℕ) : Type 0 where
  pub method : method g m ≡ Lattice
  pub levels : are_levels g.dimensions c ≡ true
  pub verdict : judged_as g (length (requests h)) m c ≡ verdict g h r
  pub source : Some c ≡ source (h ++ Asked r ∷ []) m

pub step_stays : (g : Public) (h : List Entry) (r : Request) (m : ℕ) (k : Held) → is_linked k ≡ false → r.what ≡ Measure m → IsHeldBy (method g m) g h h m k → Stays ≡ step_by k (grain r) → Answer false ≡ verdict g h r
step_stays g h r m k linked what i step = go (method g m) refl k linked i step
  where
    by : (b : Bool) (s : Option (List ℕ)) → Stays ≡ cond b Stays (Would (narrowed s (grain r))) → (v w : Verdict) → Answer false ≡ cond b (Answer false) v
    by true s e v w = refl
    by false s e v w = absurd (cc)

    go : (way : Method) → method g m ≡ way → (k : Held) → is_linked k ≡ false → IsHeldBy way g h h m k → Stays ≡ step_by k (grain r) → Answer false ≡ verdict g h r
    go Plain e held.Open n i step = sym (verdict_on g h r m Plain e (asks_it r m what))
    go Plain e (held.Source c) n i step = absurd i
    go Plain e (held.Links c) n i step = absurd i
    go Lattice e held.Open n i step = absurd i
    go Lattice e (held.Source c) n i step =
        let step' : Stays ≡ cond (holds_grain (source h m) (grain r)) Stays (Would (narrowed (source h m) (grain r))) = step ∙ ap (λ (s : Option (List ℕ)). stepped s (grain r)) i in
        by (holds_grain (source h m) (grain r)) (source h m) step' _ (Answer true) ∙ sym (verdict_on g h r m Lattice e (asks_it r m what))
    go Lattice e (held.Links c) n i step = absurd i
    go Parity e held.Open n i step = absurd i
    go Parity e (held.Source c) n i step = absurd i
    go Parity e (held.Links c) n i step = absurd (false≢true (sym n))

pub step_would : (g : Public) (h : List Entry) (r : Request) (m : ℕ) (k : Held) (c : List ℕ) → AreAllowed g h → is_valid g r ≡ true → r.what ≡ Measure m → IsHeldBy (method g m) g h h m k → Would c ≡ step_by k (grain r) → IsStep g h r m c
step_would g h r m k c allowed v what i step = go (method g m) refl k i step
  where
    made : (b : Bool) → holds_grain (source h m) (grain r) ≡ b → method g m ≡ Lattice → Would c ≡ cond b Stays (Would (narrowed (source h m) (grain r))) → IsStep g h r m c
    made true held e step = absurd (cc)
    made false held e step =
        let is : c ≡ narrowed (source h m) (grain r) = cc in
        let range = narrowed_in_range g (source h m) (grain r) (source_in_range g h m allowed) (grain_in_range g r v) in
        let told : verdict g h r ≡ judged Lattice g h r m = verdict_on g h r m Lattice e (asks_it r m what) in
        record {
          method = e;
          levels = subst (λ (l : List ℕ). are_levels g.dimensions l ≡ true) (sym is) range;
          verdict = sym (told ∙ ap (λ (b : Bool). cond b (Answer false) (judged_as g (length (requests h)) m (narrowed (source h m) (grain r)))) held ∙ ap (judged_as g (length (requests h)) m) (sym is));
          source = ap (λ (l : List ℕ). Some l) is ∙ sym (source-push h r m (asks_it r m what));
        }

    go : (way : Method) → method g m ≡ way → (k : Held) → IsHeldBy way g h h m k → Would c ≡ step_by k (grain r) → IsStep g h r m c
    go Plain e held.Open i step = absurd (cc)
    go Plain e (held.Source s) i step = absurd i
    go Plain e (held.Links s) i step = absurd i
    go Lattice e held.Open i step = absurd i
    go Lattice e (held.Source s) i step = made (holds_grain (source h m) (grain r)) refl e (step ∙ ap (λ (s : Option (List ℕ)). stepped s (grain r)) i)
    go Lattice e (held.Links s) i step = absurd i
    go Parity e held.Open i step = absurd i
    go Parity e (held.Source s) i step = absurd i
    go Parity e (held.Links s) i step = absurd (cc)

-- ---- of a state where nothing waits

-- what is known where the verdict on a request on a measure is asked for
pub record Known (g : Public) (s : State) (r : Request) (m : ℕ) : Type 0 where
  pub history : whole s ≡ s.history
  pub admissible : IsAdmissible g s.history
  pub allowed : AreAllowed g s.history
  pub there : m < length s.held
  pub held : (m : ℕ) → m < length s.held → IsHeldBy (method g m) g s.history s.history m (get_or s.held m held.Open)

pub known : (g : Public) (s : State) (r : Request) (m : ℕ) → IsStateOf g s → s.pending ≡ None → is_valid g r ≡ true → r.what ≡ Measure m → Known g s r m
known g s r m stands none v what =
    let history : whole s ≡ s.history = ap (λ (p : Option Pending). s.history ++ entry_of p) none ∙ append-nil s.history in
    let admissible : IsAdmissible g s.history = subst (IsAdmissible g) history stands.admissible in
    let there : m < length s.held = subst (λ (n : ℕ). m < n) (sym stands.long) (there_valid g r m v what) in
    record {
      history = history;
      admissible = admissible;
      allowed = admissible_allowed g [] s.history admissible;
      there = there;
      held = λ n lt. subst (λ (k : List Entry). IsHeldBy (method g n) g s.history k n (get_or s.held n held.Open)) history (stands.held n lt);
    }

-- what is kept of a measure, with a request on another measure behind
pub held_more : (way : Method) (g : Public) (h : List Entry) (e : Entry) (n : ℕ) (k : Held) → is_on n e ≡ false → IsHeldBy way g h h n k → IsHeldBy way g h (h ++ e ∷ []) n k
held_more Plain g h e n held.Open off i = tt
held_more Plain g h e n (held.Source c) off i = absurd i
held_more Plain g h e n (held.Links c) off i = absurd i
held_more Lattice g h e n held.Open off i = absurd i
held_more Lattice g h e n (held.Source c) off i = i
held_more Lattice g h e n (held.Links c) off i = absurd i
held_more Parity g h e n held.Open off i = absurd i
held_more Parity g h e n (held.Source c) off i = absurd i
held_more Parity g h e n (held.Links c) off i = i ∙ ap (coloured g n) (sym (links-skip g h e n off))

-- what is kept of a lattice measure, with a request behind
source_more : (g : Public) (h k : List Entry) (n : ℕ) (held : Held) → IsHeldBy Lattice g h h n held → IsHeldBy Lattice g h k n held
source_more g h k n held.Open i = absurd i
source_more g h k n (held.Source c) i = i
source_more g h k n (held.Links c) i = absurd i

-- a request waits with its fresh answer
waiting_stands : (g : Public) (s t : State) (r : Request) (m : ℕ) (n : Next) (new : Held) → IsStateOf g s → s.pending ≡ None → is_valid g r ≡ true → r.what ≡ Measure m → verdict g s.history r ≡ Answer true
    → IsNextBy (method g m) g s.history (s.history ++ Asked r ∷ []) m n → IsHeldBy (method g m) g s.history (s.history ++ Asked r ∷ []) m new
    → t.history ≡ s.history → t.held ≡ set s.held m new → t.pending ≡ Some (record { request = r; measure = m; next = n }) → IsTableOf g t.table → IsStateOf g t
waiting_stands g s t r m n new stands none valid what fresh becomes is_held same kept waits table =
    let k = known g s r m stands none valid what in
    let more = s.history ++ Asked r ∷ [] in
    let all : whole t ≡ more = ap (λ (q : Option Pending). t.history ++ entry_of q) waits ∙ ap (λ (h : List Entry). h ++ Asked r ∷ []) same in
    let each = put_each (λ i held. IsHeldBy (method g i) g s.history more i held) s.held m new k.there is_held (λ i lt n. held_more (method g i) g s.history (Asked r) i (get_or s.held i held.Open) (asks_one r.what i m (asks_it r m what) n) (k.held i lt)) in
    record {
      admissible = subst (IsAdmissible g) (sym all) (admissible_fresh g s.history r k.admissible valid fresh);
      long = ap length kept ∙ length-set s.held m new ∙ stands.long;
      held = λ i lt. subst (λ (h : List Entry). IsHeldBy (method g i) g h (whole t) i (get_or t.held i held.Open)) (sym same) (subst (λ (h : List Entry). IsHeldBy (method g i) g s.history h i (get_or t.held i held.Open)) (sym all) (subst (λ (hs : List Held). IsHeldBy (method g i) g s.history more i (get_or hs i held.Open)) (sym kept) (each i (subst (λ (hs : List Held). i < length hs) kept lt))));
      ready = subst (IsReady g t) (sym waits) (asks_it r m what, subst (λ (h : List Entry). IsNextBy (method g m) g h (whole t) m n) (sym same) (subst (λ (h : List Entry). IsNextBy (method g m) g s.history h m n) (sym all) becomes));
      table = table;
    }

pub set_same : (hs : List Held) (m : ℕ) → set hs m (get_or hs m held.Open) ≡ hs
set_same hs m = set-get_or hs m held.Open

-- ---- on a lattice measure

pub waits_on : (g : Public) (s t : State) (r : Request) (m : ℕ) (c : List ℕ) (v : Verdict) → IsStateOf g s → s.pending ≡ None → is_valid g r ≡ true → r.what ≡ Measure m → IsStep g s.history r m c → v ≡ judged_as g (length (requests s.history)) m c
    → t.history ≡ s.history → t.held ≡ s.held → t.pending ≡ waits_by v (record { request = r; measure = m; next = next.Source c }) → IsTableOf g t.table → IsStateOf g t
waits_on g s t r m c v stands none valid what step told same kept waits table = go v told waits
  where
    p : Pending
    p = record { request = r; measure = m; next = next.Source c }

    stays : t.pending ≡ None → IsStateOf g t
    stays e = unchanged g s t same kept (e ∙ sym none) table stands

    go : (v : Verdict) → v ≡ judged_as g (length (requests s.history)) m c → t.pending ≡ waits_by v p → IsStateOf g t
    go (Answer true) told waits =
        let k = known g s r m stands none valid what in
        waiting_stands g s t r m (next.Source c) (get_or s.held m held.Open) stands none valid what (sym (told ∙ step.verdict))
        (subst (λ (way : Method). IsNextBy way g s.history (s.history ++ Asked r ∷ []) m (next.Source c)) (sym step.method) step.source)
        (subst (λ (way : Method). IsHeldBy way g s.history (s.history ++ Asked r ∷ []) m (get_or s.held m held.Open)) (sym step.method) (source_more g s.history (s.history ++ Asked r ∷ []) m (get_or s.held m held.Open) (subst (λ (way : Method). IsHeldBy way g s.history s.history m (get_or s.held m held.Open)) step.method (k.held m k.there))))
        same (kept ∙ sym (set_same s.held m)) waits table
    go (Answer false) told waits = stays waits
    go (Full n) told waits = stays waits
    go (SourceWould d u) told waits = stays waits
    go (Pair a i j u) told waits = stays waits
    go (Single a i u) told waits = stays waits

pub judged_stands : (g : Public) (s t : State) (r : Request) (m : ℕ) (c : List ℕ) (result : Result Verdict NoMemory) → IsStateOf g s → s.pending ≡ None → is_valid g r ≡ true → r.what ≡ Measure m → IsStep g s.history r m c → IfOk result (λ v. v ≡ judged_as g (length (requests s.history)) m c)
    → t.history ≡ s.history → t.held ≡ s.held → IfOk result (λ v. t.pending ≡ waits_by v (record { request = r; measure = m; next = next.Source c })) → OnErr result (t.pending ≡ None) → IsTableOf g t.table → IsStateOf g t
judged_stands g s t r m c (Ok v) stands none valid what step told same kept waits err table = waits_on g s t r m c v stands none valid what step told same kept waits table
judged_stands g s t r m c (Err e) stands none valid what step told same kept waits err table = unchanged g s t same kept (err ∙ sym none) table stands

pub judged_is : (g : Public) (h : List Entry) (r : Request) (m : ℕ) (c : List ℕ) (result : Result Verdict NoMemory) → IsStep g h r m c → IfOk result (λ v. v ≡ judged_as g (length (requests h)) m c) → IfOk result (λ v. v ≡ verdict g h r)
judged_is g h r m c (Ok v) step told = told ∙ step.verdict
judged_is g h r m c (Err e) step told = tt

-- ---- on a parity measure

-- the verdict by the basis of a history's links is that by the links
linked_verdict : (g : Public) (h : List Entry) (r : Request) (m : ℕ) → linked_as (coloured g m (links_of g h m)) (length (requests h)) (links g r) ≡ judged Parity g h r m
linked_verdict g h r m = three (ap (λ (f : Link → Bool). list_all f others) (follows_basis n ls)) (stop_basis n guards ls others) (pointwise (λ k. ap (λ (lists : List (List ℤ)). fixes k (get_or others (k - 1) (SingleOf 0)) (unwrap_or (fixed_by lists guards) 0)) (more_suiting n ls (take k others))))
  where
    n : ℕ
    n = length g.shape.points

    ls : List Link
    ls = links_of g h m

    others : List Link
    others = links g r

    guards : List ℕ
    guards = guarded g m

    three : list_all (follows n (basis n ls)) others ≡ list_all (follows n ls) others → first_stop n guards (basis n ls) others ≡ first_stop n guards ls others → stopped_at n guards (basis n ls) others ≡ stopped_at n guards ls others
        → linked_as (coloured g m (links_of g h m)) (length (requests h)) (links g r) ≡ judged Parity g h r m
    three a b f =
        ap (λ (t : Bool). cond t (Answer false) (cond (leb most_held (length (requests h))) (Full (length (requests h))) (unless_stopped (stopped_at n guards (basis n ls) others) (first_stop n guards (basis n ls) others)))) a
        ∙ ap (λ (o : Option ℕ). cond (list_all (follows n ls) others) (Answer false) (cond (leb most_held (length (requests h))) (Full (length (requests h))) (unless_stopped (stopped_at n guards (basis n ls) others) o))) b
        ∙ ap (λ (stop : ℕ → Verdict). cond (list_all (follows n ls) others) (Answer false) (cond (leb most_held (length (requests h))) (Full (length (requests h))) (unless_stopped stop (first_stop n guards ls others)))) f

-- the links of a request are of the places of what is kept
pub links_there : (g g' : Public) (h : List Entry) (r : Request) (m : ℕ) (k : Held) → length g'.shape.points ≡ length g.shape.points → is_linked k ≡ true → IsHeldBy (method g m) g h h m k → IsLinks k (links g' r)
links_there g g' h r m k even linked i = go (method g m) k linked i
  where
    go : (way : Method) (k : Held) → is_linked k ≡ true → IsHeldBy way g h h m k → IsLinks k (links g' r)
    go way held.Open l i = absurd (false≢true l)
    go way (held.Source s) l i = absurd (false≢true l)
    go Plain (held.Links c) l i = absurd i
    go Lattice (held.Links c) l i = absurd i
    go Parity (held.Links c) l i =
        let places : c.places ≡ length g'.shape.points = ap (λ (d : Colouring). d.places) i ∙ sym even in
        λ x z. subst (λ (n : ℕ). IsOfPlaces n x) (sym places) (of_places_to (length g'.shape.points) x (links_places g' r x z))

-- what a request on a parity measure is told, and what the state then stands for
pub record Outcome (g : Public) (s t : State) (r : Request) (v : Verdict) : Type 0 where
  pub verdict : v ≡ verdict g s.history r
  pub stands : IsStateOf g t
  pub waits : waiting t ≡ waits_for v r

not_waiting : (v : Verdict) (r : Request) → (v ≡ Answer true → ⊥) → None ≡ waits_for v r
not_waiting (Answer true) r n = absurd (n refl)
not_waiting (Answer false) r n = refl
not_waiting (Full k) r n = refl
not_waiting (SourceWould d u) r n = refl
not_waiting (Pair a i j u) r n = refl
not_waiting (Single a i u) r n = refl

pub links_outcome : (g : Public) (s t : State) (r : Request) (m : ℕ) (v : Verdict) → IsStateOf g s → s.pending ≡ None → is_valid g r ≡ true → r.what ≡ Measure m → is_linked (get_or s.held m held.Open) ≡ true → LinksJudged (length (requests s.history)) m r (links g r) s t v → Outcome g s t r v
links_outcome g s t r m v stands none valid what linked done = go (method g m) refl (get_or s.held m held.Open) (get_or t.held m held.Open) refl refl linked (k.held m k.there) done.judged
  where
    k : Known g s r m
    k = known g s r m stands none valid what

    ls : List Link
    ls = links_of g s.history m

    table : IsTableOf g t.table
    table = subst (IsTableOf g) (sym done.table) stands.table

    grown : links_of g (s.history ++ Asked r ∷ []) m ≡ ls ++ links g r
    grown = links_of-append g s.history (Asked r ∷ []) m ∙ ap (λ (more : List Link). ls ++ more) (links_of-one g (Asked r) m (asks_it r m what))

    by_mark : method g m ≡ Parity → (c d : Colouring) → get_or s.held m held.Open ≡ held.Links c → get_or t.held m held.Open ≡ held.Links d → c ≡ coloured g m ls → v ≡ verdict g s.history r → (mark : Option ℕ) → t.pending ≡ marked r m mark → KeptBy c d (links g r) v mark → Outcome g s t r v
    by_mark way c d was is i told None waits kept =
        let same : t.held ≡ s.held = done.others ∙ ap (set s.held m) (is ∙ ap (λ (e : Colouring). held.Links e) kept.0 ∙ sym was) ∙ set_same s.held m in
        record {
          verdict = told;
          stands = unchanged g s t done.history same (waits ∙ sym none) table stands;
          waits = ap (λ (p : Option Pending). option_map (λ q. q.request) p) waits ∙ not_waiting v r kept.1;
        }
    by_mark way c d was is i told (Some mark) waits kept =
        let n = length g.shape.points in
        let both : d ≡ coloured g m (links_of g (s.history ++ Asked r ∷ []) m) = kept.0 ∙ ap (λ (e : Colouring). with_links e (links g r)) i ∙ ap (λ (more : List Link). record { places = n; guarded = guarded g m; kept = more }) (basis_of_more n ls (links g r) ∙ ap (basis n) (sym grown)) in
        let back : mark ≡ length (basis n ls) = kept.2 ∙ ap (λ (e : Colouring). length e.kept) i in
        record {
          verdict = told;
          stands = waiting_stands g s t r m (next.Mark mark) (held.Links d) stands none valid what (sym told ∙ kept.1)
              (subst (λ (way : Method). IsNextBy way g s.history (s.history ++ Asked r ∷ []) m (next.Mark mark)) (sym way) back)
              (subst (λ (way : Method). IsHeldBy way g s.history (s.history ++ Asked r ∷ []) m (held.Links d)) (sym way) both)
              done.history (done.others ∙ ap (set s.held m) is) waits table;
          waits = ap (λ (p : Option Pending). option_map (λ q. q.request) p) waits ∙ sym (ap (λ (w : Verdict). waits_for w r) kept.1);
        }

    go : (way : Method) → method g m ≡ way → (kept new : Held) → get_or s.held m held.Open ≡ kept → get_or t.held m held.Open ≡ new → is_linked kept ≡ true → IsHeldBy way g s.history s.history m kept → HeldJudged kept new (length (requests s.history)) (links g r) (v, done.mark) → Outcome g s t r v
    go way e held.Open new was is l i j = absurd (false≢true l)
    go way e (held.Source c) new was is l i j = absurd (false≢true l)
    go way e (held.Links c) held.Open was is l i j = absurd j
    go way e (held.Links c) (held.Source d) was is l i j = absurd j
    go Plain e (held.Links c) (held.Links d) was is l i j = absurd i
    go Lattice e (held.Links c) (held.Links d) was is l i j = absurd i
    go Parity e (held.Links c) (held.Links d) was is l i j = by_mark e c d was is i (j.0 ∙ ap (λ (e : Colouring). linked_as e (length (requests s.history)) (links g r)) i ∙ linked_verdict g s.history r m ∙ sym (verdict_on g s.history r m Parity e (asks_it r m what))) done.mark done.waits j.1

-- for whatever comes of it
pub linked_is : (g : Public) (s t : State) (r : Request) (m : ℕ) (result : Result Verdict NoMemory) → IsStateOf g s → s.pending ≡ None → is_valid g r ≡ true → r.what ≡ Measure m → is_linked (get_or s.held m held.Open) ≡ true → IfOk result (LinksJudged (length (requests s.history)) m r (links g r) s t) → IfOk result (λ v. v ≡ verdict g s.history r)
linked_is g s t r m (Ok v) stands none valid what linked judged = (links_outcome g s t r m v stands none valid what linked judged).verdict
linked_is g s t r m (Err e) stands none valid what linked judged = tt

pub linked_waits : (g : Public) (s t : State) (r : Request) (m : ℕ) (result : Result Verdict NoMemory) → IsStateOf g s → s.pending ≡ None → is_valid g r ≡ true → r.what ≡ Measure m → is_linked (get_or s.held m held.Open) ≡ true → IfOk result (LinksJudged (length (requests s.history)) m r (links g r) s t) → IfOk result (λ v. waiting t ≡ waits_for v r)
linked_waits g s t r m (Ok v) stands none valid what linked judged = (links_outcome g s t r m v stands none valid what linked judged).waits
linked_waits g s t r m (Err e) stands none valid what linked judged = tt

pub linked_stands : (g : Public) (s t : State) (r : Request) (m : ℕ) (result : Result Verdict NoMemory) → IsStateOf g s → s.pending ≡ None → is_valid g r ≡ true → r.what ≡ Measure m → is_linked (get_or s.held m held.Open) ≡ true → IfOk result (LinksJudged (length (requests s.history)) m r (links g r) s t) → OnErr result (t ≡ s) → IsStateOf g t
linked_stands g s t r m (Ok v) stands none valid what linked judged err = (links_outcome g s t r m v stands none valid what linked judged).stands
linked_stands g s t r m (Err e) stands none valid what linked judged err = subst (IsStateOf g) (sym err) stands

pub linked_history : (ls : List Link) (many m : ℕ) (s t : State) (r : Request) (result : Result Verdict NoMemory) → IfOk result (LinksJudged many m r ls s t) → OnErr result (t ≡ s) → t.history ≡ s.history
linked_history ls many m s t r (Ok v) judged err = judged.history
linked_history ls many m s t r (Err e) judged err = ap (λ (u : State). u.history) err

-- what holds of each policy holds of one
pub ok_at : {T E Q : Type 0} (P : Q → T → Type 0) (r : Result T E) (q : Q) → IfOk r (λ x. (q : Q) → P q x) → IfOk r (P q)
ok_at P (Ok x) q h = h q
ok_at P (Err e) q h = tt
