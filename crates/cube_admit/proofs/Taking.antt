-- What becomes of an entry of a log, by what is kept of its measure.
use Rattle.std.proofs.Common.{◌≡◌, ◌≢◌, ℕ, suc, ◌<◌, Bool, true, false, cond, ◌&&◌, List, [], ◌∷◌, ◌++◌, length, set, get_or, ltb, not, inl, inr, Option, Some, None, is_none, is_some, refl, sym, ap, ◌∙◌, subst, append-nil, eqb}
use Rattle.std.specs.List.{list_all}
use Rattle.std.proofs.lemmas.Bool.{false≢true, and_parts, ltb-true, eqb-true, eq-eqb}
use Rattle.std.proofs.Math.ListN.{length-set}
use Rattle.cube_model.specs.declared.entry.Entry.{Entry}
use Rattle.cube_model.specs.declared.entry.Entry.TheVariants.{Asked, Source, Linked}
use Rattle.cube_model.specs.declared.entry.Taken.{Taken as Taking}
use Rattle.cube_model.specs.declared.entry.Taken.TheVariants.{Taken, Passed, Refused}
use Rattle.cube_model.specs.declared.link.Link.{Link}
use Rattle.cube_model.specs.declared.link.Link.TheVariants.{Pair as PairOf, Single as SingleOf}
use Rattle.cube_model.specs.declared.policy.Method.{Method}
use Rattle.cube_model.specs.declared.policy.Method.TheVariants.{Plain, Lattice, Parity}
use Rattle.cube_model.specs.declared.request.Request.{Request}
use Rattle.cube_model.specs.declared.verdict.Verdict.{Verdict}
use Rattle.cube_model.specs.declared.verdict.Verdict.TheVariants.{Answer, Full, SourceWould, Pair, Single}
use Rattle.cube_model.specs.Cubes.{Public, are_levels}
use Rattle.cube_model.specs.Entries.{is_on, is_allowed, is_link, requests}
use Rattle.cube_model.specs.Links.{follows, suiting, basis}
use Rattle.cube_model.specs.LinkLaws.{IsOfPlaces, AreOfPlaces}
use Rattle.cube_model.specs.Logs.{is_taken}
use Rattle.cube_model.specs.Protection.{method, guarded, uncut, is_lattice, is_parity}
use Rattle.cube_model.specs.Requests.{is_valid}
use Rattle.cube_model.specs.Verdicts.{narrowed, source, links_of, holds_grain, fixed_by, first_stop, fixes, stopped_at, unless_stopped, verdict, taken, taken_by, IsAdmissible}
use Rattle.cube_model.proofs.Bases.{basis_of_more}
use Rattle.cube_model.proofs.Compacts.{source_in_range}
use Rattle.cube_model.proofs.Histories.{AreAllowed, IsLong as IsOfLength, admissible_allowed, length-levels, long_source, links_of-append, source-narrow}
use Rattle.cube_model.proofs.Parities.{links_of-one}
use Rattle.cube_model.proofs.Worlds.{admissible_push, in_list}
use Rattle.cube_colour.specs.Colourings.{Colouring}
use Rattle.cube_admit.specs.Linking.{linked_as, IsLinks, HeldJudged}
use Rattle.cube_admit.specs.Needs.{CanEnd}
use Rattle.cube_admit.specs.Sources.{IsLong, stepped, step_by}
use Rattle.cube_admit.specs.States.{State, entry_of, whole, waiting, waits_for, coloured, source_in, IsHeldBy, IsReady, IsTableOf, IsStateOf}
use Rattle.cube_admit.specs.Taking.{behind}
use Rattle.cube_admit.specs.declared.held.Held.{Held}
use Rattle.cube_admit.specs.declared.held.Held.TheVariants as held
use Rattle.cube_admit.specs.declared.held.Next.TheVariants as next
use Rattle.cube_admit.specs.declared.held.Pending.{Pending}
use Rattle.cube_admit.specs.declared.source.Step.TheVariants.{Stays, Would}
use Rattle.cube_admit.proofs.Judging.{held_more, narrowed_in_range, set_same}
use Rattle.cube_admit.proofs.Linking.{follows_basis, stop_basis}
use Rattle.cube_admit.proofs.Standing.{admissible_history, held_skip, put_each, unchanged}

-- ---- the requests of a history, behind another entry

pub requests-source : (h : List Entry) (m : ℕ) (c : List ℕ) → length (requests (h ++ Source m c ∷ [])) ≡ length (requests h)
requests-source [] m c = refl
requests-source (Asked r ∷ h) m c = ap suc (requests-source h m c)
requests-source (Source k d ∷ h) m c = requests-source h m c
requests-source (Linked k l ∷ h) m c = requests-source h m c

requests-link : (h : List Entry) (m : ℕ) (l : Link) → length (requests (h ++ Linked m l ∷ [])) ≡ length (requests h)
requests-link [] m l = refl
requests-link (Asked r ∷ h) m l = ap suc (requests-link h m l)
requests-link (Source k d ∷ h) m l = requests-link h m l
requests-link (Linked k d ∷ h) m l = requests-link h m l

pub requests-behind : (h : List Entry) (m : ℕ) (l : Link) (t : Taking) → length (requests (behind h (Linked m l) t)) ≡ length (requests h)
requests-behind h m l Taken = requests-link h m l
requests-behind h m l Passed = refl
requests-behind h m l Refused = refl

-- ---- a state where nothing waits

pub record Quiet (g : Public) (s : State) : Type 0 where
  pub admissible : IsAdmissible g s.history
  pub allowed : AreAllowed g s.history
  pub held : (m : ℕ) → m < length s.held → IsHeldBy (method g m) g s.history s.history m (get_or s.held m held.Open)

pub quiet : (g : Public) (s : State) → IsStateOf g s → s.pending ≡ None → Quiet g s
quiet g s stands none =
    let history : whole s ≡ s.history = ap (λ (p : Option Pending). s.history ++ entry_of p) none ∙ append-nil s.history in
    let admissible = admissible_history g s stands in
    record {
      admissible = admissible;
      allowed = admissible_allowed g [] s.history admissible;
      held = λ n lt. subst (λ (k : List Entry). IsHeldBy (method g n) g s.history k n (get_or s.held n held.Open)) history (stands.held n lt);
    }

-- with one entry more on one measure, and what that holds of it
pub entered_stands : (g : Public) (s t : State) (e : Entry) (m : ℕ) (new : Held) → IsStateOf g s → s.pending ≡ None → is_allowed g e ≡ true → taken g s.history e ≡ Taken → ((k : ℕ) → k ≢ m → is_on k e ≡ false) → m < length s.held
    → IsHeldBy (method g m) g (s.history ++ e ∷ []) (s.history ++ e ∷ []) m new → t.history ≡ s.history ++ e ∷ [] → t.held ≡ set s.held m new → t.pending ≡ None → IsTableOf g t.table → IsStateOf g t
entered_stands g s t e m new stands none allowed enters off lt is_held grown kept empty table =
    let q = quiet g s stands none in
    let more = s.history ++ e ∷ [] in
    let all : whole t ≡ more = ap (λ (p : Option Pending). t.history ++ entry_of p) empty ∙ append-nil t.history ∙ grown in
    let each = put_each (λ i k. IsHeldBy (method g i) g more more i k) s.held m new lt is_held
    (λ i below n. held_skip (method g i) g s.history e i (get_or s.held i held.Open) (off i n) (held_more (method g i) g s.history e i (get_or s.held i held.Open) (off i n) (q.held i below))) in
    record {
      admissible = subst (IsAdmissible g) (sym all) (admissible_push g [] s.history e q.admissible allowed enters);
      long = ap length kept ∙ length-set s.held m new ∙ stands.long;
      held = λ i below. subst (λ (h : List Entry). IsHeldBy (method g i) g h (whole t) i (get_or t.held i held.Open)) (sym grown) (subst (λ (h : List Entry). IsHeldBy (method g i) g more h i (get_or t.held i held.Open)) (sym all) (subst (λ (hs : List Held). IsHeldBy (method g i) g more more i (get_or hs i held.Open)) (sym kept) (each i (subst (λ (hs : List Held). i < length hs) kept below))));
      ready = subst (IsReady g t) (sym empty) tt;
      table = table;
    }

-- ---- a request

pub request_behind : (g : Public) (h : List Entry) (r : Request) (s : State) (v : Verdict) → s.history ≡ h → waiting s ≡ waits_for v r → whole s ≡ behind h (Asked r) (taken_by v)
request_behind g h r s v same waits = go s.pending v waits ∙ ap (λ (k : List Entry). behind k (Asked r) (taken_by v)) same
  where
    some : (p : Pending) (r : Request) → Some p.request ≡ Some r → s.history ++ Asked p.request ∷ [] ≡ s.history ++ Asked r ∷ []
    some p r e = ap (λ (o : Option Request). s.history ++ entry_from o) e
      where
        entry_from : Option Request → List Entry
        entry_from None = []
        entry_from (Some r) = Asked r ∷ []

    go : (p : Option Pending) (v : Verdict) → waiting (record s { pending = p }) ≡ waits_for v r → s.history ++ entry_of p ≡ behind s.history (Asked r) (taken_by v)
    go None (Answer true) e = absurd (cc)
    go None (Answer false) e = append-nil s.history
    go None (Full n) e = append-nil s.history
    go None (SourceWould c t) e = append-nil s.history
    go None (Pair k i j t) e = append-nil s.history
    go None (Single k i t) e = append-nil s.history
    go (Some p) (Answer true) e = some p r e
    go (Some p) (Answer false) e = absurd (cc)
    go (Some p) (Full n) e = absurd (cc)
    go (Some p) (SourceWould c t) e = absurd (cc)
    go (Some p) (Pair k i j t) e = absurd (cc)
    go (Some p) (Single k i t) e = absurd (cc)

pub request_taken : (g : Public) (h : List Entry) (r : Request) → taken g h (Asked r) ≡ taken_by (verdict g h r)
unfolding taken
request_taken g h r = refl

pub request_allowed : (g : Public) (r : Request) → is_allowed g (Asked r) ≡ true → is_valid g r ≡ true
unfolding is_allowed
request_allowed g r e = e

-- ---- a source

of_lattice : (way : Method) → is_lattice way ≡ true → way ≡ Lattice
of_lattice Plain e = absurd (false≢true e)
of_lattice Lattice e = refl
of_lattice Parity e = absurd (false≢true e)

of_parity : (way : Method) → is_parity way ≡ true → way ≡ Parity
of_parity Plain e = absurd (false≢true e)
of_parity Lattice e = absurd (false≢true e)
of_parity Parity e = refl

pub record IsSource (g : Public) (m : ℕ) (c : List ℕ) : Type 0 where
  pub way : method g m ≡ Lattice
  pub there : m < length g.policy.methods
  pub levels : are_levels g.dimensions c ≡ true

pub source_allowed : (g : Public) (m : ℕ) (c : List ℕ) → is_allowed g (Source m c) ≡ true → IsSource g m c
unfolding is_allowed
source_allowed g m c e =
    let both = and_parts (is_lattice (method g m)) (are_levels g.dimensions c) e in
    let way = of_lattice (method g m) both.0 in
    record {
      way = way;
      there = in_list g.policy.methods m (λ p. cc);
      levels = both.1;
    }

-- what is kept of the measure is the source of the history
lattice_held : (g : Public) (h : List Entry) (m : ℕ) (k : Held) → method g m ≡ Lattice → IsHeldBy (method g m) g h h m k → k ≡ held.Source (source h m)
lattice_held g h m k e i = go k (subst (λ (way : Method). IsHeldBy way g h h m k) e i)
  where
    go : (k : Held) → IsHeldBy Lattice g h h m k → k ≡ held.Source (source h m)
    go held.Open i = absurd i
    go (held.Source c) i = ap (λ (s : Option (List ℕ)). held.Source s) i
    go (held.Links c) i = absurd i

-- the measure is one that is kept
pub source_there : (g : Public) (s : State) (m : ℕ) (c : List ℕ) → IsStateOf g s → is_allowed g (Source m c) ≡ true → m < length s.held
source_there g s m c stands allowed = subst (λ (n : ℕ). m < n) (sym stands.long) (source_allowed g m c allowed).there

-- what a state where nothing waits keeps of the measure
lattice_kept : (g : Public) (s : State) (m : ℕ) (c : List ℕ) → IsStateOf g s → s.pending ≡ None → is_allowed g (Source m c) ≡ true → get_or s.held m held.Open ≡ held.Source (source s.history m)
lattice_kept g s m c stands none allowed = lattice_held g s.history m (get_or s.held m held.Open) (source_allowed g m c allowed).way ((quiet g s stands none).held m (source_there g s m c stands allowed))

-- it is as long as the levels
pub source_long : (g : Public) (s : State) (m : ℕ) (c : List ℕ) → IsStateOf g s → s.pending ≡ None → is_allowed g (Source m c) ≡ true → IsLong (length c) (source_in (get_or s.held m held.Open))
source_long g s m c stands none allowed = subst (λ (x : Held). IsLong (length c) (source_in x)) (sym (lattice_kept g s m c stands none allowed)) (long (source s.history m) (long_source g s.history m (quiet g s stands none).allowed))
  where
    long : (s : Option (List ℕ)) → IsOfLength (length g.dimensions) s → IsLong (length c) s
    long None l = tt
    long (Some s) l = l ∙ sym (length-levels g.dimensions c (source_allowed g m c allowed).levels)

pub source_ends : (g : Public) (s : State) (m : ℕ) (c d : List ℕ) → IsStateOf g s → s.pending ≡ None → is_allowed g (Source m c) ≡ true → CanEnd (next.Source d) (get_or s.held m held.Open)
source_ends g s m c d stands none allowed = subst (CanEnd (next.Source d)) (sym (lattice_kept g s m c stands none allowed)) tt

stepped_here : (g : Public) (s : State) (m : ℕ) (c asked : List ℕ) → IsStateOf g s → s.pending ≡ None → is_allowed g (Source m c) ≡ true → asked ≡ c → step_by (get_or s.held m held.Open) asked ≡ stepped (source s.history m) c
stepped_here g s m c asked stands none allowed same = ap (step_by (get_or s.held m held.Open)) same ∙ ap (λ (x : Held). step_by x c) (lattice_kept g s m c stands none allowed)

pub source_stays : (g : Public) (s : State) (m : ℕ) (c asked : List ℕ) → IsStateOf g s → s.pending ≡ None → is_allowed g (Source m c) ≡ true → asked ≡ c → Stays ≡ step_by (get_or s.held m held.Open) asked → Passed ≡ taken g s.history (Source m c)
unfolding taken
source_stays g s m c asked stands none allowed same step = go (holds_grain (source s.history m) c) (step ∙ stepped_here g s m c asked stands none allowed same)
  where
    go : (b : Bool) → Stays ≡ cond b Stays (Would (narrowed (source s.history m) c)) → Passed ≡ cond b Passed (cond (is_none (uncut g (narrowed (source s.history m) c) m)) Taken Refused)
    go true e = refl
    go false e = absurd (cc)

-- it would narrow the source that is kept
pub record Narrows (g : Public) (h : List Entry) (m : ℕ) (c d : List ℕ) : Type 0 where
  pub levels : are_levels g.dimensions d ≡ true
  pub becomes : taken g h (Source m c) ≡ cond (is_none (uncut g d m)) Taken Refused
  pub source : Some d ≡ source (h ++ Source m c ∷ []) m

narrows_by : (g : Public) (h : List Entry) (m : ℕ) (c d : List ℕ) → AreAllowed g h → are_levels g.dimensions c ≡ true → (b : Bool) → holds_grain (source h m) c ≡ b → Would d ≡ cond b Stays (Would (narrowed (source h m) c)) → Narrows g h m c d
unfolding taken
narrows_by g h m c d allowed levels true holds e = absurd (cc)
narrows_by g h m c d allowed levels false holds e =
    let same : d ≡ narrowed (source h m) c = cc in
    record {
      levels = subst (λ (l : List ℕ). are_levels g.dimensions l ≡ true) (sym same) (narrowed_in_range g (source h m) c (source_in_range g h m allowed) levels);
      becomes = ap (λ (b : Bool). cond b Passed (cond (is_none (uncut g (narrowed (source h m) c) m)) Taken Refused)) holds ∙ ap (λ (l : List ℕ). cond (is_none (uncut g l m)) Taken Refused) (sym same);
      source = ap (λ (l : List ℕ). Some l) same ∙ sym (source-narrow h m c);
    }

pub source_narrows : (g : Public) (s : State) (m : ℕ) (c asked d : List ℕ) → IsStateOf g s → s.pending ≡ None → is_allowed g (Source m c) ≡ true → asked ≡ c → Would d ≡ step_by (get_or s.held m held.Open) asked → Narrows g s.history m c d
source_narrows g s m c asked d stands none allowed same step = narrows_by g s.history m c d (quiet g s stands none).allowed (source_allowed g m c allowed).levels (holds_grain (source s.history m) c) refl (step ∙ stepped_here g s m c asked stands none allowed same)

other_source : (m k : ℕ) (c : List ℕ) → k ≢ m → is_on k (Source m c) ≡ false
other_source m k c n = go (eqb m k) refl
  where
    go : (b : Bool) → eqb m k ≡ b → b ≡ false
    go true e = absurd (n (sym (eqb-true m k e)))
    go false e = refl

pub source_stands : (g : Public) (s t : State) (m : ℕ) (c d : List ℕ) → IsStateOf g s → s.pending ≡ None → is_allowed g (Source m c) ≡ true → Narrows g s.history m c d → is_none (uncut g d m) ≡ true
    → t.history ≡ s.history ++ Source m c ∷ [] → t.held ≡ set s.held m (held.Source (Some d)) → t.pending ≡ None → IsTableOf g t.table → IsStateOf g t
source_stands g s t m c d stands none allowed narrows safe grown kept empty table =
    let is = source_allowed g m c allowed in
    entered_stands g s t (Source m c) m (held.Source (Some d)) stands none allowed (narrows.becomes ∙ ap (λ (b : Bool). cond b Taken Refused) safe) (λ k n. other_source m k c n)
    (subst (λ (n : ℕ). m < n) (sym stands.long) is.there)
    (subst (λ (way : Method). IsHeldBy way g (s.history ++ Source m c ∷ []) (s.history ++ Source m c ∷ []) m (held.Source (Some d))) (sym is.way) narrows.source)
    grown kept empty table

-- ---- a link

pub record IsLink (g : Public) (m : ℕ) (l : Link) : Type 0 where
  pub way : method g m ≡ Parity
  pub there : m < length g.policy.methods
  pub of : IsOfPlaces (length g.shape.points) l

places_of : (n : ℕ) (l : Link) → is_link n l ≡ true → IsOfPlaces n l
places_of n (PairOf i j) e =
    let front = (and_parts (ltb i n && ltb j n) (not (eqb i j)) e).0 in
    let both = and_parts (ltb i n) (ltb j n) front in
    (ltb-true i n both.0, ltb-true j n both.1)
places_of n (SingleOf i) e = ltb-true i n e

pub link_allowed : (g : Public) (m : ℕ) (l : Link) → is_allowed g (Linked m l) ≡ true → IsLink g m l
unfolding is_allowed
link_allowed g m l e =
    let both = and_parts (is_parity (method g m)) (is_link (length g.shape.points) l) e in
    let way = of_parity (method g m) both.0 in
    record {
      way = way;
      there = in_list g.policy.methods m (λ p. cc);
      of = places_of (length g.shape.points) l both.1;
    }

pub link_there : (g : Public) (s : State) (m : ℕ) (l : Link) → IsStateOf g s → is_allowed g (Linked m l) ≡ true → m < length s.held
link_there g s m l stands allowed = subst (λ (n : ℕ). m < n) (sym stands.long) (link_allowed g m l allowed).there

parity_held : (g : Public) (h : List Entry) (m : ℕ) (k : Held) → method g m ≡ Parity → IsHeldBy (method g m) g h h m k → k ≡ held.Links (coloured g m (links_of g h m))
parity_held g h m k e i = go k (subst (λ (way : Method). IsHeldBy way g h h m k) e i)
  where
    go : (k : Held) → IsHeldBy Parity g h h m k → k ≡ held.Links (coloured g m (links_of g h m))
    go held.Open i = absurd i
    go (held.Source c) i = absurd i
    go (held.Links c) i = ap (λ (d : Colouring). held.Links d) i

links_kept : (g : Public) (s : State) (m : ℕ) (l : Link) → IsStateOf g s → s.pending ≡ None → is_allowed g (Linked m l) ≡ true → get_or s.held m held.Open ≡ held.Links (coloured g m (links_of g s.history m))
links_kept g s m l stands none allowed = parity_held g s.history m (get_or s.held m held.Open) (link_allowed g m l allowed).way ((quiet g s stands none).held m (link_there g s m l stands allowed))

one_of_places : (n : ℕ) (l : Link) → IsOfPlaces n l → AreOfPlaces n (l ∷ [])
one_of_places n l of x (inl e) = subst (IsOfPlaces n) e of
one_of_places n l of x (inr h) = absurd h

pub link_is_links : (g : Public) (s : State) (m : ℕ) (l : Link) (links : List Link) → IsStateOf g s → s.pending ≡ None → is_allowed g (Linked m l) ≡ true → links ≡ l ∷ [] → IsLinks (get_or s.held m held.Open) links
link_is_links g s m l links stands none allowed one = subst (IsLinks (get_or s.held m held.Open)) (sym one) (subst (λ (k : Held). IsLinks k (l ∷ [])) (sym (links_kept g s m l stands none allowed)) (one_of_places (length g.shape.points) l (link_allowed g m l allowed).of))

-- what one link is told by the basis of a history's links is what becomes of it
linked_taken : (g : Public) (h : List Entry) (m : ℕ) (l : Link) → taken_by (linked_as (coloured g m (links_of g h m)) 0 (l ∷ [])) ≡ taken g h (Linked m l)
unfolding taken
linked_taken g h m l =
    ap (λ (f : Link → Bool). taken_by (cond (list_all f (l ∷ [])) (Answer false) (unless_stopped stop (first_stop n guards (basis n ls) (l ∷ []))))) (follows_basis n ls)
    ∙ ap (λ (o : Option ℕ). taken_by (cond (follows n ls l && true) (Answer false) (unless_stopped stop o))) (stop_basis n guards ls (l ∷ []))
    ∙ go (follows n ls l) (fixed_by (suiting n (ls ++ l ∷ [])) guards) refl
  where
    n : ℕ
    n = length g.shape.points

    ls : List Link
    ls = links_of g h m

    guards : List ℕ
    guards = guarded g m

    stop : ℕ → Verdict
    stop = stopped_at n guards (basis n ls) (l ∷ [])

    refused : (k : ℕ) (x : Link) (i : ℕ) → taken_by (fixes k x i) ≡ Refused
    refused k (PairOf a b) i = refl
    refused k (SingleOf a) i = refl

    go : (b : Bool) (o : Option ℕ) → fixed_by (suiting n (ls ++ l ∷ [])) guards ≡ o → taken_by (cond (b && true) (Answer false) (unless_stopped stop (cond (is_some o) (Some 1) None))) ≡ cond b Passed (cond (is_none o) Taken Refused)
    go true o e = refl
    go false None e = refl
    go false (Some i) e = refused 1 l _

pub link_taken : (g : Public) (s : State) (m : ℕ) (l : Link) (links : List Link) (new : Held) (v : Verdict) (mark : Option ℕ) → IsStateOf g s → s.pending ≡ None → is_allowed g (Linked m l) ≡ true → links ≡ l ∷ []
    → HeldJudged (get_or s.held m held.Open) new 0 links (v, mark) → taken_by v ≡ taken g s.history (Linked m l)
link_taken g s m l links new v mark stands none allowed one judged = go new (subst (λ (ks : List Link). HeldJudged (held.Links kept) new 0 ks (v, mark)) one (subst (λ (k : Held). HeldJudged k new 0 links (v, mark)) (links_kept g s m l stands none allowed) judged))
  where
    kept : Colouring
    kept = coloured g m (links_of g s.history m)

    go : (new : Held) → HeldJudged (held.Links kept) new 0 (l ∷ []) (v, mark) → taken_by v ≡ taken g s.history (Linked m l)
    go held.Open j = absurd j
    go (held.Source c) j = absurd j
    go (held.Links c) j = ap taken_by j.0 ∙ linked_taken g s.history m l

other_link : (m k : ℕ) (l : Link) → k ≢ m → is_on k (Linked m l) ≡ false
other_link m k l n = go (eqb m k) refl
  where
    go : (b : Bool) → eqb m k ≡ b → b ≡ false
    go true e = absurd (n (sym (eqb-true m k e)))
    go false e = refl

not_taken : (v : Verdict) → (v ≡ Answer true → ⊥) → is_taken (taken_by v) ≡ false
not_taken (Answer true) n = absurd (n refl)
not_taken (Answer false) n = refl
not_taken (Full k) n = refl
not_taken (SourceWould c t) n = refl
not_taken (Pair k i j t) n = refl
not_taken (Single k i t) n = refl

pub link_stands : (g : Public) (s t : State) (m : ℕ) (l : Link) (links : List Link) (new : Held) (v : Verdict) (mark : Option ℕ) → IsStateOf g s → s.pending ≡ None → is_allowed g (Linked m l) ≡ true → links ≡ l ∷ []
    → HeldJudged (get_or s.held m held.Open) new 0 links (v, mark) → t.history ≡ behind s.history (Linked m l) (taken_by v) → t.held ≡ set s.held m new → t.pending ≡ None → IsTableOf g t.table → IsStateOf g t
link_stands g s t m l links new v mark stands none allowed one judged grown held_is empty table = go new mark (subst (λ (ks : List Link). HeldJudged (held.Links kept) new 0 ks (v, mark)) one (subst (λ (k : Held). HeldJudged k new 0 links (v, mark)) was judged)) held_is
  where
    n : ℕ
    n = length g.shape.points

    ls : List Link
    ls = links_of g s.history m

    kept : Colouring
    kept = coloured g m ls

    was : get_or s.held m held.Open ≡ held.Links kept
    was = links_kept g s m l stands none allowed

    more : links_of g (s.history ++ Linked m l ∷ []) m ≡ ls ++ l ∷ []
    more = links_of-append g s.history (Linked m l ∷ []) m ∙ ap (λ (ks : List Link). ls ++ ks) (links_of-one g (Linked m l) m (eq-eqb m m refl))

    go : (new : Held) (mark : Option ℕ) → HeldJudged (held.Links kept) new 0 (l ∷ []) (v, mark) → t.held ≡ set s.held m new → IsStateOf g t
    go held.Open mark j is = absurd j
    go (held.Source c) mark j is = absurd j
    go (held.Links c) None j is =
        let same : t.held ≡ s.held = is ∙ ap (λ (d : Colouring). set s.held m (held.Links d)) j.1.0 ∙ ap (set s.held m) (sym was) ∙ set_same s.held m in
        let still : t.history ≡ s.history = grown ∙ ap (λ (b : Bool). cond b (s.history ++ Linked m l ∷ []) s.history) (not_taken v j.1.1) in
        unchanged g s t still same (empty ∙ sym none) table stands
    go (held.Links c) (Some mark) j is =
        let takes : taken_by v ≡ Taken = ap taken_by j.1.1 in
        let longer : t.history ≡ s.history ++ Linked m l ∷ [] = grown ∙ ap (behind s.history (Linked m l)) takes in
        let new_is : c ≡ coloured g m (links_of g (s.history ++ Linked m l ∷ []) m) = j.1.0 ∙ ap (λ (ks : List Link). record { places = n; guarded = guarded g m; kept = ks }) (basis_of_more n ls (l ∷ []) ∙ ap (basis n) (sym more)) in
        entered_stands g s t (Linked m l) m (held.Links c) stands none allowed (sym (ap taken_by j.0 ∙ linked_taken g s.history m l) ∙ takes) (λ k d. other_link m k l d) (link_there g s m l stands allowed)
        (subst (λ (way : Method). IsHeldBy way g (s.history ++ Linked m l ∷ []) (s.history ++ Linked m l ∷ []) m (held.Links c)) (sym (link_allowed g m l allowed).way) new_is)
        longer is empty table
