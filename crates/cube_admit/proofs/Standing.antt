-- What a state keeps, when the request that waits goes or enters.
use Rattle.std.proofs.Common.{◌≡◌, ◌≢◌, ℕ, zero, suc, ◌+◌, ◌<◌, ◌⊎◌, inl, inr, Bool, true, false, List, [], ◌∷◌, ◌++◌, length, map, take, set, get_or, Option, Some, None, refl, sym, ap, ◌∙◌, subst, arith, append-nil, eqb, get_or-set_other, get_or-set_same}
use Rattle.std.proofs.lemmas.Bool.{eqb-true, eq-eqb, false≢true}
use Rattle.std.proofs.lemmas.Bool.Decides.{nat_tests}
use Rattle.std.proofs.Math.ListN.{length-set}
use Rattle.std.proofs.lemmas.List.{length-map, map-append}
use Rattle.cube_model.proofs.DimsFacts.{count_from-more}
use Rattle.std.specs.List.{All}
use Rattle.cube_model.specs.declared.entry.Entry.{Entry}
use Rattle.cube_model.specs.declared.entry.Entry.TheVariants.{Asked, Source, Linked}
use Rattle.cube_model.specs.declared.policy.Method.{Method}
use Rattle.cube_model.specs.declared.policy.Method.TheVariants.{Plain, Lattice, Parity}
use Rattle.cube_model.specs.declared.request.Request.{Request}
use Rattle.cube_model.specs.declared.request.What.{What}
use Rattle.cube_model.specs.declared.request.What.TheVariants.{Count, Measure}
use Rattle.cube_model.specs.Cubes.{Public, IsIn, places, count_from}
use Rattle.cube_model.proofs.Members.{IsIn-filter, IsIn-count_from}
use Rattle.cube_model.specs.Requests.{is_measure}
use Rattle.cube_model.specs.Protection.{method, guarded, is_guarded, objects_of}
use Rattle.cube_model.specs.Entries.{is_on, requests}
use Rattle.cube_model.specs.Verdicts.{source, links_of, AdmissibleFrom, IsAdmissible}
use Rattle.cube_model.proofs.Histories.{source-skip, links_of-append}
use Rattle.cube_model.proofs.Parities.{links_of-none}
use Rattle.cube_model.proofs.Sums.{length-count_from}
use Rattle.cube_model.specs.declared.link.Link.{Link}
use Rattle.cube_model.specs.Links.{basis}
use Rattle.cube_colour.specs.Colourings.{Colouring}
use Rattle.cube_admit.proofs.Linking.{grows, basis_more}
use Rattle.cube_admit.specs.declared.held.Held.{Held}
use Rattle.cube_admit.specs.declared.held.Held.TheVariants as held
use Rattle.cube_admit.specs.declared.held.Next.{Next}
use Rattle.cube_admit.specs.declared.held.Next.TheVariants as next
use Rattle.cube_admit.specs.declared.held.Pending.{Pending}
use Rattle.cube_admit.specs.States.{State, entry_of, whole, coloured, started, entered, given_back, IsHeldBy, IsNextBy, IsReady, IsTableOf, IsStateOf}

-- a front of an admissible history is admissible
admissible_front : (g : Public) (b xs ys : List Entry) → AdmissibleFrom g b (xs ++ ys) → AdmissibleFrom g b xs
admissible_front g b [] ys a = tt
admissible_front g b (x ∷ xs) ys a = (a.0, a.1, admissible_front g (b ++ x ∷ []) xs ys a.2)

-- the history is admissible, whether a request waits behind it or not
pub admissible_history : (g : Public) (s : State) → IsStateOf g s → IsAdmissible g s.history
admissible_history g s stands = admissible_front g [] s.history (entry_of s.pending) stands.admissible

-- ---- what is kept of a measure, behind one request more or less

held_next : (way : Method) (g : Public) (h k : List Entry) (m : ℕ) (n : Next) (held : Held) → IsNextBy way g h k m n → IsHeldBy way g h k m held → IsHeldBy way g k k m (entered n held)
held_next Plain g h k m n held i j = absurd i
held_next Lattice g h k m (next.Source c) held i j = i
held_next Lattice g h k m (next.Mark n) held i j = absurd i
held_next Parity g h k m (next.Source c) held i j = absurd i
held_next Parity g h k m (next.Mark n) held.Open i j = absurd j
held_next Parity g h k m (next.Mark n) (held.Source c) i j = absurd j
held_next Parity g h k m (next.Mark n) (held.Links c) i j = j

-- an entry on another measure
pub held_skip : (way : Method) (g : Public) (h : List Entry) (e : Entry) (m : ℕ) (held : Held) → is_on m e ≡ false → IsHeldBy way g h (h ++ e ∷ []) m held → IsHeldBy way g (h ++ e ∷ []) (h ++ e ∷ []) m held
held_skip Plain g h e m held.Open off i = tt
held_skip Plain g h e m (held.Source c) off i = absurd i
held_skip Plain g h e m (held.Links c) off i = absurd i
held_skip Lattice g h e m held.Open off i = absurd i
held_skip Lattice g h e m (held.Source c) off i = i ∙ sym (source-skip h e m off)
held_skip Lattice g h e m (held.Links c) off i = absurd i
held_skip Parity g h e m held.Open off i = absurd i
held_skip Parity g h e m (held.Source c) off i = absurd i
held_skip Parity g h e m (held.Links c) off i = i

pub links-skip : (g : Public) (h : List Entry) (e : Entry) (m : ℕ) → is_on m e ≡ false → links_of g (h ++ e ∷ []) m ≡ links_of g h m
links-skip g h e m off = links_of-append g h (e ∷ []) m ∙ ap (λ (ls : List Link). links_of g h m ++ ls) (links_of-none g e m off) ∙ append-nil (links_of g h m)

held_back : (way : Method) (g : Public) (h : List Entry) (e : Entry) (m : ℕ) (held : Held) → is_on m e ≡ false → IsHeldBy way g h (h ++ e ∷ []) m held → IsHeldBy way g h h m held
held_back Plain g h e m held.Open off i = tt
held_back Plain g h e m (held.Source c) off i = absurd i
held_back Plain g h e m (held.Links c) off i = absurd i
held_back Lattice g h e m held.Open off i = absurd i
held_back Lattice g h e m (held.Source c) off i = i
held_back Lattice g h e m (held.Links c) off i = absurd i
held_back Parity g h e m held.Open off i = absurd i
held_back Parity g h e m (held.Source c) off i = absurd i
held_back Parity g h e m (held.Links c) off i = i ∙ ap (coloured g m) (links-skip g h e m off)

pub take_front : {X : Type 0} (xs ys : List X) → take (length xs) (xs ++ ys) ≡ xs
take_front [] ys = refl
take_front (x ∷ xs) ys = ap (λ zs. x ∷ zs) (take_front xs ys)

-- the links of a history are taken back to
basis_back : (n : ℕ) (ls more : List Link) → take (length (basis n ls)) (basis n (ls ++ more)) ≡ basis n ls
basis_back n ls more =
    let grown = grows n (basis n ls) more in
    ap (take (length (basis n ls))) (basis_more n ls more ∙ grown.1) ∙ take_front (basis n ls) grown.0

held_given : (way : Method) (g : Public) (h : List Entry) (e : Entry) (m : ℕ) (n : Next) (held : Held) → IsNextBy way g h (h ++ e ∷ []) m n → IsHeldBy way g h (h ++ e ∷ []) m held → IsHeldBy way g h h m (given_back n held)
held_given Plain g h e m n held i j = absurd i
held_given Lattice g h e m (next.Source c) held.Open i j = absurd j
held_given Lattice g h e m (next.Source c) (held.Source s) i j = j
held_given Lattice g h e m (next.Source c) (held.Links s) i j = absurd j
held_given Lattice g h e m (next.Mark n) held i j = absurd i
held_given Parity g h e m (next.Source c) held i j = absurd i
held_given Parity g h e m (next.Mark n) held.Open i j = absurd j
held_given Parity g h e m (next.Mark n) (held.Source c) i j = absurd j
held_given Parity g h e m (next.Mark n) (held.Links c) i j =
    let few = length g.shape.points in
    let back : take n (basis few (links_of g (h ++ e ∷ []) m)) ≡ basis few (links_of g h m) = ap (λ k. take k (basis few (links_of g (h ++ e ∷ []) m))) i ∙ ap (λ ls. take (length (basis few (links_of g h m))) (basis few ls)) (links_of-append g h (e ∷ []) m) ∙ basis_back few (links_of g h m) (links_of g (e ∷ []) m) in
    ap (λ (d : Colouring). record d { kept = take n d.kept }) j ∙ ap (λ (kept : List Link). record { places = few; guarded = guarded g m; kept = kept }) back

-- a request asks for one measure
pub asks_one : (w : What) (m k : ℕ) → is_measure k w ≡ true → m ≢ k → is_measure m w ≡ false
asks_one Count m k a n = absurd (false≢true a)
asks_one (Measure j) m k a n = let e = eqb-true j k a in grind (arith, nat_tests)

same_or : (m k : ℕ) → (m ≡ k) ⊎ (m ≢ k)
same_or m k = go (eqb m k) refl
  where
    go : (b : Bool) → eqb m k ≡ b → (m ≡ k) ⊎ (m ≢ k)
    go true e = inl (eqb-true m k e)
    go false e = inr (λ f. false≢true (sym e ∙ eq-eqb m k f))

-- where one of what is kept is put, each is as it should be
pub put_each : (P : ℕ → Held → Type 0) (hs : List Held) (k : ℕ) (new : Held) → k < length hs → P k new → ((m : ℕ) → m < length hs → m ≢ k → P m (get_or hs m held.Open)) → (m : ℕ) → m < length (set hs k new) → P m (get_or (set hs k new) m held.Open)
put_each P hs k new lt here others m below = go (same_or m k)
  where
    go : (m ≡ k) ⊎ (m ≢ k) → P m (get_or (set hs k new) m held.Open)
    go (inl e) = subst (λ i. P i (get_or (set hs k new) i held.Open)) (sym e) (subst (P k) (sym (get_or-set_same hs k new held.Open lt)) here)
    go (inr n) = subst (P m) (sym (get_or-set_other hs k m new held.Open n)) (others m (subst (λ i. m < i) (length-set hs k new) below) n)

-- ---- the request that waits

-- no request waits: nothing changes but the table
pub unchanged : (g : Public) (s t : State) → t.history ≡ s.history → t.held ≡ s.held → t.pending ≡ s.pending → IsTableOf g t.table → IsStateOf g s → IsStateOf g t
unchanged g s t history kept waits table stands = subst (IsStateOf g) (sym same) (record { admissible = stands.admissible; long = stands.long; held = stands.held; ready = stands.ready; table = table })
  where
    same : t ≡ record s { table = t.table }
    same = ap (λ (h : List Entry). record t { history = h }) history ∙ ap (λ (p : Option Pending). record t { history = s.history; pending = p }) waits ∙ ap (λ (hs : List Held). record s { held = hs; table = t.table }) kept

-- it goes
pub dropped : (g : Public) (s t : State) (p : Pending) → s.pending ≡ Some p → p.measure < length s.held → t.history ≡ s.history → t.held ≡ set s.held p.measure (given_back p.next (get_or s.held p.measure held.Open)) → t.pending ≡ None → t.table ≡ s.table → IsStateOf g s → IsStateOf g t
dropped g s t p waits lt same kept none table stands =
    let ready : IsReady g s (Some p) = subst (IsReady g s) waits stands.ready in
    let all : whole s ≡ s.history ++ Asked p.request ∷ [] = ap (λ (q : Option Pending). s.history ++ entry_of q) waits in
    let history : whole t ≡ s.history = ap (λ (q : Option Pending). t.history ++ entry_of q) none ∙ append-nil t.history ∙ same in
    let back = given_back p.next (get_or s.held p.measure held.Open) in
    let held_at = λ (m : ℕ) (lt : m < length s.held). subst (λ (k : List Entry). IsHeldBy (method g m) g s.history k m (get_or s.held m held.Open)) all (stands.held m lt) in
    let next_at : IsNextBy (method g p.measure) g s.history (s.history ++ Asked p.request ∷ []) p.measure p.next = subst (λ (k : List Entry). IsNextBy (method g p.measure) g s.history k p.measure p.next) all ready.1 in
    let each = put_each (λ m k. IsHeldBy (method g m) g s.history s.history m k) s.held p.measure back lt
    (held_given (method g p.measure) g s.history (Asked p.request) p.measure p.next (get_or s.held p.measure held.Open) next_at (held_at p.measure lt))
    (λ m below n. held_back (method g m) g s.history (Asked p.request) m (get_or s.held m held.Open) (asks_one p.request.what m p.measure ready.0 n) (held_at m below)) in
    record {
      admissible = subst (IsAdmissible g) (sym history) (admissible_history g s stands);
      long = ap length kept ∙ length-set s.held p.measure back ∙ stands.long;
      held = λ m below. subst (λ (h : List Entry). IsHeldBy (method g m) g h (whole t) m (get_or t.held m held.Open)) (sym same) (subst (λ (k : List Entry). IsHeldBy (method g m) g s.history k m (get_or t.held m held.Open)) (sym history) (subst (λ (hs : List Held). IsHeldBy (method g m) g s.history s.history m (get_or hs m held.Open)) (sym kept) (each m (subst (λ (hs : List Held). m < length hs) kept below))));
      ready = subst (IsReady g t) (sym none) tt;
      table = subst (IsTableOf g) (sym table) stands.table;
    }

-- it enters
pub committed : (g : Public) (s t : State) (p : Pending) → s.pending ≡ Some p → p.measure < length s.held → t.history ≡ s.history ++ Asked p.request ∷ [] → t.held ≡ set s.held p.measure (entered p.next (get_or s.held p.measure held.Open)) → t.pending ≡ None → t.table ≡ s.table → IsStateOf g s → IsStateOf g t
committed g s t p waits lt grown kept none table stands =
    let ready : IsReady g s (Some p) = subst (IsReady g s) waits stands.ready in
    let all : whole s ≡ s.history ++ Asked p.request ∷ [] = ap (λ (q : Option Pending). s.history ++ entry_of q) waits in
    let more = s.history ++ Asked p.request ∷ [] in
    let history : whole t ≡ more = ap (λ (q : Option Pending). t.history ++ entry_of q) none ∙ append-nil t.history ∙ grown in
    let put = entered p.next (get_or s.held p.measure held.Open) in
    let held_at = λ (m : ℕ) (lt : m < length s.held). subst (λ (k : List Entry). IsHeldBy (method g m) g s.history k m (get_or s.held m held.Open)) all (stands.held m lt) in
    let next_at : IsNextBy (method g p.measure) g s.history more p.measure p.next = subst (λ (k : List Entry). IsNextBy (method g p.measure) g s.history k p.measure p.next) all ready.1 in
    let each = put_each (λ m k. IsHeldBy (method g m) g more more m k) s.held p.measure put lt
    (held_next (method g p.measure) g s.history more p.measure p.next (get_or s.held p.measure held.Open) next_at (held_at p.measure lt))
    (λ m below n. held_skip (method g m) g s.history (Asked p.request) m (get_or s.held m held.Open) (asks_one p.request.what m p.measure ready.0 n) (held_at m below)) in
    record {
      admissible = subst (IsAdmissible g) (all ∙ sym history) stands.admissible;
      long = ap length kept ∙ length-set s.held p.measure put ∙ stands.long;
      held = λ m below. subst (λ (h : List Entry). IsHeldBy (method g m) g h (whole t) m (get_or t.held m held.Open)) (sym grown) (subst (λ (k : List Entry). IsHeldBy (method g m) g more k m (get_or t.held m held.Open)) (sym history) (subst (λ (hs : List Held). IsHeldBy (method g m) g more more m (get_or hs m held.Open)) (sym kept) (each m (subst (λ (hs : List Held). m < length hs) kept below))));
      ready = subst (IsReady g t) (sym none) tt;
      table = subst (IsTableOf g) (sym table) stands.table;
    }

-- a history with one more request
pub requests-push : (h : List Entry) (r : Request) → length (requests (h ++ Asked r ∷ [])) ≡ length (requests h) + 1
requests-push [] r = refl
requests-push (Asked q ∷ h) r = let e = requests-push h r in omega (arith, e)
requests-push (Source m c ∷ h) r = requests-push h r
requests-push (Linked m l ∷ h) r = requests-push h r

-- ---- the state of an empty history

get_counted : (f : ℕ → Held) (s n m : ℕ) → m < n → get_or (map f (count_from s n)) m held.Open ≡ f (s + m)
get_counted f s zero m lt = absurd (omega (arith, lt))
get_counted f s (suc n) zero lt = ap f (omega arith)
get_counted f s (suc n) (suc m) lt = get_counted f (suc s) n m (omega (arith, lt)) ∙ ap f (omega arith)

-- one measure more
pub started_more : (f : ℕ → Held) (n : ℕ) (hs more : List Held) (k : Held) → hs ≡ map f (count_from 0 n) → k ≡ f n → more ≡ hs ++ k ∷ [] → more ≡ map f (count_from 0 (n + 1))
started_more f n hs more k is here grown =
    let e : 0 + n ≡ n = omega arith in
    let counted : count_from 0 (n + 1) ≡ count_from 0 n ++ n ∷ [] = rw e at (count_from-more 0 n) in
    grown ∙ ap (λ (l : List Held). l ++ k ∷ []) is ∙ ap (λ (h : Held). map f (count_from 0 n) ++ h ∷ []) here ∙ sym (ap (map f) counted ∙ map-append f (count_from 0 n) (n ∷ []))

held_at_first : (g : Public) (way : Method) (m : ℕ) → IsHeldBy way g [] [] m (started g way m)
unfolding source links_of
held_at_first g Plain m = tt
held_at_first g Lattice m = refl
held_at_first g Parity m = refl

pub at_first : (g : Public) (t : State) → t.history ≡ [] → t.held ≡ map (λ m. started g (method g m) m) (count_from 0 (length g.policy.methods)) → t.pending ≡ None → IsTableOf g t.table → IsStateOf g t
at_first g t none kept waits table =
    let n = length g.policy.methods in
    let f = λ (m : ℕ). started g (method g m) m in
    let history : whole t ≡ [] = ap (λ (q : Option Pending). t.history ++ entry_of q) waits ∙ append-nil t.history ∙ none in
    let long : length t.held ≡ n = ap length kept ∙ simp (length-map, length-count_from) in
    record {
      admissible = subst (IsAdmissible g) (sym history) tt;
      long = long;
      held = λ m lt. subst (λ (h : List Entry). IsHeldBy (method g m) g h (whole t) m (get_or t.held m held.Open)) (sym none) (subst (λ (k : List Entry). IsHeldBy (method g m) g [] k m (get_or t.held m held.Open)) (sym history) (subst (IsHeldBy (method g m) g [] [] m) (sym (ap (λ (hs : List Held). get_or hs m held.Open) kept ∙ get_counted f 0 n m (omega (arith, lt, long)) ∙ ap f (omega arith))) (held_at_first g (method g m) m)));
      ready = subst (IsReady g t) (sym waits) tt;
      table = table;
    }

all_in : (P : ℕ → Type 0) (xs : List ℕ) → ((x : ℕ) → IsIn x xs → P x) → All P xs
all_in P [] h k d l = absurd (omega (arith, l))
all_in P (x ∷ xs) h zero d l = h x (inl refl)
all_in P (x ∷ xs) h (suc k) d l = all_in P xs (λ y i. h y (inr i)) k d (omega (arith, l))

-- guarded places are places
pub guarded_below : (g : Public) (m : ℕ) → All (λ place. place < length g.shape.points) (guarded g m)
guarded_below g m = all_in (λ place. place < length g.shape.points) (guarded g m) (λ i h. let b = (IsIn-count_from i 0 (length g.shape.points) (IsIn-filter (is_guarded g (objects_of g m)) i (places g) h).1).1 in omega (arith, b))
