-- What an admissible history holds.
use Rattle.std.specs.Prelude.{⊤}
use Rattle.std.proofs.Common.{◌≡◌, ℕ, suc, ◌⊎◌, inl, inr, Bool, true, false, cond, not, ◌&&◌, List, [], ◌∷◌, ◌++◌, length, filter, flat_map, fold, is_none, Option, Some, None, refl, sym, ap, ◌∙◌, subst, append_assoc, append-nil, leb, eqb}
use Rattle.std.proofs.lemmas.Bool.{false≢true, and_parts, not-false, eqb-true, eq-eqb}
use Rattle.std.proofs.lemmas.Grind.{flat_map-append}
use Rattle.std.proofs.lemmas.List.Elements.{filter-append}
use Rattle.std.proofs.lemmas.List.Sums.{fold-append}
use Rattle.cube_model.specs.declared.cell.Cell.{Cell}
use Rattle.cube_model.specs.declared.entry.Entry.{Entry}
use Rattle.cube_model.specs.declared.entry.Entry.TheVariants.{Asked, Source, Linked}
use Rattle.cube_model.specs.declared.entry.Taken.TheVariants.{Taken, Passed, Refused}
use Rattle.cube_model.specs.declared.link.Link.{Link}
use Rattle.cube_model.specs.declared.policy.Method.{Method}
use Rattle.cube_model.specs.declared.policy.Method.TheVariants.{Lattice}
use Rattle.cube_model.specs.declared.request.Request.{Request}
use Rattle.cube_model.specs.declared.request.What.{What}
use Rattle.cube_model.specs.declared.request.What.TheVariants.{Count, Measure}
use Rattle.cube_model.specs.declared.verdict.Verdict.{Verdict}
use Rattle.cube_model.specs.declared.verdict.Verdict.TheVariants.{Answer, Full, SourceWould, Pair as PairFixes, Single as SingleFixes}
use Rattle.cube_model.specs.Cubes.{Dimension, Public, meet, is_finer, Each, IsIn, are_levels}
use Rattle.cube_model.specs.Requests.{grain, asks, is_measure, is_valid, is_there, fits}
use Rattle.cube_model.specs.Protection.{method, protected, is_cut, uncut, is_lattice}
use Rattle.cube_model.specs.Entries.{is_allowed, requests, is_on, on, levels_in, links_in}
use Rattle.cube_model.specs.Verdicts.{narrowed, source, links_of, holds_grain, most_held, unless_uncut, judged, judged_what, verdict, taken_by, taken, AdmissibleFrom, IsAdmissible}
use Rattle.cube_model.specs.Runs.{entered}
use Rattle.cube_model.proofs.Finer.{is_finer_refl, is_finer_trans, meet_left, meet_right, length-meet, length_grain}
use Rattle.cube_model.proofs.Members.{tested, find_none, same_eq}

-- each entry is allowed
abbrev pub AreAllowed : Public → List Entry → Type 0
AreAllowed g h = Each (λ e. is_allowed g e ≡ true) h

pub admissible_allowed : (g : Public) (h es : List Entry) → AdmissibleFrom g h es → AreAllowed g es
admissible_allowed g h [] a = tt
admissible_allowed g h (e ∷ es) a = (a.0, admissible_allowed g (h ++ e ∷ []) es a.2)

pub Each-append_right : {X : Type 0} (P : X → Type 0) (xs ys : List X) → Each P (xs ++ ys) → Each P ys
Each-append_right P [] ys e = e
Each-append_right P (x ∷ xs) ys e = Each-append_right P xs ys e.1

pub Each-append_left : {X : Type 0} (P : X → Type 0) (xs ys : List X) → Each P (xs ++ ys) → Each P xs
Each-append_left P [] ys e = tt
Each-append_left P (x ∷ xs) ys e = (e.0, Each-append_left P xs ys e.1)

Each-filter : {X : Type 0} (P : X → Type 0) (p : X → Bool) (xs : List X) → Each P xs → Each P (filter p xs)
Each-filter P p [] e = tt
Each-filter P p (x ∷ xs) e = go (p x) (Each-filter P p xs e.1)
  where
    go : (b : Bool) → Each P (filter p xs) → Each P (cond b (x ∷ filter p xs) (filter p xs))
    go true r = (e.0, r)
    go false r = r

pub Each-at : {X : Type 0} (P : X → Type 0) (x : X) (xs : List X) → Each P xs → IsIn x xs → P x
Each-at P x [] e h = absurd h
Each-at P x (y ∷ ys) e (inl yx) = subst P yx e.0
Each-at P x (y ∷ ys) e (inr k) = Each-at P x ys e.1 k

-- a list of levels narrows a source
step : Option (List ℕ) → List ℕ → Option (List ℕ)
step s c = Some (narrowed s c)

-- a valid request has a level and a pick or none for each dimension
pub fits_valid : (g : Public) (r : Request) → is_valid g r ≡ true → fits g.dimensions r.group r.picks ≡ true
unfolding is_valid
fits_valid g r v = (and_parts (fits g.dimensions r.group r.picks) _ (and_parts (fits g.dimensions r.group r.picks && is_there g r.what) _ v).0).0

pub length-grain : (g : Public) (r : Request) → is_valid g r ≡ true → length (grain r) ≡ length g.dimensions
unfolding grain
length-grain g r v = length_grain g.dimensions r.group r.picks (fits_valid g r v)

-- levels in range are one per dimension
pub length-levels : (ds : List Dimension) (c : List ℕ) → are_levels ds c ≡ true → length c ≡ length ds
length-levels [] [] e = refl
length-levels [] (l ∷ ls) e = absurd (false≢true e)
length-levels (d ∷ ds) [] e = absurd (false≢true e)
length-levels (d ∷ ds) (l ∷ ls) e = ap suc (length-levels ds ls (and_parts (leb l d.levels) (are_levels ds ls) e).1)

-- what an allowed entry brings is as long as the dimensions
abbrev AreLong : Public → List (List ℕ) → Type 0
AreLong g cs = Each (λ c. length c ≡ length g.dimensions) cs

long_levels : (g : Public) (e : Entry) → is_allowed g e ≡ true → AreLong g (levels_in e)
unfolding is_allowed
long_levels g (Asked r) a = (length-grain g r a, tt)
long_levels g (Source m c) a = (length-levels g.dimensions c (and_parts (is_lattice (method g m)) (are_levels g.dimensions c) a).1, tt)
long_levels g (Linked m l) a = tt

Each-append : {X : Type 0} (P : X → Type 0) (xs ys : List X) → Each P xs → Each P ys → Each P (xs ++ ys)
Each-append P [] ys a b = b
Each-append P (x ∷ xs) ys a b = (a.0, Each-append P xs ys a.1 b)

long_brought : (g : Public) (es : List Entry) → AreAllowed g es → AreLong g (flat_map levels_in es)
long_brought g [] a = tt
long_brought g (e ∷ es) a = Each-append (λ c. length c ≡ length g.dimensions) (levels_in e) (flat_map levels_in es) (long_levels g e a.0) (long_brought g es a.1)

pub allowed_on : (g : Public) (h : List Entry) (m : ℕ) → AreAllowed g h → AreAllowed g (on m h)
allowed_on g h m a = Each-filter (λ e. is_allowed g e ≡ true) (is_on m) h a

abbrev pub IsLong : ℕ → Option (List ℕ) → Type 0
IsLong n None = ⊤
IsLong n (Some s) = length s ≡ n

pub long_narrowed : (n : ℕ) (s : Option (List ℕ)) (c : List ℕ) → length c ≡ n → IsLong n s → length (narrowed s c) ≡ n
long_narrowed n None c a l = a
long_narrowed n (Some s) c a l = length-meet s c (l ∙ sym a) ∙ l

long_fold : (g : Public) (s : Option (List ℕ)) (cs : List (List ℕ)) → AreLong g cs → IsLong (length g.dimensions) s → IsLong (length g.dimensions) (fold step s cs)
unfolding step
long_fold g s [] v l = l
long_fold g s (c ∷ cs) v l = long_fold g (Some (narrowed s c)) cs v.1 (long_narrowed (length g.dimensions) s c v.0 l)

-- a source has a level per dimension
pub long_source : (g : Public) (h : List Entry) (m : ℕ) → AreAllowed g h → IsLong (length g.dimensions) (source h m)
unfolding source step
long_source g h m v = long_fold g None (flat_map levels_in (on m h)) (long_brought g (on m h) (allowed_on g h m v)) tt

-- a later source is finer
finer_fold : (g : Public) (s : List ℕ) (cs : List (List ℕ)) → AreLong g cs → length s ≡ length g.dimensions → (c : List ℕ) × (fold step (Some s) cs ≡ Some c) × (is_finer c s ≡ true)
unfolding step
finer_fold g s [] v l = (s, refl, is_finer_refl s)
finer_fold g s (c ∷ cs) v l =
    let e : length s ≡ length c = l ∙ sym v.0 in
    let k = finer_fold g (meet s c) cs v.1 (length-meet s c e ∙ l) in
    (k.0, k.1, is_finer_trans k.0 (meet s c) s k.2 (meet_left s c e))

source-append : (h more : List Entry) (m : ℕ) → source (h ++ more) m ≡ fold step (source h m) (flat_map levels_in (on m more))
unfolding source step
source-append h more m =
    ap (λ es. fold step None (flat_map levels_in es)) (filter-append (is_on m) h more)
    ∙ ap (fold step None) (flat_map-append levels_in (on m h) (on m more))
    ∙ fold-append step None (flat_map levels_in (on m h)) (flat_map levels_in (on m more))

-- sources that are the same stay so behind the same entries
pub source_alike : (h k more : List Entry) (m : ℕ) → source k m ≡ source h m → source (k ++ more) m ≡ source (h ++ more) m
source_alike h k more m e = source-append k more m ∙ ap (λ o. fold step o (flat_map levels_in (on m more))) e ∙ sym (source-append h more m)

pub later_source : (g : Public) (h more : List Entry) (m : ℕ) (s : List ℕ) → AreAllowed g (h ++ more) → source h m ≡ Some s → (c : List ℕ) × (source (h ++ more) m ≡ Some c) × (is_finer c s ≡ true)
later_source g h more m s v e =
    let l : length s ≡ length g.dimensions = subst (IsLong (length g.dimensions)) e (long_source g h m (Each-append_left _ h more v)) in
    let k = finer_fold g s (flat_map levels_in (on m more)) (long_brought g (on m more) (allowed_on g more m (Each-append_right _ h more v))) l in
    (k.0, source-append h more m ∙ ap (λ o. fold step o (flat_map levels_in (on m more))) e ∙ k.1, k.2)

-- the source behind one more entry: narrowed by a request or a source on the measure, else the same
pub source-push : (h : List Entry) (r : Request) (m : ℕ) → asks m r ≡ true → source (h ++ Asked r ∷ []) m ≡ Some (narrowed (source h m) (grain r))
unfolding step
source-push h r m a = source-append h (Asked r ∷ []) m ∙ ap (λ b. fold step (source h m) (flat_map levels_in (cond b (Asked r ∷ []) []))) a

pub source-narrow : (h : List Entry) (m : ℕ) (c : List ℕ) → source (h ++ Source m c ∷ []) m ≡ Some (narrowed (source h m) c)
unfolding step
source-narrow h m c = source-append h (Source m c ∷ []) m ∙ ap (λ b. fold step (source h m) (flat_map levels_in (cond b (Source m c ∷ []) []))) (eq-eqb m m refl)

pub source-skip : (h : List Entry) (e : Entry) (m : ℕ) → is_on m e ≡ false → source (h ++ e ∷ []) m ≡ source h m
source-skip h e m a = source-append h (e ∷ []) m ∙ ap (λ b. fold step (source h m) (flat_map levels_in (cond b (e ∷ []) []))) a

pub source-link : (h : List Entry) (k m : ℕ) (l : Link) → source (h ++ Linked k l ∷ []) m ≡ source h m
source-link h k m l = source-append h (Linked k l ∷ []) m ∙ go (eqb k m)
  where
    go : (b : Bool) → fold step (source h m) (flat_map levels_in (cond b (Linked k l ∷ []) [])) ≡ source h m
    go true = refl
    go false = refl

-- the links behind further entries
pub links_of-append : (g : Public) (h k : List Entry) (m : ℕ) → links_of g (h ++ k) m ≡ links_of g h m ++ links_of g k m
unfolding links_of
links_of-append g h k m = ap (flat_map (links_in g)) (filter-append (is_on m) h k) ∙ flat_map-append (links_in g) (on m h) (on m k)

-- what is asked, where a measure is
asked : (m : ℕ) (what : What) → is_measure m what ≡ true → what ≡ Measure m
asked m Count a = absurd (false≢true a)
asked m (Measure k) a = ap Measure (eqb-true k m a)

pub verdict_on : (g : Public) (h : List Entry) (r : Request) (m : ℕ) (way : Method) → method g m ≡ way → asks m r ≡ true → verdict g h r ≡ judged way g h r m
unfolding verdict
verdict_on g h r m way e a = ap (λ what. judged_what what g h r) (asked m r.what a) ∙ ap (λ k. judged k g h r m) e

-- an answer on a lattice measure: the source holds the grain, or its meet with it cuts each protected cell
pub lattice_answer : (g : Public) (h : List Entry) (r : Request) (m : ℕ) (fresh : Bool) → judged Lattice g h r m ≡ Answer fresh → (holds_grain (source h m) (grain r) ≡ true) × (fresh ≡ false) ⊎ (uncut g (narrowed (source h m) (grain r)) m ≡ None) × (fresh ≡ true)
lattice_answer g h r m fresh e = go (holds_grain (source h m) (grain r)) (leb most_held (length (requests h))) (uncut g (narrowed (source h m) (grain r)) m) e
  where
    go : (a b : Bool) (o : Option Cell) → cond a (Answer false) (cond b (Full (length (requests h))) (unless_uncut (narrowed (source h m) (grain r)) o)) ≡ Answer fresh → (a ≡ true) × (fresh ≡ false) ⊎ (o ≡ None) × (fresh ≡ true)
    go true b o e = inl (refl, cc)
    go false true o e = absurd (cc)
    go false false None e = inr (refl, cc)
    go false false (Some t) e = absurd (cc)

-- the cuboid cuts each protected cell
abbrev pub CutsAll : Public → List ℕ → ℕ → Type 0
CutsAll g c m = (t : Cell) → IsIn t (protected g m) → is_cut g c t ≡ true

pub cuts_from_uncut : (g : Public) (c : List ℕ) (m : ℕ) → uncut g c m ≡ None → CutsAll g c m
cuts_from_uncut g c m e t k = not-false (is_cut g c t) (find_none (λ s. not (is_cut g c s)) t (protected g m) e k)

-- the source of an admissible history cuts each protected cell
abbrev SourceCuts : Public → Option (List ℕ) → ℕ → Type 0
SourceCuts g None m = ⊤
SourceCuts g (Some c) m = CutsAll g c m

-- a taken source cuts each protected cell
pub taken_source : (g : Public) (h : List Entry) (m : ℕ) (c : List ℕ) → taken g h (Source m c) ≡ Taken → (holds_grain (source h m) c ≡ false) × (uncut g (narrowed (source h m) c) m ≡ None)
unfolding taken
taken_source g h m c e = go (holds_grain (source h m) c) (uncut g (narrowed (source h m) c) m) e
  where
    go : (a : Bool) (o : Option Cell) → cond a Passed (cond (is_none o) Taken Refused) ≡ Taken → (a ≡ false) × (o ≡ None)
    go true o e = absurd (cc)
    go false None e = (refl, refl)
    go false (Some t) e = absurd (cc)

-- a taken request has a fresh answer
pub taken_request : (g : Public) (h : List Entry) (r : Request) → taken g h (Asked r) ≡ Taken → verdict g h r ≡ Answer true
unfolding taken
taken_request g h r e = go (verdict g h r) e
  where
    go : (v : Verdict) → taken_by v ≡ Taken → v ≡ Answer true
    go (Answer true) e = refl
    go (Answer false) e = absurd (cc)
    go (Full n) e = absurd (cc)
    go (SourceWould c t) e = absurd (cc)
    go (PairFixes k x y i) e = absurd (cc)
    go (SingleFixes k x i) e = absurd (cc)

source_cuts_from : (g : Public) (h es : List Entry) (m : ℕ) → method g m ≡ Lattice → AdmissibleFrom g h es → SourceCuts g (source h m) m → SourceCuts g (source (h ++ es) m) m
source_cuts_from g h [] m way a s = subst (λ k. SourceCuts g (source k m) m) (sym (append-nil h)) s
source_cuts_from g h (e ∷ es) m way a s =
    subst (λ k. SourceCuts g (source k m) m) (append_assoc h (e ∷ []) es)
    (source_cuts_from g (h ++ e ∷ []) es m way a.2 (tested (is_on m e) (on_it e a.1) off_it))
  where
    off_it : is_on m e ≡ false → SourceCuts g (source (h ++ e ∷ []) m) m
    off_it q = subst (λ o. SourceCuts g o m) (sym (source-skip h e m q)) s

    on_it : (e : Entry) → taken g h e ≡ Taken → is_on m e ≡ true → SourceCuts g (source (h ++ e ∷ []) m) m
    on_it (Asked r) t q = subst (λ o. SourceCuts g o m) (sym (source-push h r m q)) (cases (lattice_answer g h r m true (sym (verdict_on g h r m Lattice way q) ∙ taken_request g h r t)))
      where
        cases : (holds_grain (source h m) (grain r) ≡ true) × (true ≡ false) ⊎ (uncut g (narrowed (source h m) (grain r)) m ≡ None) × (true ≡ true) → CutsAll g (narrowed (source h m) (grain r)) m
        cases (inl p) = absurd (false≢true (sym p.1))
        cases (inr p) = cuts_from_uncut g (narrowed (source h m) (grain r)) m p.0
    on_it (Source k c) t q =
        let km : k ≡ m = eqb-true k m q in
        subst (λ n. SourceCuts g (source (h ++ Source n c ∷ []) m) m) (sym km)
        (subst (λ o. SourceCuts g o m) (sym (source-narrow h m c)) (cuts_from_uncut g (narrowed (source h m) c) m (taken_source g h m c (subst (λ n. taken g h (Source n c) ≡ Taken) km t)).1))
    on_it (Linked k l) t q = subst (λ o. SourceCuts g o m) (sym (source-link h k m l)) s

pub source_cuts : (g : Public) (h : List Entry) (m : ℕ) (c : List ℕ) → method g m ≡ Lattice → IsAdmissible g h → source h m ≡ Some c → CutsAll g c m
unfolding source
source_cuts g h m c way a e = subst (λ o. SourceCuts g o m) e (source_cuts_from g [] h m way a tt)

-- the source behind an answer is as fine as the grain
pub answered_source : (g : Public) (h : List Entry) (r : Request) (m : ℕ) (fresh : Bool) → method g m ≡ Lattice → is_valid g r ≡ true → AreAllowed g h → asks m r ≡ true → verdict g h r ≡ Answer fresh → (s : List ℕ) × (source (entered h r (Answer fresh)) m ≡ Some s) × (is_finer s (grain r) ≡ true)
answered_source g h r m fresh way valid all q e = cases (lattice_answer g h r m fresh (sym (verdict_on g h r m Lattice way q) ∙ e))
  where
    long : IsLong (length g.dimensions) (source h m)
    long = long_source g h m all

    kept : (o : Option (List ℕ)) → source h m ≡ o → IsLong (length g.dimensions) o → holds_grain o (grain r) ≡ true → (s : List ℕ) × (source h m ≡ Some s) × (is_finer s (grain r) ≡ true)
    kept None i l k = absurd (false≢true k)
    kept (Some s) i l k = (s, i, subst (λ x. is_finer x (grain r) ≡ true) (same_eq (meet s (grain r)) s k) (meet_right s (grain r) (l ∙ sym (length-grain g r valid))))

    finer : (o : Option (List ℕ)) → IsLong (length g.dimensions) o → is_finer (narrowed o (grain r)) (grain r) ≡ true
    finer None l = is_finer_refl (grain r)
    finer (Some s) l = meet_right s (grain r) (l ∙ sym (length-grain g r valid))

    cases : (holds_grain (source h m) (grain r) ≡ true) × (fresh ≡ false) ⊎ (uncut g (narrowed (source h m) (grain r)) m ≡ None) × (fresh ≡ true) → (s : List ℕ) × (source (entered h r (Answer fresh)) m ≡ Some s) × (is_finer s (grain r) ≡ true)
    cases (inl p) = subst (λ b. (s : List ℕ) × (source (entered h r (Answer b)) m ≡ Some s) × (is_finer s (grain r) ≡ true)) (sym p.1) (kept (source h m) refl long p.0)
    cases (inr p) = subst (λ b. (s : List ℕ) × (source (entered h r (Answer b)) m ≡ Some s) × (is_finer s (grain r) ≡ true)) (sym p.1) (narrowed (source h m) (grain r), source-push h r m q, finer (source h m) long)
