-- What a verdict names is there.
use Rattle.std.specs.List.{list_all}
use Rattle.std.proofs.Common.{◌≡◌, refl, sym, ap, ◌∙◌, subst, inl, inr, ℕ, suc, ◌-◌, zero, ◌<◌, Bool, true, false, cond, not, List, [], ◌∷◌, ◌++◌, length, take, find, get_or, nat_lt, arith, Option, Some, None, is_some, unwrap_or, leb, Result, Ok, Err, IfOk, OnOk}
use Rattle.cube_model.specs.declared.cell.Cell.{Cell}
use Rattle.cube_model.specs.declared.entry.Entry.{Entry}
use Rattle.cube_model.specs.declared.link.Link.{Link}
use Rattle.cube_model.specs.declared.link.Link.TheVariants.{Pair as PairOf, Single as SingleOf}
use Rattle.cube_model.specs.declared.policy.Method.{Method}
use Rattle.cube_model.specs.declared.policy.Method.TheVariants.{Plain, Lattice, Parity}
use Rattle.cube_model.specs.declared.policy.Policy.{Policy}
use Rattle.cube_model.specs.declared.request.Request.{Request}
use Rattle.cube_model.specs.declared.request.What.{What}
use Rattle.cube_model.specs.declared.request.What.TheVariants.{Count, Measure}
use Rattle.cube_model.specs.declared.verdict.Verdict.{Verdict}
use Rattle.cube_model.specs.declared.verdict.Verdict.TheVariants.{Answer, Full, SourceWould, Pair, Single}
use Rattle.cube_model.specs.Cores.{Core, IsCore, shown, world}
use Rattle.cube_model.specs.Cubes.{Public, World, Each, IsIn, are_levels, key_at}
use Rattle.cube_model.specs.Dims.{Dims, plains}
use Rattle.cube_model.specs.Links.{links, suiting, has_plus, follows}
use Rattle.cube_model.specs.Policies.{IsPolicy, IsObject}
use Rattle.cube_model.specs.Protection.{method, protected, uncut, guarded, is_cut, is_guarded, objects_of}
use Rattle.cube_model.specs.Requests.{grain, answer, is_valid, is_there as is_there_in}
use Rattle.cube_model.specs.Runs.{told, entered}
use Rattle.cube_model.specs.declared.reply.Kind.TheVariants.{Plain as PlainText, Csv}
use Rattle.cube_model.specs.declared.reply.Reply.TheVariants.{Made}
use Rattle.cube_query.specs.Canonical.{is_request, is_there}
use Rattle.std.proofs.lemmas.Bool.{false≢true}
use Rattle.cube_model.specs.Entries.{requests}
use Rattle.cube_model.specs.Verdicts.{source, narrowed, links_of, holds_grain, most_held, fixed_by, first_stop, unless_uncut, fixes, stopped_at, unless_stopped, judged, judged_what, verdict, IsAdmissible}
use Rattle.std.proofs.lemmas.List.{length-map}
use Rattle.cube_model.proofs.Histories.{AreAllowed, admissible_allowed, length-grain, length-levels, long_source, long_narrowed}
use Rattle.cube_model.proofs.Leasts.{finds_least}
use Rattle.cube_model.proofs.Members.{same_eq, IsIn-filter, IsIn-count_from, count_from_has}
use Rattle.cube_model.proofs.Objects.{protected_are}
use Rattle.cube_model.proofs.Parities.{IsOf, links_places}
use Rattle.cube_model.proofs.Ranks.{finer_levels}
use Rattle.cube_text.specs.Keys.{KeyFits}
use Rattle.cube_answers.specs.AnswerText.{answer_text}
use Rattle.cube_engine.specs.Books.{is_answer}
use Rattle.cube_engine.specs.Steps.{in_words, reply_where_read, history_where_read}
use Rattle.cube_query.specs.declared.fault.RequestFault.{RequestFault}
use Rattle.cube_answers.specs.VerdictText.{verdict_text, CellFits, IsVerdict}
use Rattle.cube_answers.proofs.Keys.{key_there, point_at}

-- what is found is in the list
found : {X : Type 0} (p : X → Bool) (xs : List X) (x : X) → find p xs ≡ Some x → IsIn x xs
found p [] x e = absurd (cc)
found p (y ∷ ys) x e = go (p y) (found p ys x) e
  where
    go : (b : Bool) → (find p ys ≡ Some x → IsIn x ys) → cond b (Some y) (find p ys) ≡ Some x → IsIn x (y ∷ ys)
    go true again e = inl (cc)
    go false again e = inr (again e)

at_place : {X : Type 0} (P : X → Type 0) (xs : List X) → ((x : X) → IsIn x xs → P x) → (k : ℕ) (d : X) → k < length xs → P (get_or xs k d)
at_place P [] h k d l = absurd (omega (arith, l))
at_place P (x ∷ xs) h zero d l = h x (inl refl)
at_place P (x ∷ xs) h (suc k) d l = at_place P xs (λ y i. h y (inr i)) k d (omega (arith, l))

object_in : {X : Type 0} (P : X → Type 0) (x : X) (xs : List X) → Each P xs → IsIn x xs → P x
object_in P x [] e h = absurd h
object_in P x (y ∷ ys) e (inl yx) = subst P yx e.0
object_in P x (y ∷ ys) e (inr k) = object_in P x ys e.1 k

-- ---- the cell of a lattice measure

cell_fits : (c : Core) (p : Policy) (m : ℕ) (t : Cell) → IsCore c → IsPolicy c.dims p → method (shown c p) m ≡ Lattice → IsIn t (protected (shown c p) m) → CellFits c.dims t
unfolding key_at
cell_fits c p m t ok policy way within =
    let it = (protected_are (shown c p) m t way).0 within in
    let rules : IsObject c.dims p it.0 = object_in (IsObject c.dims p) it.0 p.objects policy.objects it.1 in
    let levels : are_levels (plains c.dims) t.levels ≡ true = finer_levels (plains c.dims) t.levels it.0.levels it.3 rules.levels in
    let long : length t.levels ≡ length c.dims.dimensions = length-levels (plains c.dims) t.levels levels ∙ simp length-map in
    let place = point_at c p it.5 ok (count_from_has it.5 0 (length c.shape.points) (omega arith) (let below = it.6 in omega (arith, below))) in
    let there = key_there c.dims t.levels _ ok.dims long place in
    let key : key_at (shown c p) t.levels it.5 ≡ t.key = same_eq (key_at (shown c p) t.levels it.5) t.key it.8 in
    record { levels = long; key = ap length (sym key) ∙ there.0; there = subst (KeyFits c.dims t.levels) key there.1 }

-- ---- the verdict

source_named : (c : Core) (p : Policy) (h : List Entry) (r : Request) (m : ℕ) → IsCore c → IsPolicy c.dims p → is_valid (shown c p) r ≡ true → AreAllowed (shown c p) h → method (shown c p) m ≡ Lattice → IsVerdict c (judged Lattice (shown c p) h r m)
source_named c p h r m ok policy valid allowed way = go (holds_grain (source h m) (grain r)) (leb most_held (length (requests h))) (uncut (shown c p) (narrowed (source h m) (grain r)) m) refl
  where
    grain_long : length (grain r) ≡ length (plains c.dims)
    grain_long = length-grain (shown c p) r valid

    go : (a b : Bool) (o : Option Cell) → uncut (shown c p) (narrowed (source h m) (grain r)) m ≡ o → IsVerdict c (cond a (Answer false) (cond b (Full (length (requests h))) (unless_uncut (narrowed (source h m) (grain r)) o)))
    go true b o e = tt
    go false true o e = tt
    go false false None e = tt
    go false false (Some t) e = (
      long_narrowed (length (plains c.dims)) (source h m) (grain r) grain_long (long_source (shown c p) h m allowed) ∙ simp length-map,
      cell_fits c p m t ok policy way (found (λ t. not (is_cut (shown c p) (narrowed (source h m) (grain r)) t)) (protected (shown c p) m) t e),
    )

guard_below : (g : Public) (m i : ℕ) → IsIn i (guarded g m) → i < length g.shape.points
guard_below g m i h = let b = (IsIn-count_from i 0 (length g.shape.points) (IsIn-filter (is_guarded g (objects_of g m)) i _ h).1).1 in omega (arith, b)

links_named : (c : Core) (p : Policy) (h : List Entry) (r : Request) (m : ℕ) → IsVerdict c (judged Parity (shown c p) h r m)
links_named c p h r m = go (list_all (follows n kept) others) (leb most_held (length (requests h))) (first_stop n guards kept others) refl
  where
    n : ℕ
    n = length c.shape.points

    kept : List Link
    kept = links_of (shown c p) h m

    others : List Link
    others = links (shown c p) r

    guards : List ℕ
    guards = guarded (shown c p) m

    by_link : (k : ℕ) (l : Link) (t : ℕ) → IsOf (λ i. i < n) l → t < n → IsVerdict c (fixes k l t)
    by_link k (PairOf i j) t of l = (of.0, of.1, l)
    by_link k (SingleOf i) t of l = (of, l)

    guard : (k i : ℕ) → fixed_by (suiting n (kept ++ take k others)) guards ≡ Some i → i < n
    guard k i e = guard_below (shown c p) m i (found (λ j. not (has_plus (suiting n (kept ++ take k others)) j)) guards i e)

    fixed : (k : ℕ) (o : Option ℕ) → fixed_by (suiting n (kept ++ take k others)) guards ≡ o → is_some o ≡ true → unwrap_or o 0 < n
    fixed k None e s = absurd (false≢true s)
    fixed k (Some i) e s = guard k i e

    go : (a b : Bool) (o : Option ℕ) → first_stop n guards kept others ≡ o → IsVerdict c (cond a (Answer false) (cond b (Full (length (requests h))) (unless_stopped (stopped_at n guards kept others) o)))
    go true b o e = tt
    go false true o e = tt
    go false false None e = tt
    go false false (Some k) e =
        let least = finds_least (λ j. is_some (fixed_by (suiting n (kept ++ take j others)) guards)) 1 (length others) k e in
        let from = least.from in
        let below = least.below in
        let there : k - 1 < length others = omega (arith, from, below) in
        by_link k (get_or others (k - 1) (SingleOf 0)) (unwrap_or (fixed_by (suiting n (kept ++ take k others)) guards) 0)
        (at_place (IsOf (λ i. i < n)) others (links_places (shown c p) r) (k - 1) (SingleOf 0) there)
        (fixed k (fixed_by (suiting n (kept ++ take k others)) guards) refl least.passes)

-- what the verdict on a valid request names is there
pub verdict_named : (c : Core) (p : Policy) (h : List Entry) (r : Request) → IsCore c → IsPolicy c.dims p → is_valid (shown c p) r ≡ true → IsAdmissible (shown c p) h → IsVerdict c (verdict (shown c p) h r)
unfolding verdict
verdict_named c p h r ok policy valid admissible = on r.what
  where
    by : (m : ℕ) (way : Method) → method (shown c p) m ≡ way → IsVerdict c (judged way (shown c p) h r m)
    by m Plain e = tt
    by m Lattice e = source_named c p h r m ok policy valid (admissible_allowed (shown c p) [] h admissible) e
    by m Parity e = links_named c p h r m

    on : (what : What) → IsVerdict c (judged_what what (shown c p) h r)
    on Count = tt
    on (Measure m) = by m (method (shown c p) m) refl

-- ---- replies by verdicts

-- a refusal in words
pub refused_words : (s : Dims) (w : World) (r : Request) (v : Verdict) → is_answer v ≡ false → in_words s w.shown r (told w r v) ≡ Made 403 PlainText (verdict_text s w.shown v)
refused_words s w r (Answer fresh) e = absurd (false≢true (sym e))
refused_words s w r (Full n) e = refl
refused_words s w r (SourceWould c t) e = refl
refused_words s w r (Pair k i j t) e = refl
refused_words s w r (Single k i t) e = refl

-- an answer in words
pub answered_words : (s : Dims) (w : World) (r : Request) (v : Verdict) → is_answer v ≡ true → in_words s w.shown r (told w r v) ≡ Made 200 Csv (answer_text s r (answer w r))
answered_words s w r (Answer fresh) e = refl
answered_words s w r (Full n) e = absurd (false≢true e)
answered_words s w r (SourceWould c t) e = absurd (false≢true e)
answered_words s w r (Pair k i j t) e = absurd (false≢true e)
answered_words s w r (Single k i t) e = absurd (false≢true e)

-- a request that is read is valid under a policy
pub valid_under : (c : Core) (p : Policy) (r : Request) → IsPolicy c.dims p → is_request c.dims r ≡ true → is_valid (shown c p) r ≡ true
unfolding is_request is_valid
valid_under c p r policy valid = rw (there r.what) valid
  where
    there : (what : What) → is_there_in (shown c p) what ≡ is_there c.dims what
    there Count = refl
    there (Measure m) = ap (nat_lt m) policy.methods

-- the reply to a request that was read, and the history behind it
pub read_reply : (c : Core) (p : Policy) (h : List Entry) (r : Request) (asked : Result Request RequestFault) → asked ≡ Ok r → in_words c.dims (shown c p) r (told (world c p) r (verdict (shown c p) h r)) ≡ reply_where_read c.dims (world c p) h asked
read_reply c p h r asked read = rw read refl

pub read_history : (c : Core) (p : Policy) (h : List Entry) (r : Request) (asked : Result Request RequestFault) → asked ≡ Ok r → is_valid (shown c p) r ≡ true → entered h r (verdict (shown c p) h r) ≡ history_where_read (shown c p) h asked
read_history c p h r asked read valid = rw (read, valid) refl

-- what follows of each value
pub ok_map : {T E : Type 0} (P Q : T → Type 0) (r : Result T E) → ((x : T) → P x → Q x) → IfOk r P → IfOk r Q
ok_map P Q (Ok x) f h = f x h
ok_map P Q (Err e) f h = tt

pub on_ok_map : {T E : Type 0} (P Q : Type 0) (r : Result T E) → (P → Q) → OnOk r P → OnOk r Q
on_ok_map P Q (Ok x) f h = f h
on_ok_map P Q (Err e) f h = tt
