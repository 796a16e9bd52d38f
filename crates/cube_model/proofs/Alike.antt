-- Histories that hold the same.
use Rattle.std.specs.List.{list_all, list_any}
use Rattle.std.specs.Prelude.{◌-◌, ◌+◌, unwrap_or}
use Rattle.std.proofs.Common.{get_or, find, ◌≡◌, ℕ, ◌<◌, ◌≤◌, ◌↔◌, inl, inr, Bool, true, false, cond, List, [], ◌∷◌, ◌++◌, length, map, filter, take, is_none, is_some, ℤ, refl, sym, ap, ap₂, ◌∙◌, subst, arith, leb, ⊎_elim, length-append}
use Rattle.std.proofs.lemmas.Bool.{leb-false, lt-leb}
use Rattle.cube_model.specs.declared.cell.Cell.{Cell}
use Rattle.cube_model.specs.declared.entry.Entry.{Entry}
use Rattle.cube_model.specs.declared.entry.Entry.TheVariants.{Asked, Source, Linked}
use Rattle.cube_model.specs.declared.link.Link.{Link}
use Rattle.cube_model.specs.declared.link.Link.TheVariants.{Pair, Single}
use Rattle.cube_model.specs.declared.outcome.Outcome.{Outcome}
use Rattle.cube_model.specs.declared.outcome.Outcome.TheVariants.{Given, JournalFault, NoMemory}
use Rattle.cube_model.specs.declared.policy.Method.{Method}
use Rattle.cube_model.specs.declared.policy.Method.TheVariants.{Plain, Lattice, Parity}
use Rattle.cube_model.specs.declared.request.Request.{Request}
use Rattle.cube_model.specs.declared.request.What.{What}
use Rattle.cube_model.specs.declared.request.What.TheVariants.{Count, Measure}
use Rattle.cube_model.specs.declared.verdict.Verdict.{Verdict}
use Rattle.cube_model.specs.declared.verdict.Verdict.TheVariants.{Answer, Full, SourceWould, Pair as PairFixes, Single as SingleFixes}
use Rattle.cube_model.specs.Cubes.{Public, World, IsWorld, covered, places, count_from, IsIn}
use Rattle.cube_model.specs.Requests.{grain, is_valid}
use Rattle.cube_model.specs.Protection.{method, guarded, uncut, protected, protected_by, same_cell, first}
use Rattle.cube_model.specs.Links.{links, suits_link, suits, small_lists, suiting}
use Rattle.cube_model.specs.Entries.{requests}
use Rattle.cube_model.specs.Verdicts.{fixes, source, links_of, narrowed, holds_grain, most_held, fixed_by, unless_uncut, unless_stopped, judged, judged_what, verdict, IsAdmissible}
use Rattle.cube_model.specs.Twins.{by_walks, walks, change_under, changes}
use Rattle.cube_model.specs.Runs.{Question, Reply, told, entered, witnessed, replied, grown, reply_by, next_by, next, by_rules}
use Rattle.cube_model.specs.Runs.Question.{Query, Witness, Shape}
use Rattle.cube_model.specs.Runs.QueryReply.{Refused}
use Rattle.cube_model.specs.Runs.Reply.{Malformed, ToQuery, ToWitness}
use Rattle.cube_model.specs.Runs.WitnessReply.{EmptyCell, Changed, NotProtected}
use Rattle.cube_model.specs.Compaction.{HoldTheSame, AlikeRunAlike}
use Rattle.cube_model.specs.LinkLaws.{SuitsAll, IsOfPlaces}
use Rattle.cube_model.proofs.Growth.{cond_left}
use Rattle.cube_model.proofs.Histories.{AreAllowed, admissible_allowed, source_alike, links_of-append}
use Rattle.cube_model.proofs.LinkFacts.{suiting_is, same_changes}
use Rattle.cube_model.proofs.Members.{tested, IsIn-filter, filter_has, IsIn-append, append_left, append_right}
use Rattle.cube_model.proofs.Objects.{same_cell_eq}
use Rattle.cube_model.proofs.Parities.{IsOf, links_of_places, history_free, IsGuarded, parity_place, changes_walks}
use Rattle.cube_model.proofs.Sources.{place_below, changes_by}
use Rattle.cube_model.proofs.Twinned.{map_alike}
use Rattle.cube_model.proofs.Walks.{any_from}
use Rattle.cube_model.proofs.Worlds.{admissible_next}

-- links that the same lists suit
abbrev pub SuitAlike : ℕ → List Link → List Link → Type 0
SuitAlike n ls ks = (xs : List ℤ) → SuitsAll n ks xs ↔ SuitsAll n ls xs

more_alike : (n : ℕ) (ls ks more : List Link) → ((xs : List ℤ) → SuitsAll n ks xs → SuitsAll n ls xs) → (xs : List ℤ) → SuitsAll n (ks ++ more) xs → SuitsAll n (ls ++ more) xs
more_alike n ls ks more to xs s = record { long = s.long; small = s.small; all = λ l k. ⊎_elim (λ a. first_part.all l a) (λ a. s.all l (append_right l ks more a)) (IsIn-append l ls more k) }
  where
    first_part : SuitsAll n ls xs
    first_part = to xs (record { long = s.long; small = s.small; all = λ l k. s.all l (append_left l ks more k) })

pub with_more : (n : ℕ) (ls ks more : List Link) → SuitAlike n ls ks → SuitAlike n (ls ++ more) (ks ++ more)
with_more n ls ks more same xs = (more_alike n ls ks more (λ ys. (same ys).0) xs, more_alike n ks ls more (λ ys. (same ys).1) xs)

filter_alike : {X : Type 0} (p q : X → Bool) (xs : List X) → ((x : X) → IsIn x xs → p x ≡ q x) → filter p xs ≡ filter q xs
filter_alike p q [] h = refl
filter_alike p q (x ∷ xs) h = ap₂ (λ b ys. cond b (x ∷ ys) ys) (h x (inl refl)) (filter_alike p q xs (λ y k. h y (inr k)))

pub both_ways : (a b : Bool) → (a ≡ true → b ≡ true) → (b ≡ true → a ≡ true) → a ≡ b
both_ways true b f g = sym (f refl)
both_ways false true f g = g refl
both_ways false false f g = refl

-- the same lists suit both, so the lists of lists are equal
pub suiting_alike : (n : ℕ) (ls ks : List Link) → SuitAlike n ls ks → suiting n ks ≡ suiting n ls
unfolding suiting
suiting_alike n ls ks same = filter_alike (λ xs. suits xs ks) (λ xs. suits xs ls) (small_lists n) (λ xs k. both_ways (suits xs ks) (suits xs ls)
    (λ e. one_way ls ks xs k (λ s. (same xs).0 s) e)
    (λ e. one_way ks ls xs k (λ s. (same xs).1 s) e))
  where
    one_way : (as' bs : List Link) (xs : List ℤ) → IsIn xs (small_lists n) → (SuitsAll n bs xs → SuitsAll n as' xs) → suits xs bs ≡ true → suits xs as' ≡ true
    one_way as' bs xs k to e = (IsIn-filter (λ ys. suits ys as') xs (small_lists n) ((suiting_is n as' xs).1 (to ((suiting_is n bs xs).0 (filter_in bs xs k e))))).0
      where
        filter_in : (bs : List Link) (xs : List ℤ) → IsIn xs (small_lists n) → suits xs bs ≡ true → IsIn xs (suiting n bs)
        filter_in bs xs k e = filter_has (λ ys. suits ys bs) xs (small_lists n) e k

pub pointwise : {X Y : Type 0} {f g : X → Y} → ((x : X) → f x ≡ g x) → f ≡ g
pointwise h = λ i x. h x i

-- one verdict, unless the first history is full
module _ (g : Public) (h k : List Entry) (alike : HoldTheSame g h k) (fewer : length (requests k) ≤ length (requests h)) where
  room_alike : leb most_held (length (requests h)) ≡ false → leb most_held (length (requests k)) ≡ false
  room_alike e = let a : length (requests h) < most_held = leb-false most_held (length (requests h)) e in lt-leb most_held (length (requests k)) (omega arith)

  cases_alike : (a b c : Bool) (n j : ℕ) (v : Verdict) → (b ≡ false → c ≡ false) → ((held : ℕ) → cond a (Answer false) (cond b (Full n) v) ≡ Full held → ⊥) → cond a (Answer false) (cond c (Full j) v) ≡ cond a (Answer false) (cond b (Full n) v)
  cases_alike true b c n j v r f = refl
  cases_alike false true c n j v r f = absurd (f n refl)
  cases_alike false false c n j v r f = ap (λ x. cond x (Full j) v) (r refl)

  judged_alike : (way : Method) (r : Request) (m : ℕ) → method g m ≡ way → ((held : ℕ) → judged way g h r m ≡ Full held → ⊥) → judged way g k r m ≡ judged way g h r m
  judged_alike Plain r m way f = refl
  judged_alike Lattice r m way f =
      ap (λ o. cond (holds_grain o (grain r)) (Answer false) (cond (leb most_held (length (requests k))) (Full (length (requests k))) (unless_uncut (narrowed o (grain r)) (uncut g (narrowed o (grain r)) m)))) (alike.sources m way)
      ∙ cases_alike (holds_grain (source h m) (grain r)) (leb most_held (length (requests h))) (leb most_held (length (requests k))) (length (requests h)) (length (requests k)) (unless_uncut (narrowed (source h m) (grain r)) (uncut g (narrowed (source h m) (grain r)) m)) room_alike f
  judged_alike Parity r m way f =
      ap₂ (λ s u. by_lists s u (leb most_held (length (requests k))) (length (requests k))) (suiting_alike n (links_of g h m) (links_of g k m) (alike.links m way)) (pointwise (λ j. suiting_alike n (links_of g h m ++ take j (links g r)) (links_of g k m ++ take j (links g r)) (with_more n (links_of g h m) (links_of g k m) (take j (links g r)) (alike.links m way))))
      ∙ cases_alike _ (leb most_held (length (requests h))) (leb most_held (length (requests k))) (length (requests h)) (length (requests k)) _ room_alike f
    where
      n : ℕ
      n = length g.shape.points

      by_lists : List (List ℤ) → (ℕ → List (List ℤ)) → Bool → ℕ → Verdict
      by_lists s u full held = cond (list_all (λ l. list_all (λ xs. suits_link xs l) s) (links g r)) (Answer false) (cond full (Full held) (unless_stopped
          (λ j. fixes j (get_or (links g r) (j - 1) (Single 0)) (unwrap_or (fixed_by (u j) (guarded g m)) 0))
          (find (λ j. is_some (fixed_by (u j) (guarded g m))) (count_from 1 (length (links g r))))))

  verdict_what : (what : What) (r : Request) → ((held : ℕ) → judged_what what g h r ≡ Full held → ⊥) → judged_what what g k r ≡ judged_what what g h r
  verdict_what Count r f = refl
  verdict_what (Measure m) r f = judged_alike (method g m) r m refl f

  pub verdict_alike : (r : Request) → ((held : ℕ) → verdict g h r ≡ Full held → ⊥) → verdict g k r ≡ verdict g h r
  unfolding verdict
  verdict_alike r f = verdict_what r.what r f

-- one list of changes
pub of_places_to : (n : ℕ) (l : Link) → IsOf (λ i. i < n) l → IsOfPlaces n l
of_places_to n (Pair i j) h = h
of_places_to n (Single i) h = h

pub changes_alike : (w : World) (h k : List Entry) (m : ℕ) (t : Cell) → IsWorld w → IsAdmissible w.shown h → AreAllowed w.shown k → HoldTheSame w.shown h k → IsIn t (protected w.shown m) → changes w.shown k m t ≡ changes w.shown h m t
unfolding protected
changes_alike w h k m t ok adm all alike is_in = go (method w.shown m) refl
  where
    go : (way : Method) → method w.shown m ≡ way → changes w.shown k m t ≡ changes w.shown h m t
    go Plain e = absurd (subst (λ x. IsIn t (protected_by x w.shown m)) e is_in)
    go Lattice e = changes_by w.shown k m t e ∙ ap (λ o. map (change_under o w.shown t) (places w.shown)) (alike.sources m e) ∙ sym (changes_by w.shown h m t e)
    go Parity e = changes_walks w.shown k m t i e here.alone.is_first ∙ map_alike _ _ (places w.shown) one ∙ sym (changes_walks w.shown h m t i e here.alone.is_first)
      where
        here : IsGuarded w.shown m t
        here = parity_place w m t ok e is_in

        i : ℕ
        i = here.alone.place

        one : (p : ℕ) → IsIn p (places w.shown) → by_walks (walks w.shown k m i) p ≡ by_walks (walks w.shown h m i) p
        one p q = sym (same_changes (length w.shown.shape.points) (links_of w.shown h m) (links_of w.shown k m) i p
            (λ l z. of_places_to (length w.shown.shape.points) l (links_of_places w.shown h m l (admissible_allowed w.shown [] h adm) z))
            (λ l z. of_places_to (length w.shown.shape.points) l (links_of_places w.shown k m l all z))
            here.alone.below (place_below w.shown p q) (λ xs. ((alike.links m e xs).1, (alike.links m e xs).0))
            (history_free w.shown h m e adm i here.guards))

-- one more request behind both
push_alike : (g : Public) (h k more : List Entry) → HoldTheSame g h k → HoldTheSame g (h ++ more) (k ++ more)
push_alike g h k more alike = record {
  sources = λ m way. source_alike h k more m (alike.sources m way);
  links = λ m way. subst (λ x. SuitAlike (length g.shape.points) x (links_of g (k ++ more) m)) (sym (links_of-append g h more m)) (subst (λ x. SuitAlike (length g.shape.points) (links_of g h m ++ links_of g more m) x) (sym (links_of-append g k more m)) (with_more (length g.shape.points) (links_of g h m) (links_of g k m) (links_of g more m) (alike.links m way)));
}

pub requests-append : (h k : List Entry) → requests (h ++ k) ≡ requests h ++ requests k
requests-append [] k = refl
requests-append (Asked r ∷ h) k = ap (λ x. r ∷ x) (requests-append h k)
requests-append (Source m c ∷ h) k = requests-append h k
requests-append (Linked m l ∷ h) k = requests-append h k

-- what each step of a run keeps
abbrev KeepsAlike : Public → List Entry → List Entry → Type 0
KeepsAlike g h k = HoldTheSame g h k × (length (requests k) ≤ length (requests h))

entered_alike : (g : Public) (h k : List Entry) (r : Request) (v : Verdict) → KeepsAlike g h k → KeepsAlike g (entered h r v) (entered k r v)
entered_alike g h k r (Answer true) p = (push_alike g h k (Asked r ∷ []) p.0, more (length (requests h)) (length (requests k)) p.1 (ap length (requests-append h (Asked r ∷ [])) ∙ length-append (requests h) (r ∷ [])) (ap length (requests-append k (Asked r ∷ [])) ∙ length-append (requests k) (r ∷ [])))
  where
    more : (a b : ℕ) {c d : ℕ} → b ≤ a → c ≡ a + 1 → d ≡ b + 1 → d ≤ c
    more a b l p q = omega arith
entered_alike g h k r (Answer false) p = p
entered_alike g h k r (Full n) p = p
entered_alike g h k r (SourceWould c t) p = p
entered_alike g h k r (PairFixes j x y i) p = p
entered_alike g h k r (SingleFixes j x i) p = p

-- the reply doesn't say that the history is full
abbrev IsNotFull : Reply → Type 0
IsNotFull x = (held : ℕ) → x ≡ ToQuery (Refused (Full held)) → ⊥

module _ (w : World) (h k : List Entry) (ok : IsWorld w) (adm : IsAdmissible w.shown h) (also : IsAdmissible w.shown k) (alike : HoldTheSame w.shown h k) (fewer : length (requests k) ≤ length (requests h)) where
  one_verdict : (r : Request) → is_valid w.shown r ≡ true → IsNotFull (replied (Query r) w h) → verdict w.shown k r ≡ verdict w.shown h r
  one_verdict r valid f = verdict_alike w.shown h k alike fewer r (λ held e. f held (ap (λ b. cond b (ToQuery (told w r (verdict w.shown h r))) Malformed) valid ∙ ap (λ v. ToQuery (told w r v)) e))

  is_protected : (m : ℕ) (t : Cell) → list_any (same_cell t) (protected w.shown m) ≡ true → IsIn t (protected w.shown m)
  is_protected m t e = let a = any_from (same_cell t) (protected w.shown m) e in subst (λ s. IsIn s (protected w.shown m)) (sym (same_cell_eq t a.0 a.2)) a.1

  witnessed_alike : (what : What) (t : Cell) → witnessed w.shown k what t ≡ witnessed w.shown h what t
  witnessed_alike Count t = refl
  witnessed_alike (Measure m) t = ap (λ x. cond (is_none (first (covered w.shown t))) EmptyCell x)
      (cond_left (list_any (same_cell t) (protected w.shown m)) (Changed (changes w.shown k m t)) (Changed (changes w.shown h m t)) NotProtected (λ e. ap Changed (changes_alike w h k m t ok adm (admissible_allowed w.shown [] k also) alike (is_protected m t e))))

  replied_alike : (q : Question) → IsNotFull (replied q w h) → replied q w k ≡ replied q w h
  replied_alike (Query r) f = cond_left (is_valid w.shown r) (ToQuery (told w r (verdict w.shown k r))) (ToQuery (told w r (verdict w.shown h r))) Malformed (λ valid. ap (λ v. ToQuery (told w r v)) (one_verdict r valid f))
  replied_alike (Witness what t) f = ap ToWitness (witnessed_alike what t)
  replied_alike Shape f = refl

  reply_alike : (o : Outcome) (q : Question) → IsNotFull (reply_by by_rules o q w h) → reply_by by_rules o q w k ≡ reply_by by_rules o q w h
  reply_alike Given q f = replied_alike q f
  reply_alike JournalFault q f = refl
  reply_alike NoMemory q f = refl

  grown_alike : (q : Question) → IsNotFull (replied q w h) → KeepsAlike w.shown (grown q w.shown h) (grown q w.shown k)
  grown_alike (Query r) f = tested (is_valid w.shown r)
      (λ valid. subst (λ b. KeepsAlike w.shown (cond b (entered h r (verdict w.shown h r)) h) (cond b (entered k r (verdict w.shown k r)) k)) (sym valid)
      (subst (λ v. KeepsAlike w.shown (entered h r (verdict w.shown h r)) (entered k r v)) (sym (one_verdict r valid f)) (entered_alike w.shown h k r (verdict w.shown h r) (alike, fewer))))
      (λ not_valid. subst (λ b. KeepsAlike w.shown (cond b (entered h r (verdict w.shown h r)) h) (cond b (entered k r (verdict w.shown k r)) k)) (sym not_valid) (alike, fewer))
  grown_alike (Witness what t) f = (alike, fewer)
  grown_alike Shape f = (alike, fewer)

  next_alike : (o : Outcome) (q : Question) → IsNotFull (reply_by by_rules o q w h) → KeepsAlike w.shown (next_by by_rules o q w.shown h) (next_by by_rules o q w.shown k)
  next_alike Given q f = grown_alike q f
  next_alike JournalFault q f = (alike, fewer)
  next_alike NoMemory q f = (alike, fewer)

pub alike_run_alike : AlikeRunAlike
alike_run_alike w h k [] ok adm also alike fewer none = record { same_replies = refl; alike_at_end = alike }
alike_run_alike w h k (a ∷ rest) ok adm also alike fewer none =
    let kept = next_alike w h k ok adm also alike fewer a.outcome a.question none.0 in
    let later = alike_run_alike w (next by_rules w.shown h a) (next by_rules w.shown k a) rest ok (admissible_next w.shown h a.question a.outcome adm) (admissible_next w.shown k a.question a.outcome also) kept.0 kept.1 none.1 in
    record {
      same_replies = ap₂ (λ x xs. x ∷ xs) (reply_alike w h k ok adm also alike fewer a.outcome a.question none.0) later.same_replies;
      alike_at_end = later.alike_at_end;
    }
