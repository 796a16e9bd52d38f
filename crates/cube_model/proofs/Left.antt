-- What the entries of a log leave.
use Rattle.std.specs.List.{list_all}
use Rattle.std.proofs.Common.{◌≡◌, ◌↔◌, ℕ, suc, Bool, true, false, cond, not, List, [], ◌∷◌, ◌++◌, length, Option, Some, None, is_none, ℤ, refl, sym, ap, ap₂, ◌∙◌, subst, append_assoc, append-nil, ⊎_elim}
use Rattle.std.proofs.lemmas.Bool.{false≢true, and_from, eqb-true}
use Rattle.cube_model.specs.declared.cell.Cell.{Cell}
use Rattle.cube_model.specs.declared.entry.Entry.{Entry}
use Rattle.cube_model.specs.declared.entry.Entry.TheVariants.{Asked, Source, Linked}
use Rattle.cube_model.specs.declared.entry.Taken.{Taken as Taking}
use Rattle.cube_model.specs.declared.entry.Taken.TheVariants.{Taken, Passed, Refused}
use Rattle.cube_model.specs.declared.link.Link.{Link}
use Rattle.cube_model.specs.declared.policy.Method.TheVariants.{Lattice, Parity}
use Rattle.cube_model.specs.declared.request.Request.{Request}
use Rattle.cube_model.specs.declared.verdict.Verdict.{Verdict}
use Rattle.cube_model.specs.declared.verdict.Verdict.TheVariants.{Answer, Full, SourceWould, Pair as PairFixes, Single as SingleFixes}
use Rattle.cube_model.specs.Cubes.{Public, meet, Each}
use Rattle.cube_model.specs.Requests.{grain, asks}
use Rattle.cube_model.specs.Protection.{method, protected, guarded, is_cut, uncut}
use Rattle.cube_model.specs.Links.{links, follows, suiting, has_plus}
use Rattle.cube_model.specs.Entries.{is_on, is_allowed}
use Rattle.cube_model.specs.Verdicts.{source, links_of, narrowed, holds_grain, fixed_by, verdict, taken_by, taken, AdmissibleFrom, IsAdmissible}
use Rattle.cube_model.specs.Logs.{is_refused, is_taken, left, LeftIsAdmissible, AdmissibleIsLeft, EntriesAreTaken, PassedBringsNothing}
use Rattle.cube_model.specs.Logs.Left.{Leaves, Stops}
use Rattle.cube_model.specs.LinkLaws.{SuitsAll}
use Rattle.cube_model.proofs.Histories.{taken_request, taken_source, cuts_from_uncut, source-push, source-narrow, source-skip, source-link, links_of-append, lattice_answer, verdict_on}
use Rattle.cube_model.proofs.Leasts.{fails}
use Rattle.cube_model.proofs.LinkFacts.{follows_is}
use Rattle.cube_model.proofs.Members.{tested, IsIn-append, append_left, same_eq}
use Rattle.cube_model.proofs.Parities.{all_at, taken_link, parity_answer, links_of-one, links_of-none}
use Rattle.cube_model.proofs.Worlds.{admissible_push}

admissible_left : (g : Public) (before es h : List Entry) (n : ℕ) → IsAdmissible g before → Each (λ e. is_allowed g e ≡ true) es → left g before n es ≡ Leaves h → IsAdmissible g h
admissible_left g before [] h n a all e = subst (IsAdmissible g) (cc) a
admissible_left g before (x ∷ es) h n a all e = go (taken g before x) refl e (λ k b z. admissible_left g k es h (suc n) b all.1 z)
  where
    go : (t : Taking) → taken g before x ≡ t → cond (is_refused t) (Stops n) (left g (cond (is_taken t) (before ++ x ∷ []) before) (suc n) es) ≡ Leaves h → ((k : List Entry) → IsAdmissible g k → left g k (suc n) es ≡ Leaves h → IsAdmissible g h) → IsAdmissible g h
    go Taken q z again = again (before ++ x ∷ []) (admissible_push g [] before x a all.0 q) z
    go Passed q z again = again before a z
    go Refused q z again = absurd (cc)

pub left_is_admissible : LeftIsAdmissible
left_is_admissible g es h n all e = admissible_left g [] es h n tt all e

left_from : (g : Public) (before es : List Entry) (n : ℕ) → AdmissibleFrom g before es → left g before n es ≡ Leaves (before ++ es)
left_from g before [] n a = ap Leaves (sym (append-nil before))
left_from g before (x ∷ es) n a =
    ap (λ t. cond (is_refused t) (Stops n) (left g (cond (is_taken t) (before ++ x ∷ []) before) (suc n) es)) a.1
    ∙ left_from g (before ++ x ∷ []) es (suc n) a.2
    ∙ ap Leaves (append_assoc before (x ∷ []) es)

pub admissible_is_left : AdmissibleIsLeft
admissible_is_left g h n a = left_from g [] h n a

-- ---- when an entry is taken
source_from : (g : Public) (h : List Entry) (m : ℕ) (c : List ℕ) → holds_grain (source h m) c ≡ false → uncut g (narrowed (source h m) c) m ≡ None → taken g h (Source m c) ≡ Taken
unfolding taken
source_from g h m c a b = ap₂ (λ x o. cond x Passed (cond (is_none o) Taken Refused)) a b

link_from : (g : Public) (h : List Entry) (m : ℕ) (l : Link) → follows (length g.shape.points) (links_of g h m) l ≡ false → fixed_by (suiting (length g.shape.points) (links_of g h m ++ l ∷ [])) (guarded g m) ≡ None → taken g h (Linked m l) ≡ Taken
unfolding taken
link_from g h m l a b = ap₂ (λ x o. cond x Passed (cond (is_none o) Taken Refused)) a b

request_from : (g : Public) (h : List Entry) (r : Request) → verdict g h r ≡ Answer true → taken g h (Asked r) ≡ Taken
unfolding taken
request_from g h r e = ap taken_by e

pub entries_are_taken : EntriesAreTaken
entries_are_taken g h = record {
  request = λ r. ((λ e. taken_request g h r e), (λ e. request_from g h r e));
  source = λ m c. ((λ e. (let a = taken_source g h m c e in (a.0, cuts_from_uncut g (narrowed (source h m) c) m a.1))), (λ a. source_from g h m c a.0 (fails (λ t. not (is_cut g (narrowed (source h m) c) t)) (protected g m) (λ t k. ap not (a.1 t k)))));
  link = λ m l. ((λ e. taken_link g h m l e), (λ a. link_from g h m l a.0 (fails (λ i. not (has_plus (suiting (length g.shape.points) (links_of g h m ++ l ∷ [])) i)) (guarded g m) (λ i k. ap not (a.1 i k)))));
}

-- ---- an entry that is passed over
passed_request : (g : Public) (h : List Entry) (r : Request) → taken g h (Asked r) ≡ Passed → verdict g h r ≡ Answer false
unfolding taken
passed_request g h r e = go (verdict g h r) e
  where
    go : (v : Verdict) → taken_by v ≡ Passed → v ≡ Answer false
    go (Answer true) e = absurd (cc)
    go (Answer false) e = refl
    go (Full n) e = absurd (cc)
    go (SourceWould c t) e = absurd (cc)
    go (PairFixes k x y i) e = absurd (cc)
    go (SingleFixes k x i) e = absurd (cc)

passed_source : (g : Public) (h : List Entry) (m : ℕ) (c : List ℕ) → taken g h (Source m c) ≡ Passed → holds_grain (source h m) c ≡ true
unfolding taken
passed_source g h m c e = go (holds_grain (source h m) c) (uncut g (narrowed (source h m) c) m) e
  where
    go : (a : Bool) (o : Option Cell) → cond a Passed (cond (is_none o) Taken Refused) ≡ Passed → a ≡ true
    go true o e = refl
    go false None e = absurd (cc)
    go false (Some t) e = absurd (cc)

passed_link : (g : Public) (h : List Entry) (m : ℕ) (l : Link) → taken g h (Linked m l) ≡ Passed → follows (length g.shape.points) (links_of g h m) l ≡ true
unfolding taken
passed_link g h m l e = go (follows (length g.shape.points) (links_of g h m) l) (fixed_by (suiting (length g.shape.points) (links_of g h m ++ l ∷ [])) (guarded g m)) e
  where
    go : (a : Bool) (o : Option ℕ) → cond a Passed (cond (is_none o) Taken Refused) ≡ Passed → a ≡ true
    go true o e = refl
    go false None e = absurd (cc)
    go false (Some t) e = absurd (cc)

held_stays : (o : Option (List ℕ)) (c : List ℕ) → holds_grain o c ≡ true → Some (narrowed o c) ≡ o
held_stays None c e = absurd (false≢true e)
held_stays (Some s) c e = ap Some (same_eq (meet s c) s e)

-- links that follow change nothing
followed_alike : (n : ℕ) (ls ks : List Link) → list_all (follows n ls) ks ≡ true → (xs : List ℤ) → SuitsAll n (ls ++ ks) xs ↔ SuitsAll n ls xs
followed_alike n ls ks f xs = (
  (λ s. record { long = s.long; small = s.small; all = λ l k. s.all l (append_left l ls ks k) }),
  (λ s. record { long = s.long; small = s.small; all = λ l k. ⊎_elim (λ a. s.all l a) (λ a. (follows_is n ls l).0 (all_at (follows n ls) l ks f a) xs s) (IsIn-append l ls ks k) }),
)

-- links behind an entry
behind : (g : Public) (h : List Entry) (e : Entry) (m : ℕ) (ks : List Link) → links_of g (e ∷ []) m ≡ ks → list_all (follows (length g.shape.points) (links_of g h m)) ks ≡ true → (xs : List ℤ) → SuitsAll (length g.shape.points) (links_of g (h ++ e ∷ []) m) xs ↔ SuitsAll (length g.shape.points) (links_of g h m) xs
behind g h e m ks q f xs = subst (λ ls. SuitsAll (length g.shape.points) ls xs ↔ SuitsAll (length g.shape.points) (links_of g h m) xs) (sym (links_of-append g h (e ∷ []) m ∙ ap (λ x. links_of g h m ++ x) q)) (followed_alike (length g.shape.points) (links_of g h m) ks f xs)

answer_held : (g : Public) (h : List Entry) (r : Request) (m : ℕ) → method g m ≡ Lattice → asks m r ≡ true → verdict g h r ≡ Answer false → holds_grain (source h m) (grain r) ≡ true
answer_held g h r m way q e = ⊎_elim (λ p. p.0) (λ p. absurd (false≢true p.1)) (lattice_answer g h r m false (sym (verdict_on g h r m Lattice way q) ∙ e))

answer_follows : (g : Public) (h : List Entry) (r : Request) (m : ℕ) → method g m ≡ Parity → asks m r ≡ true → verdict g h r ≡ Answer false → list_all (follows (length g.shape.points) (links_of g h m)) (links g r) ≡ true
answer_follows g h r m way q e = ⊎_elim (λ p. p.0) (λ p. absurd (false≢true p.1)) (parity_answer g h r m false (sym (verdict_on g h r m Parity way q) ∙ e))

pub passed_brings_nothing : PassedBringsNothing
passed_brings_nothing g h e t = record {
  sources = λ m way. tested (is_on m e) (λ q. source_on e t m way q) (λ q. source-skip h e m q);
  links = λ m way. tested (is_on m e) (λ q. links_on e t m way q) (λ q. behind g h e m [] (links_of-none g e m q) refl);
}
  where
    source_on : (e : Entry) → taken g h e ≡ Passed → (m : ℕ) → method g m ≡ Lattice → is_on m e ≡ true → source (h ++ e ∷ []) m ≡ source h m
    source_on (Asked r) t m way q = source-push h r m q ∙ held_stays (source h m) (grain r) (answer_held g h r m way q (passed_request g h r t))
    source_on (Source k c) t m way q =
        let km : k ≡ m = eqb-true k m q in
        subst (λ n. source (h ++ Source n c ∷ []) m ≡ source h m) (sym km) (source-narrow h m c ∙ held_stays (source h m) c (passed_source g h m c (subst (λ n. taken g h (Source n c) ≡ Passed) km t)))
    source_on (Linked k l) t m way q = source-link h k m l

    links_on : (e : Entry) → taken g h e ≡ Passed → (m : ℕ) → method g m ≡ Parity → is_on m e ≡ true → (xs : List ℤ) → SuitsAll (length g.shape.points) (links_of g (h ++ e ∷ []) m) xs ↔ SuitsAll (length g.shape.points) (links_of g h m) xs
    links_on (Asked r) t m way q = behind g h (Asked r) m (links g r) (links_of-one g (Asked r) m q) (answer_follows g h r m way q (passed_request g h r t))
    links_on (Source k c) t m way q = behind g h (Source k c) m [] (links_of-one g (Source k c) m q) refl
    links_on (Linked k l) t m way q =
        let km : k ≡ m = eqb-true k m q in
        behind g h (Linked k l) m (l ∷ []) (links_of-one g (Linked k l) m q) (and_from (follows (length g.shape.points) (links_of g h m) l) true (passed_link g h m l (subst (λ n. taken g h (Linked n l) ≡ Passed) km t)) refl)
