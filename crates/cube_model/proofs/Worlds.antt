-- The central theorem.
use Rattle.std.proofs.Common.{◌≡◌, ℕ, suc, ◌<◌, Bool, true, false, cond, List, [], ◌∷◌, ◌++◌, length, map, zero, get_or, pos, refl, sym, ap, ◌∙◌, subst, arith, append_assoc, append-nil}
use Rattle.cube_model.specs.declared.cell.Cell.{Cell}
use Rattle.cube_model.specs.declared.entry.Entry.{Entry}
use Rattle.cube_model.specs.declared.entry.Entry.TheVariants.{Asked}
use Rattle.cube_model.specs.declared.entry.Taken.TheVariants.{Taken}
use Rattle.cube_model.specs.declared.outcome.Outcome.{Outcome}
use Rattle.cube_model.specs.declared.outcome.Outcome.TheVariants.{Given, JournalFault, NoMemory}
use Rattle.cube_model.specs.declared.policy.Method.{Method}
use Rattle.cube_model.specs.declared.policy.Method.TheVariants.{Plain, Lattice, Parity}
use Rattle.cube_model.specs.declared.request.Request.{Request}
use Rattle.cube_model.specs.declared.verdict.Verdict.{Verdict}
use Rattle.cube_model.specs.declared.verdict.Verdict.TheVariants.{Answer, Full, SourceWould, Pair as PairFixes, Single as SingleFixes}
use Rattle.cube_model.specs.Cubes.{Public, World, IsWorld, IsIn, places, covered}
use Rattle.cube_model.specs.Requests.{values, total, is_valid}
use Rattle.cube_model.specs.Protection.{method, protected_by, protected}
use Rattle.cube_model.specs.Entries.{is_allowed}
use Rattle.cube_model.specs.Verdicts.{IsAdmissible, AdmissibleFrom, verdict, taken_by, taken}
use Rattle.cube_model.specs.Twins.{changes, change_by, twin}
use Rattle.cube_model.specs.Runs.{Question, Ask, entered, grown, next_by, next, end, by_rules}
use Rattle.cube_model.specs.Runs.Question.{Query, Witness, Shape}
use Rattle.cube_model.specs.TwoWorlds.{IsOpen, TwoWorlds, LaterChanges, ChangesOfMore, StaysAdmissible}
use Rattle.cube_model.proofs.Growth.{Leaves, replies_alike, extends_refl}
use Rattle.cube_model.proofs.Histories.{AreAllowed, Each-append_left, admissible_allowed}
use Rattle.cube_model.proofs.Holding.{extended, HeldBy}
use Rattle.cube_model.proofs.Parities.{parity_leaves, parity_sum}
use Rattle.cube_model.proofs.Sources.{lattice_leaves, lattice_sum, Each-get_or}
use Rattle.cube_model.proofs.Sums.{length-count_from}
use Rattle.cube_model.proofs.Twinned.{sum_twin}

pub length-changes : (g : Public) (h : List Entry) (m : ℕ) (t : Cell) → length (changes g h m t) ≡ length g.shape.points
unfolding changes
length-changes g h m t = length-map (change_by (method g m) g h m t) (places g) ∙ length-count_from 0 (length g.shape.points)
  where
    length-map : {X Y : Type 0} (f : X → Y) (xs : List X) → length (map f xs) ≡ length xs
    length-map f [] = refl
    length-map f (x ∷ xs) = ap suc (length-map f xs)

-- a measure that isn't open is one of the list
pub in_list : (xs : List Method) (m : ℕ) → (get_or xs m Plain ≡ Plain → ⊥) → m < length xs
in_list [] m h = absurd (h refl)
in_list (x ∷ xs) zero h = omega arith
in_list (x ∷ xs) (suc m) h = let i : m < length xs = in_list xs m h in omega arith

-- what two worlds take
open_by : (w : World) (h last : List Entry) (asks : List Ask) (m : ℕ) (t : Cell) → IsWorld w → HeldBy w.shown last (end by_rules w.shown h asks) → (method w.shown m ≡ Plain → ⊥) → Leaves w.shown last m (changes w.shown last m t) → total (changes w.shown last m t) (covered w.shown t) ≡ pos 1 → IsOpen w (twin w m (changes w.shown last m t)) h asks m t
open_by w h last asks m t ok ext way leaves sum =
    let a : m < length w.shown.policy.methods = in_list w.shown.policy.methods m way in
    let e : length w.shown.policy.methods ≡ length w.cube = ok.methods in
    let below : m < length w.cube = omega arith in
    let long : length (values w m) ≡ length (changes w.shown last m t) = Each-get_or (λ vs. length vs ≡ length w.shown.shape.points) w.cube m [] ok.values below ∙ sym (length-changes w.shown last m t) in
    record {
      same_replies = replies_alike w m (changes w.shown last m t) last below long leaves h asks ext;
      same_end = refl;
      other_sum = sum_twin w m (changes w.shown last m t) (covered w.shown t) below long sum;
    }

-- the changes of an admissible history that holds all
held_changes : (w : World) (h last : List Entry) (asks : List Ask) (m : ℕ) (t : Cell) → IsWorld w → IsAdmissible w.shown last → HeldBy w.shown last (end by_rules w.shown h asks) → IsIn t (protected w.shown m) → IsOpen w (twin w m (changes w.shown last m t)) h asks m t
unfolding protected
held_changes w h last asks m t ok adm held is_in = go (method w.shown m) refl
  where
    go : (way : Method) → method w.shown m ≡ way → IsOpen w (twin w m (changes w.shown last m t)) h asks m t
    go Plain e = absurd (subst (λ k. IsIn t (protected_by k w.shown m)) e is_in)
    go Lattice e = open_by w h last asks m t ok held (λ p. absurd (cc)) (lattice_leaves w m t last ok e adm is_in) (lattice_sum w.shown m t last e adm is_in)
    go Parity e = open_by w h last asks m t ok held (λ p. absurd (cc)) (parity_leaves w m t last ok e adm is_in) (parity_sum w m t last ok e (admissible_allowed w.shown [] last adm) is_in)

pub later_changes : LaterChanges
later_changes w h last asks m t ok adm ext is_in = held_changes w h last asks m t ok adm (Each-append_left (λ e. is_allowed w.shown e ≡ true) (end by_rules w.shown h asks) ext.0 (subst (AreAllowed w.shown) ext.1 all), extended w.shown (end by_rules w.shown h asks) last all ext) is_in
  where
    all : AreAllowed w.shown last
    all = admissible_allowed w.shown [] last adm

-- one more entry
pub admissible_push : (g : Public) (h es : List Entry) (e : Entry) → AdmissibleFrom g h es → is_allowed g e ≡ true → taken g (h ++ es) e ≡ Taken → AdmissibleFrom g h (es ++ e ∷ [])
admissible_push g h [] e a v t = (v, subst (λ k. taken g k e ≡ Taken) (append-nil h) t, tt)
admissible_push g h (s ∷ es) e a v t = (a.0, a.1, admissible_push g (h ++ s ∷ []) es e a.2 v (subst (λ k. taken g k e ≡ Taken) (sym (append_assoc h (s ∷ []) es)) t))

-- a valid request with a fresh answer
pub admissible_fresh : (g : Public) (h : List Entry) (r : Request) → IsAdmissible g h → is_valid g r ≡ true → verdict g h r ≡ Answer true → IsAdmissible g (h ++ Asked r ∷ [])
unfolding is_allowed taken
admissible_fresh g h r a v e = admissible_push g [] h (Asked r) a v (ap taken_by e)

admissible_entered : (g : Public) (h : List Entry) (r : Request) (v : Verdict) → verdict g h r ≡ v → is_valid g r ≡ true → IsAdmissible g h → IsAdmissible g (entered h r v)
admissible_entered g h r (Answer true) e valid a = admissible_fresh g h r a valid e
admissible_entered g h r (Answer false) e valid a = a
admissible_entered g h r (Full n) e valid a = a
admissible_entered g h r (SourceWould c t) e valid a = a
admissible_entered g h r (PairFixes k x y i) e valid a = a
admissible_entered g h r (SingleFixes k x i) e valid a = a

admissible_grown : (g : Public) (h : List Entry) (q : Question) → IsAdmissible g h → IsAdmissible g (grown q g h)
admissible_grown g h (Query r) a = go (is_valid g r) refl
  where
    go : (b : Bool) → is_valid g r ≡ b → IsAdmissible g (cond b (entered h r (verdict g h r)) h)
    go true v = admissible_entered g h r (verdict g h r) refl v a
    go false v = a
admissible_grown g h (Witness what t) a = a
admissible_grown g h Shape a = a

pub admissible_next : (g : Public) (h : List Entry) (q : Question) (o : Outcome) → IsAdmissible g h → IsAdmissible g (next_by by_rules o q g h)
admissible_next g h q Given a = admissible_grown g h q a
admissible_next g h q JournalFault a = a
admissible_next g h q NoMemory a = a

pub stays_admissible : StaysAdmissible
stays_admissible g h [] a = a
stays_admissible g h (ask ∷ asks) a = stays_admissible g (next by_rules g h ask) asks (admissible_next g h ask.question ask.outcome a)

pub two_worlds : TwoWorlds
two_worlds w h asks m t ok a is_in = later_changes w h (end by_rules w.shown h asks) asks m t ok (stays_admissible w.shown h asks a) (extends_refl (end by_rules w.shown h asks)) is_in

pub changes_of_more : ChangesOfMore
changes_of_more w h last asks m t ok a adm more is_in = held_changes w h last asks m t ok adm (admissible_allowed w.shown [] (end by_rules w.shown h asks) (stays_admissible w.shown h asks a), more) is_in
