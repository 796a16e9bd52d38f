-- Journals of groups, opened one behind another.
use Rattle.std.proofs.Common.{◌≡◌, ◌∙◌, ◌<◌, ◌≤◌, ◌+◌, refl, sym, ap, subst, ℕ, suc, Bool, true, false, cond, List, [], ◌∷◌, ◌++◌, length, length-append, take, drop, ◌==◌, map, ap₂, inl, inr, IsTrue, Ok, Err, Some, None, codes, arith}
use Rattle.std.specs.Prelude.{◌⊎◌, ◌||◌, Result, IsOk, slice_index_or}
use Rattle.std.proofs.lemmas.Bool.{false≢true}
use Rattle.std.specs.List.{list_any}
use Rattle.std.specs.Str.{bytes_eq}
use Rattle.cube_model.specs.Cores.{Core}
use Rattle.cube_model.specs.Cubes.{same, Each}
use Rattle.cube_model.specs.Rooms.{room_of}
use Rattle.cube_model.proofs.DimsFacts.{same-bytes_eq}
use Rattle.cube_io.specs.Causes.{Rose}
use Rattle.cube_io.specs.Seen.{StoreState, Seen, seen}
use Rattle.cube_io.specs.States.{Log, Gained}
use Rattle.cube_io.specs.Told.{OthersStay, Works}
use Rattle.cube_io.proofs.Trails.{gained_none}
use Rattle.cube_journal.specs.Keeping.{IsInRecovery}
use Rattle.cube_engine.specs.Kept.{history_of, IsExact, IsKept}
use Rattle.cube_engine.specs.Opening.{StartCause, IsStartFault}
use Rattle.cube_engine.specs.Worlds.{IsRuled}
use Rattle.cube_engine.specs.declared.fault.StartFault.{StartFault}
use Rattle.cube_engine.specs.declared.fault.StartFault.TheVariants.{Failed, TooLong, Damaged, OtherCube, Inadmissible, NoMemory}
use Rattle.cube_opening.specs.Reports.{IsReport, NoMessage}
use Rattle.cube_seal.specs.Seals.{seal_log}
use Rattle.cube_seal.specs.Values.{digest_of_values}
use Rattle.cube_opening.specs.Ruling.{called}
use Rattle.cube_opening.specs.declared.report.Report.{Report}
use Rattle.cube_opening.specs.declared.ruling.RuledGroup.{RuledGroup}
use Rattle.cube_starting.specs.Grouping.{journal_of, AllRecover, AreStarted, EndsAtSeals, Gathers, IsRefusedAt, IsStarted, OnlyFrom, OnlyFirst, OnlySeals, RestUnstarted, UnstartedGroups}
use Rattle.cube_starting.specs.NamedBooks.{IsAdded, IsKeptIn, room, rooms_of}
use Rattle.cube_starting.specs.Starting.{journal_status, journal_text_as}
use Rattle.cube_starting.specs.declared.named.NamedBook.{NamedBook}
use Rattle.cube_starting.proofs.Lists.{map_append}
use Rattle.cube_starting.proofs.Placed.{flip}

-- ---- names

left_off : (a b : Bool) → (a || b) ≡ false → a ≡ false
left_off false b e = refl
left_off true b e = e

right_off : (a b : Bool) → (a || b) ≡ false → b ≡ false
right_off false b e = e
right_off true b e = absurd (false≢true (sym e))

-- a name that none of the books has names no room
pub free_of : (name : List ℕ) (bs : List NamedBook) → list_any (bytes_eq name) (map (λ (b : NamedBook). b.name) bs) ≡ false → room_of name (rooms_of bs) ≡ None
free_of name [] e = refl
free_of name (b ∷ bs) e =
    let other : same b.name name ≡ false = flip b.name name ∙ same-bytes_eq name b.name ∙ left_off (bytes_eq name b.name) (list_any (bytes_eq name) (map (λ (x : NamedBook). x.name) bs)) e in
    ap (λ (t : Bool). cond t (Some (room b)) (room_of name (rooms_of bs))) other ∙ free_of name bs (right_off (bytes_eq name b.name) (list_any (bytes_eq name) (map (λ (x : NamedBook). x.name) bs)) e)

-- ---- one group

-- the report on a journal that was not opened says why
pub refused_one : {S : Type 0} (core : Core) (k : ℕ) (g : RuledGroup) (store : Seen StoreState S) (fault : StartFault) (words : List ℕ) (r : Report) → words ≡ called (codes "journal") g.name → StartCause {T = Unit {0}} store.before.faults store.after.faults (Err fault)
    → (IsTrue store.before.told → IsStartFault (history_of core g.policy (store.before.logs k).state.now) (store.before.logs k).state.now fault) → IsReport (journal_status fault) (journal_text_as words fault) r ⊎ ((journal_status fault ≡ 4) × NoMessage r) → RestUnstarted core k (g ∷ []) store r
refused_one core k g store Failed words r is cause why (inl e) = inr (inr (inl (e, cause.1)))
refused_one core k g store NoMemory words r is cause why (inl e) = inr (inl (e, cause))
refused_one core k g store TooLong words r is cause why (inl e) = inr (inr (inr (inl (TooLong, (refl, subst (λ (t : List ℕ). IsReport 4 (journal_text_as t TooLong) r) is e, why)), cause)))
refused_one core k g store (Damaged line) words r is cause why (inl e) = inr (inr (inr (inl (Damaged line, (refl, subst (λ (t : List ℕ). IsReport 4 (journal_text_as t (Damaged line)) r) is e, why)), cause)))
refused_one core k g store (OtherCube kept now) words r is cause why (inl e) = inr (inr (inr (inl (OtherCube kept now, (refl, subst (λ (t : List ℕ). IsReport 4 (journal_text_as t (OtherCube kept now)) r) is e, why)), cause)))
refused_one core k g store (Inadmissible line) words r is cause why (inl e) = inr (inr (inr (inl (Inadmissible line, (refl, subst (λ (t : List ℕ). IsReport 4 (journal_text_as t (Inadmissible line)) r) is e, why)), cause)))
refused_one core k g store Failed words r is cause why (inr e) = absurd (omega (arith, e.0))
refused_one core k g store NoMemory words r is cause why (inr e) = absurd (omega (arith, e.0))
refused_one core k g store TooLong words r is cause why (inr e) = inl (e.1, cause)
refused_one core k g store (Damaged line) words r is cause why (inr e) = inl (e.1, cause)
refused_one core k g store (OtherCube kept now) words r is cause why (inr e) = inl (e.1, cause)
refused_one core k g store (Inadmissible line) words r is cause why (inr e) = inl (e.1, cause)

-- what was added is a book that was started
pub started_one : {S : Type 0} (core : Core) (store : Seen StoreState S) (g : RuledGroup) (bs bs' : List NamedBook) → IsAdded bs bs' g.name core g.policy store.before store.after → (more : List NamedBook) × (bs' ≡ bs ++ more) × AreStarted core store (length bs) (g ∷ []) more
started_one core store g bs bs' a = (
  record { name = g.name; book = a.book } ∷ [],
  a.added,
  (record { name = refl; core_is = a.core_is; policy = a.policy_is; log_is = a.log; rules = a.rules; history = a.history; exact = a.exact }, tt),
)

-- ---- one more book

pub one_started : {S : Type 0} (core : Core) (store : Seen StoreState S) (k : ℕ) (g : RuledGroup) (more : List NamedBook) → AreStarted core store k (g ∷ []) more → (b : NamedBook) × (more ≡ b ∷ []) × IsStarted core store k g b
one_started core store k g [] a = absurd a
one_started core store k g (b ∷ []) a = (b, refl, a.0)
one_started core store k g (b ∷ c ∷ cs) a = absurd a.1

each_append : {X : Type 0} (P : X → Type 0) (xs ys : List X) → Each P xs → Each P ys → Each P (xs ++ ys)
each_append P [] ys a b = b
each_append P (x ∷ xs) ys a b = (a.0, each_append P xs ys a.1 b)

-- behind a group that was added
pub record IsGrown (core : Core) (g : RuledGroup) (bs bs' : List NamedBook) : Type 0 where
  pub longer : length bs' ≡ suc (length bs)
  pub names : map (λ (b : NamedBook). b.name) bs' ≡ map (λ (b : NamedBook). b.name) bs ++ g.name ∷ []
  pub alike : Each (λ b. b.book.core.dims ≡ core.dims) bs → Each (λ b. b.book.core.dims ≡ core.dims) bs'

pub grown : {S : Type 0} (core : Core) (store : Seen StoreState S) (k : ℕ) (g : RuledGroup) (bs bs' more : List NamedBook) → bs' ≡ bs ++ more → AreStarted core store k (g ∷ []) more → IsGrown core g bs bs'
grown core store k g bs bs' more whole a =
    let one = one_started core store k g more a in
    let is : bs' ≡ bs ++ one.0 ∷ [] = whole ∙ ap (λ (x : List NamedBook). bs ++ x) one.1 in
    let long = length-append bs (one.0 ∷ []) in
    subst (IsGrown core g bs) (sym is) (record {
      longer = omega (arith, long);
      names = map_append (λ (b : NamedBook). b.name) bs (one.0 ∷ []) ∙ ap (λ (n : List ℕ). map (λ (b : NamedBook). b.name) bs ++ n ∷ []) (one.2).name;
      alike = λ before. each_append (λ b. b.book.core.dims ≡ core.dims) bs (one.0 ∷ []) before (ap (λ (c : Core). c.dims) (one.2).core_is, tt);
    })

-- the first of a list that is not empty, and the others
pub first_of : (rest items left out : List RuledGroup) (g : RuledGroup) → items ≡ rest → (length rest == 0) ≡ false → g ≡ slice_index_or items 0 g → left ≡ take 0 items ++ drop 1 items → out ≡ left → g ∷ out ≡ rest
first_of [] items left out g same some is cut taken = absurd (false≢true (sym some))
first_of (x ∷ xs) items left out g same some is cut taken =
    let head : g ≡ x = is ∙ ap (λ (l : List RuledGroup). slice_index_or l 0 g) same in
    let tail : out ≡ xs = taken ∙ cut ∙ ap (λ (l : List RuledGroup). take 0 l ++ drop 1 l) same in
    ap₂ (λ (y : RuledGroup) (ys : List RuledGroup). y ∷ ys) head tail

pub frame_one : (k : ℕ) (old new : StoreState) → OthersStay k old new → OnlyFrom k 1 old new
frame_one k old new stay told j (inl e) = stay told j (λ is. absurd (omega (arith, e, is)))
frame_one k old new stay told j (inr e) = stay told j (λ is. absurd (omega (arith, e, is)))

pub same_frame : (k n : ℕ) (old : StoreState) → OnlyFrom k n old old
same_frame k n old told j e = refl

pub gathers_one : {S : Type 0} (store : Seen StoreState S) → Works store.before store.after 6 → Gathers 1 store
gathers_one store w = record { told = w.told; attached = w.attached; names = w.names; calls = λ told. (let c = w.calls told in omega (arith, c)) }

pub gathers_none : {S : Type 0} (n : ℕ) (tells : S → StoreState) (old : S) → IsTrue (tells old).attached → Gathers n (seen tells old old)
gathers_none n tells old attached = record { told = refl; attached = attached; names = λ told. refl; calls = λ told. omega arith }

-- ---- a store as it was before

-- where the logs from a number on stand as at entry, what is known from here on of them is known from entry on
module _ {S : Type 0} (core : Core) (tells : S → StoreState) (old mid new : S) (from : ℕ) (told_same : (tells mid).told ≡ (tells old).told) (stays : IsTrue (tells old).told → (j : ℕ) → from ≤ j → (tells mid).logs j ≡ (tells old).logs j) where
  still : IsTrue (tells old).told → IsTrue (tells mid).told
  still told = subst IsTrue (sym told_same) told

  pub started_on : (j : ℕ) → from ≤ j → (gs : List RuledGroup) (bs : List NamedBook) → AreStarted core (seen tells mid new) j gs bs → AreStarted core (seen tells old new) j gs bs
  started_on j e [] [] a = a
  started_on j e [] (b ∷ bs) a = a
  started_on j e (g ∷ gs) [] a = a
  started_on j e (g ∷ gs) (b ∷ bs) (s, a) = (
    record {
      name = s.name;
      core_is = s.core_is;
      policy = s.policy;
      log_is = s.log_is;
      rules = s.rules;
      history = λ told. subst (λ (l : Log). history_of core g.policy l.state.now ≡ Ok b.book.history) (stays told j e) (s.history (still told));
      exact = λ told. s.exact (still told);
    },
    started_on (suc j) (omega (arith, e)) gs bs a,
  )

  pub recover_on : (j : ℕ) → from ≤ j → (gs : List RuledGroup) → AllRecover core j gs (seen tells mid new) → AllRecover core j gs (seen tells old new)
  recover_on j e [] a = a
  recover_on j e (g ∷ gs) (r, a) = (
    (λ told. subst (λ (l : Log). Gained (IsInRecovery (history_of core g.policy) l.state) l ((tells new).logs j)) (stays told j e) (r (still told))),
    recover_on (suc j) (omega (arith, e)) gs a,
  )

  pub refused_on : (j : ℕ) → from ≤ j → (gs : List RuledGroup) (r : Report) → IsRefusedAt core j gs (tells mid) r → IsRefusedAt core j gs (tells old) r
  refused_on j e [] r a = a
  refused_on j e (g ∷ gs) r (inl (fault, x)) =
      inl (fault, (x.0, x.1, λ told. subst (λ (l : Log). IsStartFault (history_of core g.policy l.state.now) l.state.now fault) (stays told j e) (x.2 (still told))))
  refused_on j e (g ∷ gs) r (inr (ok, a)) = inr (
    (λ told. subst (λ (l : Log). IsOk (history_of core g.policy l.state.now)) (stays told j e) (ok (still told))),
    refused_on (suc j) (omega (arith, e)) gs r a,
  )

  pub unstarted_on : (gs : List RuledGroup) (r : Report) → (tells mid).faults ≡ (tells old).faults → RestUnstarted core from gs (seen tells mid new) r → RestUnstarted core from gs (seen tells old new) r
  unstarted_on gs r calm (inl e) = inl (e.0, e.1 ∙ calm)
  unstarted_on gs r calm (inr (inl e)) = inr (inl (e.0, e.1 ∙ calm))
  unstarted_on gs r calm (inr (inr (inl e))) = inr (inr (inl (e.0, subst (λ (m : ℕ). Rose m (tells new).faults) calm e.1)))
  unstarted_on gs r calm (inr (inr (inr e))) = inr (inr (inr (refused_on from (omega arith) gs r e.0, e.1 ∙ calm)))

-- ---- one behind another

is_ok : {X E : Type 0} (x : X) (r : Result X E) → r ≡ Ok x → IsOk r
is_ok x (Ok y) e = refl
is_ok x (Err y) e = cc

module _ {S : Type 0} (core : Core) (tells : S → StoreState) (old mid new : S) (k n : ℕ) (told_same : (tells mid).told ≡ (tells old).told) (first : OnlyFrom k 1 (tells old) (tells mid)) (then : OnlyFrom (suc k) n (tells mid) (tells new)) where
  on : IsTrue (tells old).told → IsTrue (tells mid).told
  on told = subst IsTrue (sym told_same) told

  -- the log of the first stays as it was left, and the later ones are as at entry
  first_stays : IsTrue (tells old).told → (tells new).logs k ≡ (tells mid).logs k
  first_stays told = then (on told) k (inl (omega arith))

  later_stay : IsTrue (tells old).told → (j : ℕ) → suc k ≤ j → (tells mid).logs j ≡ (tells old).logs j
  later_stay told j e = first told j (inr (omega (arith, e)))

  pub frame_more : OnlyFrom k (suc n) (tells old) (tells new)
  frame_more told j (inl e) = then (on told) j (inl (omega (arith, e))) ∙ first told j (inl e)
  frame_more told j (inr e) = then (on told) j (inr (omega (arith, e))) ∙ first told j (inr (omega (arith, e)))

  first_started : (g : RuledGroup) (b : NamedBook) → IsStarted core (seen tells old mid) k g b → IsStarted core (seen tells old new) k g b
  first_started g b s = record {
    name = s.name;
    core_is = s.core_is;
    policy = s.policy;
    log_is = s.log_is;
    rules = s.rules;
    history = s.history;
    exact = λ told. subst (λ (l : Log). IsExact core g.policy b.book.history l.state) (sym (first_stays told)) (s.exact told);
  }

  pub started_more : (g : RuledGroup) (gs : List RuledGroup) (one bs : List NamedBook) → AreStarted core (seen tells old mid) k (g ∷ []) one → AreStarted core (seen tells mid new) (suc k) gs bs → AreStarted core (seen tells old new) k (g ∷ gs) (one ++ bs)
  started_more g gs [] bs a more = absurd a
  started_more g gs (b ∷ []) bs a more = (first_started g b a.0, started_on core tells old mid new (suc k) told_same later_stay (suc k) (omega arith) gs bs more)
  started_more g gs (b ∷ c ∷ cs) bs a more = absurd a.1

  pub recover_more : (g : RuledGroup) (gs : List RuledGroup) → AllRecover core k (g ∷ []) (seen tells old mid) → AllRecover core (suc k) gs (seen tells mid new) → AllRecover core k (g ∷ gs) (seen tells old new)
  recover_more g gs a more = (
    (λ told. subst (λ (l : Log). Gained (IsInRecovery (history_of core g.policy) ((tells old).logs k).state) ((tells old).logs k) l) (sym (first_stays told)) (a.0 told)),
    recover_on core tells old mid new (suc k) told_same later_stay (suc k) (omega arith) gs more,
  )

  accepted_one : (g : RuledGroup) (one : List NamedBook) → AreStarted core (seen tells old mid) k (g ∷ []) one → IsTrue (tells old).told → IsOk (history_of core g.policy ((tells old).logs k).state.now)
  accepted_one g [] a told = absurd a
  accepted_one g (b ∷ bs) a told = is_ok b.book.history (history_of core g.policy ((tells old).logs k).state.now) ((a.0).history told)

  -- one behind the first was not opened
  pub unstarted_more : (g : RuledGroup) (gs : List RuledGroup) (one : List NamedBook) (r : Report) → AreStarted core (seen tells old mid) k (g ∷ []) one → (tells mid).faults ≡ (tells old).faults → RestUnstarted core (suc k) gs (seen tells mid new) r → RestUnstarted core k (g ∷ gs) (seen tells old new) r
  unstarted_more g gs one r a calm e = behind (unstarted_on core tells old mid new (suc k) told_same later_stay gs r calm e)
    where
      behind : RestUnstarted core (suc k) gs (seen tells old new) r → RestUnstarted core k (g ∷ gs) (seen tells old new) r
      behind (inl x) = inl x
      behind (inr (inl x)) = inr (inl x)
      behind (inr (inr (inl x))) = inr (inr (inl x))
      behind (inr (inr (inr x))) = inr (inr (inr (inr (accepted_one g one a, x.0), x.1)))

-- the first was not opened
pub unstarted_first : {S : Type 0} (core : Core) (k : ℕ) (g : RuledGroup) (gs : List RuledGroup) (store : Seen StoreState S) (r : Report) → RestUnstarted core k (g ∷ []) store r → RestUnstarted core k (g ∷ gs) store r
unstarted_first core k g gs store r (inl e) = inl e
unstarted_first core k g gs store r (inr (inl e)) = inr (inl e)
unstarted_first core k g gs store r (inr (inr (inl e))) = inr (inr (inl e))
unstarted_first core k g gs store r (inr (inr (inr (inl e, calm)))) = inr (inr (inr (inl e, calm)))
unstarted_first core k g gs store r (inr (inr (inr (inr e, calm)))) = absurd e.1

-- and the later ones were not reached
pub none_recover : {S : Type 0} (core : Core) (tells : S → StoreState) (old new : S) (j : ℕ) (gs : List RuledGroup) → ((i : ℕ) → j ≤ i → IsTrue (tells old).told → (tells new).logs i ≡ (tells old).logs i) → AllRecover core j gs (seen tells old new)
none_recover core tells old new j [] same = tt
none_recover core tells old new j (g ∷ gs) same = (
  (λ told. subst (λ (l : Log). Gained (IsInRecovery (history_of core g.policy) ((tells old).logs j).state) ((tells old).logs j) l) (sym (same j (omega arith) told)) (gained_none (IsInRecovery (history_of core g.policy) ((tells old).logs j).state) ((tells old).logs j) ((tells old).logs j) refl)),
  none_recover core tells old new (suc j) gs (λ i e. same i (omega (arith, e))),
)

pub gathers_more : {S : Type 0} (n : ℕ) (tells : S → StoreState) (old mid new : S) → Gathers 1 (seen tells old mid) → Gathers n (seen tells mid new) → Gathers (suc n) (seen tells old new)
gathers_more n tells old mid new a b = record {
  told = b.told ∙ a.told;
  attached = b.attached;
  names = λ told. b.names (subst IsTrue (sym a.told) told) ∙ a.names told;
  calls = λ told. (let c = a.calls told in let d = b.calls (subst IsTrue (sym a.told) told) in omega (arith, c, d));
}

pub gathers_first : {S : Type 0} (n : ℕ) (store : Seen StoreState S) → Gathers 1 store → Gathers (suc n) store
gathers_first n store a = record { told = a.told; attached = a.attached; names = a.names; calls = λ told. (let c = a.calls told in omega (arith, c)) }

-- ---- what is known of them

pub all_over : {S : Type 0} (core : Core) (store : Seen StoreState S) (k : ℕ) (gs : List RuledGroup) (bs : List NamedBook) → AreStarted core store k gs bs → Each (λ b. b.book.core ≡ core) bs
all_over core store k gs [] a = tt
all_over core store k [] (b ∷ bs) a = absurd a
all_over core store k (g ∷ gs) (b ∷ bs) a = ((a.0).core_is, all_over core store (suc k) gs bs a.1)

pub all_ruled : {S : Type 0} (core : Core) (store : Seen StoreState S) (k : ℕ) (gs : List RuledGroup) (bs : List NamedBook) → AreStarted core store k gs bs → Each (λ b. IsRuled b.book) bs
all_ruled core store k gs [] a = tt
all_ruled core store k [] (b ∷ bs) a = absurd a
all_ruled core store k (g ∷ gs) (b ∷ bs) a = ((a.0).rules, all_ruled core store (suc k) gs bs a.1)

pub some_started : {S : Type 0} (core : Core) (store : Seen StoreState S) (gs : List RuledGroup) (bs : List NamedBook) → 1 ≤ length gs → AreStarted core store 0 gs bs → 1 ≤ length bs
some_started core store [] bs some a = absurd (omega (arith, some))
some_started core store (g ∷ gs) [] some a = absurd a
some_started core store (g ∷ gs) (b ∷ bs) some a = omega arith

-- ---- the seals beside them

-- their logs are none of theirs
pub seals_stay : (n : ℕ) (old mid : StoreState) → n ≤ 16 → OnlyFrom 0 n old mid → IsTrue old.told → (j : ℕ) → j < 16 → mid.logs (seal_log j) ≡ old.logs (seal_log j)
seals_stay n old mid few frame told j low = frame told (seal_log j) (inr (omega (arith, few, low)))

pub only_first : (n : ℕ) (old mid new : StoreState) → mid.told ≡ old.told → OnlyFrom 0 n old mid → OnlySeals 0 n mid new → OnlyFirst n old new
only_first n old mid new told_same first second told k far none = second (subst IsTrue (sym told_same) told) k none ∙ first told k (inr (omega (arith, far)))

-- the frame of journals alone
pub only_from_first : (n : ℕ) (old new : StoreState) → OnlyFrom 0 n old new → OnlyFirst n old new
only_from_first n old new frame told k far none = frame told k (inr (omega (arith, far)))

module _ {S : Type 0} (core : Core) (tells : S → StoreState) (old mid new : S) (n : ℕ) (few_seals : n ≤ 16) (told_same : (tells mid).told ≡ (tells old).told) (others : OnlySeals 0 n (tells mid) (tells new)) where
  low : IsTrue (tells old).told → (k : ℕ) → k < 16 → (tells new).logs k ≡ (tells mid).logs k
  low told k few = others (subst IsTrue (sym told_same) told) k (λ j from up e. omega (arith, e, few, up, few_seals))

  pub started_sealed : (k : ℕ) (gs : List RuledGroup) (bs : List NamedBook) → k + length gs ≤ 16 → AreStarted core (seen tells old mid) k gs bs → AreStarted core (seen tells old new) k gs bs
  started_sealed k [] [] few a = a
  started_sealed k [] (b ∷ bs) few a = a
  started_sealed k (g ∷ gs) [] few a = a
  started_sealed k (g ∷ gs) (b ∷ bs) few (s, a) = (
    record {
      name = s.name;
      core_is = s.core_is;
      policy = s.policy;
      log_is = s.log_is;
      rules = s.rules;
      history = s.history;
      exact = λ told. subst (λ (l : Log). IsExact core g.policy b.book.history l.state) (sym (low told k (omega (arith, few)))) (s.exact told);
    },
    started_sealed (suc k) gs bs (omega (arith, few)) a,
  )

  pub recover_sealed : (k : ℕ) (gs : List RuledGroup) → k + length gs ≤ 16 → AllRecover core k gs (seen tells old mid) → AllRecover core k gs (seen tells old new)
  recover_sealed k [] few a = a
  recover_sealed k (g ∷ gs) few (r, a) = (
    (λ told. subst (λ (l : Log). Gained (IsInRecovery (history_of core g.policy) ((tells old).logs k).state) ((tells old).logs k) l) (sym (low told k (omega (arith, few)))) (r told)),
    recover_sealed (suc k) gs (omega (arith, few)) a,
  )

  kept_from : (k : ℕ) (gs : List RuledGroup) (bs : List NamedBook) → k + length gs ≤ 16 → AreStarted core (seen tells old mid) k gs bs → IsTrue (tells old).told → Each (IsKeptIn (tells mid).logs) bs → Each (IsKeptIn (tells new).logs) bs
  kept_from k [] [] few a told kept = kept
  kept_from k [] (b ∷ bs) few a told kept = absurd a
  kept_from k (g ∷ gs) [] few a told kept = kept
  kept_from k (g ∷ gs) (b ∷ bs) few (s, a) told kept = (
    (let at = s.log_is in subst (λ (l : Log). IsKept b.book.core b.book.policy b.book.history b.book.journal l.state) (sym (low told b.book.journal.log (omega (arith, at, few)))) kept.0),
    kept_from (suc k) gs bs (omega (arith, few)) a told kept.1,
  )

  pub kept_sealed : (gs : List RuledGroup) (bs : List NamedBook) → length gs ≤ 16 → AreStarted core (seen tells old mid) 0 gs bs → IsTrue (tells old).told → Each (IsKeptIn (tells mid).logs) bs → Each (IsKeptIn (tells new).logs) bs
  kept_sealed gs bs few a told kept = kept_from 0 gs bs (omega (arith, few)) a told kept

-- ---- the end of a run

pub at_rest : {S : Type 0} (core : Core) (gs : List RuledGroup) (store : Seen StoreState S) (r : Report) → RestUnstarted core 0 gs store r → UnstartedGroups core gs store r
at_rest core gs store r (inl e) = inl e
at_rest core gs store r (inr (inl e)) = inr (inl e)
at_rest core gs store r (inr (inr (inl e))) = inr (inr (inl e))
at_rest core gs store r (inr (inr (inr e))) = inr (inr (inr (inl e)))

pub unsealed_groups : {S : Type 0} (core : Core) (gs : List RuledGroup) (store : Seen StoreState S) (r : Report) → EndsAtSeals 0 (map journal_of gs) (digest_of_values core) store r → UnstartedGroups core gs store r
unsealed_groups core gs store r (inl e) = inl e
unsealed_groups core gs store r (inr (inl e)) = inr (inl e)
unsealed_groups core gs store r (inr (inr (inl e))) = inr (inr (inl e))
unsealed_groups core gs store r (inr (inr (inr e))) = inr (inr (inr (inr e)))
