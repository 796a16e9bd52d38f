-- What is known of groups that were opened, seen as runs.
use Rattle.std.proofs.Common.{◌≡◌, ◌∙◌, ◌<◌, ◌≤◌, ◌+◌, refl, sym, ap, ap₂, subst, ℕ, suc, List, [], ◌∷◌, ◌++◌, length, map, inr, IsTrue, Ok, arith}
use Rattle.std.proofs.lemmas.List.{length-map}
use Rattle.cube_model.specs.declared.entry.Entry.{Entry}
use Rattle.cube_model.specs.declared.policy.Policy.{Policy}
use Rattle.cube_model.specs.Cores.{Core, shown}
use Rattle.cube_model.specs.Cubes.{Each}
use Rattle.cube_model.specs.Verdicts.{IsAdmissible}
use Rattle.cube_groups.specs.declared.group.GroupFile.{GroupFile}
use Rattle.cube_io.specs.Seen.{FolderState, StoreState, Seen, seen}
use Rattle.cube_io.specs.States.{Log}
use Rattle.cube_engine.specs.Kept.{history_of, IsExact}
use Rattle.cube_engine.specs.Worlds.{IsRuled}
use Rattle.cube_opening.specs.Opening.{GotBehind}
use Rattle.cube_opening.specs.Ruling.{MakeGroups, ruled_names}
use Rattle.cube_opening.specs.declared.cube_files.RuledFiles.{RuledFiles}
use Rattle.cube_opening.specs.declared.ruling.RuledGroup.{RuledGroup}
use Rattle.cube_seal.specs.Seals.{seal_log, IsSealed}
use Rattle.cube_seal.specs.Values.{digest_of_values}
use Rattle.cube_starting.specs.Grouping.{GroupRun, AllOf, AllRecover, AllSealed, AllSeals, AreHeld, AreOpen, AreStarted, OnlyFrom, OnlyFirst, journal_of, ruled, AreRunsOf}
use Rattle.cube_starting.specs.declared.named.NamedBook.{NamedBook}
use Rattle.cube_starting.proofs.SealsHeld.{seals_still}

-- a group by its name and its policy
group_of : List ℕ → Policy → RuledGroup
group_of name policy = record { name = name; policy = policy }

-- books that were opened, as runs that were asked nothing
still : NamedBook → GroupRun
still b = record { name = b.name; policy = b.book.policy; first = b.book.history; last = b.book.history }

pub runs_at : List NamedBook → List GroupRun
runs_at bs = map still bs

pub still_runs : (bs : List NamedBook) → AreRunsOf bs (runs_at bs)
unfolding runs_at still
still_runs [] = tt
still_runs (b ∷ bs) = ((refl, refl, refl), still_runs bs)

-- the runs are of the groups that the files say
pub runs_ruled : {S : Type 0} (core : Core) (store : Seen StoreState S) (k : ℕ) (gs : List RuledGroup) (bs : List NamedBook) (rs : List GroupRun) → AreStarted core store k gs bs → AreRunsOf bs rs → ruled rs ≡ gs
unfolding group_of
runs_ruled core store k [] [] [] a r = refl
runs_ruled core store k [] [] (x ∷ rs) a r = absurd r
runs_ruled core store k [] (b ∷ bs) rs a r = absurd a
runs_ruled core store k (g ∷ gs) [] rs a r = absurd a
runs_ruled core store k (g ∷ gs) (b ∷ bs) [] a r = absurd r
runs_ruled core store k (g ∷ gs) (b ∷ bs) (x ∷ rs) (s, a) (is, r) = ap₂ (λ (y : RuledGroup) (ys : List RuledGroup). y ∷ ys)
    (ap₂ group_of (sym is.0 ∙ s.name) (sym is.1 ∙ s.policy))
    (runs_ruled core store (suc k) gs bs rs a r)

-- their histories are those that the logs recover
pub runs_recovered : {S : Type 0} (core : Core) (store : Seen StoreState S) (k : ℕ) (gs : List RuledGroup) (bs : List NamedBook) (rs : List GroupRun) → AreStarted core store k gs bs → AreRunsOf bs rs → IsTrue store.before.told
    → AllOf (λ log (g : GroupRun). history_of core g.policy (store.before.logs log).state.now ≡ Ok g.first) k rs
runs_recovered core store k [] [] [] a r told = tt
runs_recovered core store k [] [] (x ∷ rs) a r told = absurd r
runs_recovered core store k [] (b ∷ bs) rs a r told = absurd a
runs_recovered core store k (g ∷ gs) [] rs a r told = absurd a
runs_recovered core store k (g ∷ gs) (b ∷ bs) [] a r told = absurd r
runs_recovered core store k (g ∷ gs) (b ∷ bs) (x ∷ rs) (s, a) (is, r) told = (
  subst (λ (p : Policy). history_of core p (store.before.logs k).state.now ≡ Ok x.first) (sym s.policy ∙ is.1)
      (subst (λ (h : List Entry). history_of core g.policy (store.before.logs k).state.now ≡ Ok h) is.2 (s.history told)),
  runs_recovered core store (suc k) gs bs rs a r told,
)

-- and every crash leaves just these
pub runs_exact : {S : Type 0} (core : Core) (store : Seen StoreState S) (k : ℕ) (gs : List RuledGroup) (bs : List NamedBook) (rs : List GroupRun) → AreStarted core store k gs bs → AreRunsOf bs rs → IsTrue store.before.told
    → AllOf (λ log (g : GroupRun). IsExact core g.policy g.first (store.after.logs log).state) k rs
runs_exact core store k [] [] [] a r told = tt
runs_exact core store k [] [] (x ∷ rs) a r told = absurd r
runs_exact core store k [] (b ∷ bs) rs a r told = absurd a
runs_exact core store k (g ∷ gs) [] rs a r told = absurd a
runs_exact core store k (g ∷ gs) (b ∷ bs) [] a r told = absurd r
runs_exact core store k (g ∷ gs) (b ∷ bs) (x ∷ rs) (s, a) (is, r) told = (
  subst (λ (p : Policy). IsExact core p x.first (store.after.logs k).state) (sym s.policy ∙ is.1)
      (subst (λ (h : List Entry). IsExact core g.policy h (store.after.logs k).state) is.2 (s.exact told)),
  runs_exact core store (suc k) gs bs rs a r told,
)

pub runs_admissible : (core : Core) (bs : List NamedBook) (rs : List GroupRun) → AreRunsOf bs rs → Each (λ b. b.book.core ≡ core) bs → Each (λ b. IsRuled b.book) bs → Each (λ (g : GroupRun). IsAdmissible (shown core g.policy) g.first) rs
runs_admissible core [] [] r over rules = tt
runs_admissible core [] (x ∷ rs) r over rules = absurd r
runs_admissible core (b ∷ bs) [] r over rules = absurd r
runs_admissible core (b ∷ bs) (x ∷ rs) (is, r) over rules = (
  subst (λ (c : Core). IsAdmissible (shown c x.policy) x.first) over.0
      (subst (λ (p : Policy). IsAdmissible (shown b.book.core p) x.first) is.1 (subst (λ (h : List Entry). IsAdmissible (shown b.book.core b.book.policy) h) is.2 (rules.0).admissible)),
  runs_admissible core bs rs r over.1 rules.1,
)

-- ---- lists of them

pub started_few : {S : Type 0} (core : Core) (store : Seen StoreState S) (k : ℕ) (gs : List RuledGroup) (bs : List NamedBook) → AreStarted core store k gs bs → length bs ≡ length gs
started_few core store k [] [] a = refl
started_few core store k [] (b ∷ bs) a = absurd a
started_few core store k (g ∷ gs) [] a = absurd a
started_few core store k (g ∷ gs) (b ∷ bs) a = ap suc (started_few core store (suc k) gs bs a.1)

-- ---- their seals

-- the logs of the seals are left alone
abbrev pub SealsLeft : {S : Type 0} → (S → StoreState) → S → S → S → Type 0
SealsLeft tells old mid new = IsTrue (tells old).told → (j : ℕ) → j < 16 → (tells new).logs (seal_log j) ≡ (tells mid).logs (seal_log j)

module _ {S : Type 0} (values : List ℕ) (tells : S → StoreState) (old mid new : S) (left : SealsLeft tells old mid new) where
  sealed_left : IsTrue (tells old).told → (k : ℕ) (ns : List (List ℕ)) → k + length ns ≤ 16 → AllSealed values (tells mid) k ns → AllSealed values (tells new) k ns
  sealed_left told k [] few a = a
  sealed_left told k (n ∷ ns) few a = (subst (λ (l : Log). IsSealed values l.state) (sym (left told k (omega (arith, few)))) a.0, sealed_left told (suc k) ns (omega (arith, few)) a.1)

  seals_left : (k : ℕ) (ns : List (List ℕ)) → k + length ns ≤ 16 → AllSeals values (seen tells old mid) k ns → AllSeals values (seen tells old new) k ns
  seals_left k [] few a = a
  seals_left k (n ∷ ns) few a = (seals_still k values tells old mid new (λ told. left told k (omega (arith, few))) a.0, seals_left (suc k) ns (omega (arith, few)) a.1)

pub held_left : {S : Type 0} (core : Core) (gs : List RuledGroup) (tells : S → StoreState) (old mid new : S) → length gs ≤ 16 → SealsLeft tells old mid new → AreHeld core gs (seen tells old mid) → AreHeld core gs (seen tells old new)
held_left core gs tells old mid new few stays held =
    let low : 0 + length (map journal_of gs) ≤ 16 = (let long = length-map gs journal_of in omega (arith, long, few)) in
    let values = digest_of_values core in
    record {
      agreed = held.agreed;
      sealed = λ told. sealed_left values tells old mid new stays told 0 (map journal_of gs) low (held.sealed told);
      seals = seals_left values tells old mid new stays 0 (map journal_of gs) low held.seals;
    }

-- ---- open groups

module _ {F S : Type 0} (cube : RuledFiles) (more : List (List ℕ)) (files : Seen FolderState F) (fs : List GroupFile) (core : Core) (gs : List RuledGroup) (tells : S → StoreState) (old mid : S) (bs : List NamedBook)
    (make : MakeGroups cube files.before core fs gs) (behind : GotBehind (ruled_names cube fs ++ more) files) (started : AreStarted core (seen tells old mid) 0 gs bs)
    (over : Each (λ b. b.book.core ≡ core) bs) (rules : Each (λ b. IsRuled b.book) bs)
    (few : length gs ≤ 16) (held : AreHeld core gs (seen tells old mid)) where
  -- while the logs of the seals are left alone
  pub are_open : (new : S) (rs : List GroupRun) → AreRunsOf bs rs → SealsLeft tells old mid new → AreOpen cube more files (seen tells old new) core rs
  are_open new rs runs stays =
      let same = sym (runs_ruled core (seen tells old mid) 0 gs bs rs started runs) in
      record {
        listed = fs;
        files_make = subst (MakeGroups cube files.before core fs) same make;
        behind = behind;
        recovered = λ told. runs_recovered core (seen tells old mid) 0 gs bs rs started runs told;
        admissible = runs_admissible core bs rs runs over rules;
        held = subst (λ (l : List RuledGroup). AreHeld core l (seen tells old new)) same (held_left core gs tells old mid new few stays held);
      }

  -- at each moment of the opening their logs recovered the same
  pub run_recovers : (rs : List GroupRun) → AreRunsOf bs rs → AllRecover core 0 gs (seen tells old mid) → AllRecover core 0 (ruled rs) (seen tells old mid)
  run_recovers rs runs passed = subst (λ (l : List RuledGroup). AllRecover core 0 l (seen tells old mid)) (sym (runs_ruled core (seen tells old mid) 0 gs bs rs started runs)) passed

-- ---- what a serving leaves alone

module _ {S : Type 0} (core : Core) (tells : S → StoreState) (old mid new : S) (gs : List RuledGroup) (bs : List NamedBook) (few : length gs ≤ 16) (started : AreStarted core (seen tells old mid) 0 gs bs) (told_same : (tells mid).told ≡ (tells old).told) where
  -- the logs of the seals
  pub seals_alone : OnlyFrom 0 (length bs) (tells mid) (tells new) → SealsLeft tells old mid new
  seals_alone frame told j low = let long = started_few core (seen tells old mid) 0 gs bs started in frame (subst IsTrue (sym told_same) told) (seal_log j) (inr (omega (arith, few, long, low)))

  -- and each log behind the first ones, so many
  pub only_most : (most : ℕ) → length gs ≤ most → OnlyFirst (length gs) (tells old) (tells mid) → OnlyFrom 0 (length bs) (tells mid) (tells new) → OnlyFirst most (tells old) (tells new)
  only_most most below opened frame told k far none =
      let long = started_few core (seen tells old mid) 0 gs bs started in
      frame (subst IsTrue (sym told_same) told) k (inr (omega (arith, far, below, long))) ∙ opened told k (omega (arith, far, below)) (λ j from low. none j from (omega (arith, low, below)))
