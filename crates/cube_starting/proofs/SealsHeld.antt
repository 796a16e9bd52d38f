-- The logs of a store while its seal is held.
use Rattle.std.proofs.Common.{◌≡◌, ◌≢◌, ◌∙◌, ◌<◌, ◌≤◌, ◌+◌, ℕ, suc, List, [], ◌∷◌, length, IsTrue, ◌⊎◌, inl, inr, refl, sym, subst, arith}
use Rattle.std.specs.Prelude.{Err}
use Rattle.cube_io.specs.Causes.{Rose}
use Rattle.cube_io.specs.Seen.{StoreState, Seen, seen}
use Rattle.cube_io.specs.States.{Log, Gained}
use Rattle.cube_io.specs.Told.{OthersStay}
use Rattle.cube_io.proofs.Trails.{gained_none}
use Rattle.cube_seal.specs.Seals.{seal_log, Agrees, SealCause, IsSealed, IsSealFault, IsSealable}
use Rattle.cube_seal.specs.declared.fault.SealFault.{SealFault}
use Rattle.cube_seal.specs.declared.fault.SealFault.TheVariants.{Failed, NoMemory, Damaged, OtherValues}
use Rattle.cube_opening.specs.Reports.{IsReport, NoMessage}
use Rattle.cube_opening.specs.declared.report.Report.{Report}
use Rattle.cube_starting.specs.Grouping.{AllAgree, AllSealed, AllSeals, EndsAtSeals, IsUnsealedAt, OnlySeals}
use Rattle.cube_starting.specs.Starting.{seal_text_as, seal_status, EndsAtSeal, SealsIn}

-- the seal's log is not the journal's
pub seal_is_other : seal_log 0 ≢ 0
seal_is_other e = omega (arith, e)

-- what is known of the seal beside a log at entry holds where it begins to be held
pub seals_from : {S : Type 0} (log : ℕ) (values : List ℕ) (tells : S → StoreState) (old mid new : S) → (tells mid).told ≡ (tells old).told → (IsTrue (tells old).told → (tells mid).logs (seal_log log) ≡ (tells old).logs (seal_log log))
    → SealsIn log values (seen tells mid new) → SealsIn log values (seen tells old new)
seals_from log values tells old mid new same stays crash = λ told able.
    let is = stays told in
    subst (λ (l : Log). Gained (IsSealable values) l ((tells new).logs (seal_log log))) is (crash (subst IsTrue (sym same) told) (subst (λ (l : Log). IsSealable values l.state) (sym is) able))

-- while it is left alone behind that
pub seals_still : {S : Type 0} (log : ℕ) (values : List ℕ) (tells : S → StoreState) (old mid new : S) → (IsTrue (tells old).told → (tells new).logs (seal_log log) ≡ (tells mid).logs (seal_log log)) → SealsIn log values (seen tells old mid) → SealsIn log values (seen tells old new)
seals_still log values tells old mid new stays seals = λ told able. subst (λ (l : Log). Gained (IsSealable values) ((tells old).logs (seal_log log)) l) (sym (stays told)) (seals told able)

-- where it is not reached
pub seals_unreached : {S : Type 0} (log : ℕ) (values : List ℕ) (tells : S → StoreState) (old new : S) → (IsTrue (tells old).told → (tells new).logs (seal_log log) ≡ (tells old).logs (seal_log log)) → SealsIn log values (seen tells old new)
seals_unreached log values tells old new stays = λ told able. subst (λ (l : Log). Gained (IsSealable values) ((tells old).logs (seal_log log)) l) (sym (stays told)) (gained_none (IsSealable values) ((tells old).logs (seal_log log)) ((tells old).logs (seal_log log)) refl)

-- the report on a seal says why
pub at_seal : {S : Type 0} (log : ℕ) (called values : List ℕ) (store : Seen StoreState S) (fault : SealFault) (r : Report) → SealCause {T = Unit {0}} store.before.faults store.after.faults (Err fault)
    → (IsTrue store.before.told → IsSealFault values (store.before.logs (seal_log log)).state.now fault) → IsReport (seal_status fault) (seal_text_as called values fault) r ⊎ ((seal_status fault ≡ 4) × NoMessage r) → EndsAtSeal log called values store r
at_seal log called values store Failed r cause is (inl e) = inr (inr (inl (e, cause.1)))
at_seal log called values store NoMemory r cause is (inl e) = inr (inl (e, cause))
at_seal log called values store Damaged r cause is (inl e) = inr (inr (inr (Damaged, (refl, e, is), cause)))
at_seal log called values store (OtherValues kept) r cause is (inl e) = inr (inr (inr (OtherValues kept, (refl, e, is), cause)))
at_seal log called values store Failed r cause is (inr e) = absurd (omega (arith, e.0))
at_seal log called values store NoMemory r cause is (inr e) = absurd (omega (arith, e.0))
at_seal log called values store Damaged r cause is (inr e) = inl (e.1, cause)
at_seal log called values store (OtherValues kept) r cause is (inr e) = inl (e.1, cause)

-- where the seal is as it was, and no fault was counted, a run that ended at it ended there from the first on
pub unsealed_from : {S : Type 0} (log : ℕ) (called values : List ℕ) (tells : S → StoreState) (old mid new : S) (r : Report) → (tells mid).told ≡ (tells old).told → (IsTrue (tells old).told → (tells mid).logs (seal_log log) ≡ (tells old).logs (seal_log log)) → (tells mid).faults ≡ (tells old).faults
    → EndsAtSeal log called values (seen tells mid new) r → EndsAtSeal log called values (seen tells old new) r
unsealed_from log called values tells old mid new r same stays calm (inl e) = inl (e.0, e.1 ∙ calm)
unsealed_from log called values tells old mid new r same stays calm (inr (inl e)) = inr (inl (e.0, e.1 ∙ calm))
unsealed_from log called values tells old mid new r same stays calm (inr (inr (inl e))) = inr (inr (inl (e.0, subst (λ (n : ℕ). Rose n (tells new).faults) calm e.1)))
unsealed_from log called values tells old mid new r same stays calm (inr (inr (inr (fault, e, steady)))) =
    inr (inr (inr (fault, (e.0, e.1, λ told. subst (λ (l : Log). IsSealFault values l.state.now fault) (stays told) (e.2 (subst IsTrue (sym same) told))), steady ∙ calm)))

-- ---- the seals of journals, one behind another

-- behind calls that left the seals from a number on as they were, and counted no fault
module _ {S : Type 0} (values : List ℕ) (tells : S → StoreState) (old mid new : S) (k : ℕ) (told_same : (tells mid).told ≡ (tells old).told) (stays : IsTrue (tells old).told → (j : ℕ) → k ≤ j → j < 16 → (tells mid).logs (seal_log j) ≡ (tells old).logs (seal_log j)) where
  refused_on : (j : ℕ) (ns : List (List ℕ)) (r : Report) → k ≤ j → j + length ns ≤ 16 → IsUnsealedAt values j ns (tells mid) r → IsUnsealedAt values j ns (tells old) r
  refused_on j [] r from few e = e
  refused_on j (n ∷ ns) r from few (inl (fault, e)) =
      inl (fault, (e.0, e.1, λ told. subst (λ (l : Log). IsSealFault values l.state.now fault) (stays told j from (omega (arith, few))) (e.2 (subst IsTrue (sym told_same) told))))
  refused_on j (n ∷ ns) r from few (inr (agrees, e)) = inr (
    (λ told. subst (λ (l : Log). Agrees values l.state.now) (stays told j from (omega (arith, few))) (agrees (subst IsTrue (sym told_same) told))),
    refused_on (suc j) ns r (omega (arith, from)) (omega (arith, few)) e,
  )

  pub seals_on : (j : ℕ) (ns : List (List ℕ)) → k ≤ j → j + length ns ≤ 16 → AllSeals values (seen tells mid new) j ns → AllSeals values (seen tells old new) j ns
  seals_on j [] from few a = a
  seals_on j (n ∷ ns) from few a = (
    seals_from j values tells old mid new told_same (λ told. stays told j from (omega (arith, few))) a.0,
    seals_on (suc j) ns (omega (arith, from)) (omega (arith, few)) a.1,
  )

  pub agree_on : (j : ℕ) (ns : List (List ℕ)) → k ≤ j → j + length ns ≤ 16 → IsTrue (tells old).told → AllAgree values (tells mid) j ns → AllAgree values (tells old) j ns
  agree_on j [] from few told a = a
  agree_on j (n ∷ ns) from few told a = (
    subst (λ (l : Log). Agrees values l.state.now) (stays told j from (omega (arith, few))) a.0,
    agree_on (suc j) ns (omega (arith, from)) (omega (arith, few)) told a.1,
  )

  pub unsealed_on : (j : ℕ) (ns : List (List ℕ)) (r : Report) → k ≤ j → j + length ns ≤ 16 → (tells mid).faults ≡ (tells old).faults → EndsAtSeals j ns values (seen tells mid new) r → EndsAtSeals j ns values (seen tells old new) r
  unsealed_on j ns r from few calm (inl e) = inl (e.0, e.1 ∙ calm)
  unsealed_on j ns r from few calm (inr (inl e)) = inr (inl (e.0, e.1 ∙ calm))
  unsealed_on j ns r from few calm (inr (inr (inl e))) = inr (inr (inl (e.0, subst (λ (m : ℕ). Rose m (tells new).faults) calm e.1)))
  unsealed_on j ns r from few calm (inr (inr (inr (e, steady)))) = inr (inr (inr (refused_on j ns r from few e, steady ∙ calm)))

-- the first agrees, and the run ended at one behind it
pub unsealed_behind : {S : Type 0} (k : ℕ) (n : List ℕ) (ns : List (List ℕ)) (values : List ℕ) (store : Seen StoreState S) (r : Report) → (IsTrue store.before.told → Agrees values (store.before.logs (seal_log k)).state.now)
    → EndsAtSeals (suc k) ns values store r → EndsAtSeals k (n ∷ ns) values store r
unsealed_behind k n ns values store r agrees (inl e) = inl e
unsealed_behind k n ns values store r agrees (inr (inl e)) = inr (inl e)
unsealed_behind k n ns values store r agrees (inr (inr (inl e))) = inr (inr (inl e))
unsealed_behind k n ns values store r agrees (inr (inr (inr (e, calm)))) = inr (inr (inr (inr (agrees, e), calm)))

-- the logs of two seals are two logs
pub seals_differ : (k j : ℕ) → k ≤ 16 → j ≤ 16 → k ≢ j → seal_log k ≢ seal_log j
seals_differ k j few_k few_j differs e = differs (omega (arith, e, few_k, few_j))

-- where the seals from a number on are not reached
pub none_sealed : {S : Type 0} (values : List ℕ) (tells : S → StoreState) (old new : S) (k : ℕ) (ns : List (List ℕ)) → k + length ns ≤ 16 → (IsTrue (tells old).told → (j : ℕ) → k ≤ j → j < 16 → (tells new).logs (seal_log j) ≡ (tells old).logs (seal_log j)) → AllSeals values (seen tells old new) k ns
none_sealed values tells old new k [] few stays = tt
none_sealed values tells old new k (n ∷ ns) few stays = (
  seals_unreached k values tells old new (λ told. stays told k (omega arith) (omega (arith, few))),
  none_sealed values tells old new (suc k) ns (omega (arith, few)) (λ told j from low. stays told j (omega (arith, from)) low),
)

-- one seal was held, or not, and those behind it are not reached
pub seals_first : {S : Type 0} (values : List ℕ) (tells : S → StoreState) (old new : S) (k : ℕ) (n : List ℕ) (ns : List (List ℕ)) → suc k + length ns ≤ 16 → OthersStay (seal_log k) (tells old) (tells new) → SealsIn k values (seen tells old new) → AllSeals values (seen tells old new) k (n ∷ ns)
seals_first values tells old new k n ns few others one =
    (one, none_sealed values tells old new (suc k) ns few (λ told j from low. others told (seal_log j) (seals_differ j k (omega (arith, low)) (omega (arith, few)) (λ e. omega (arith, e, from)))))

-- one seal is held, and then those behind it
module _ {S : Type 0} (values : List ℕ) (tells : S → StoreState) (old mid new : S) (k : ℕ) (ns : List (List ℕ)) (few : suc k + length ns ≤ 16) (told_same : (tells mid).told ≡ (tells old).told) (first : OthersStay (seal_log k) (tells old) (tells mid)) (then : OnlySeals (suc k) (length ns) (tells mid) (tells new)) where
  -- those behind it are as they were
  pub later_seals : IsTrue (tells old).told → (j : ℕ) → suc k ≤ j → j < 16 → (tells mid).logs (seal_log j) ≡ (tells old).logs (seal_log j)
  later_seals told j from low = first told (seal_log j) (seals_differ j k (omega (arith, low)) (omega (arith, few)) (λ e. omega (arith, e, from)))

  -- and it is left as it was held
  first_left : IsTrue (tells old).told → (tells new).logs (seal_log k) ≡ (tells mid).logs (seal_log k)
  first_left told = then (subst IsTrue (sym told_same) told) (seal_log k) (λ j from low. seals_differ k j (omega (arith, few)) (omega (arith, few, low)) (λ e. omega (arith, e, from)))

  pub sealed_more : (n : List ℕ) → IsTrue (tells old).told → IsSealed values ((tells mid).logs (seal_log k)).state → AllSealed values (tells new) (suc k) ns → AllSealed values (tells new) k (n ∷ ns)
  sealed_more n told one rest = (subst (λ (l : Log). IsSealed values l.state) (sym (first_left told)) one, rest)

  pub seals_more : (n : List ℕ) → SealsIn k values (seen tells old mid) → AllSeals values (seen tells mid new) (suc k) ns → AllSeals values (seen tells old new) k (n ∷ ns)
  seals_more n one rest = (seals_still k values tells old mid new first_left one, seals_on values tells old mid new (suc k) told_same later_seals (suc k) ns (omega arith) few rest)

  pub only_more : OnlySeals k (suc (length ns)) (tells old) (tells new)
  only_more told l none = then (subst IsTrue (sym told_same) told) l (λ j from low. none j (omega (arith, from)) (omega (arith, low))) ∙ first told l (none k (omega arith) (omega arith))

pub only_first_seal : (k n : ℕ) (old new : StoreState) → OthersStay (seal_log k) old new → OnlySeals k (suc n) old new
only_first_seal k n old new others told l none = others told l (none k (omega arith) (omega arith))
