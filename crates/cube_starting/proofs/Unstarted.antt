-- A run over groups that ended at their journals.
use Rattle.std.proofs.Common.{◌≡◌, ◌⊎◌, ◌∙◌, ◌≤◌, ◌^◌, ℕ, suc, List, [], ◌∷◌, length, map, inl, inr, sym, arith, IsTrue}
use Rattle.std.specs.Prelude.{IsOk}
use Rattle.std.specs.declared.result.Result.{Result}
use Rattle.std.specs.declared.result.Result.TheVariants.{Ok, Err}
use Rattle.cube_model.specs.declared.entry.Entry.{Entry}
use Rattle.cube_model.specs.Cores.{Core}
use Rattle.cube_io.specs.Causes.{Rose}
use Rattle.cube_io.specs.Seen.{StoreState, Seen}
use Rattle.cube_engine.specs.Kept.{history_of}
use Rattle.cube_engine.specs.Opening.{IsStartFault}
use Rattle.cube_engine.specs.declared.fault.StartFault.{StartFault}
use Rattle.cube_engine.specs.declared.fault.StartFault.TheVariants.{Failed, TooLong, Damaged, OtherCube, Inadmissible, NoMemory}
use Rattle.cube_opening.specs.declared.report.Report.{Report}
use Rattle.cube_opening.specs.declared.ruling.RuledGroup.{RuledGroup}
use Rattle.cube_seal.specs.Seals.{seal_log, Agrees, IsSealFault}
use Rattle.cube_seal.specs.Values.{digest_of_values}
use Rattle.cube_seal.specs.declared.reading.Said.TheVariants as said
use Rattle.cube_seal.specs.declared.fault.SealFault.{SealFault}
use Rattle.cube_seal.specs.declared.fault.SealFault.TheVariants as seal
use Rattle.cube_starting.specs.Grouping.{AllAgree, AllOf, AreAccepted, IsAccepted, IsRefusedAt, IsUnsealedAt, UnstartedGroups, journal_of}
use Rattle.cube_starting.specs.Starting.{journal_status, seal_status}

-- ---- its status: 4, 7 or 9

abbrev pub IsOfJournals : ℕ → Type 0
IsOfJournals n = (n ≡ 4) ⊎ (n ≡ 7) ⊎ (n ≡ 9)

refused : (core : Core) (k : ℕ) (gs : List RuledGroup) (store : StoreState) (r : Report) → IsRefusedAt core k gs store r → (r.status ≡ 4) × (r.outcomes ≡ [])
refused core k [] store r e = absurd e
refused core k (g ∷ gs) store r (inl (fault, e)) = (e.1.0, e.1.1)
refused core k (g ∷ gs) store r (inr e) = refused core (suc k) gs store r e.1

pub unsealed : (values : List ℕ) (k : ℕ) (ns : List (List ℕ)) (store : StoreState) (r : Report) → IsUnsealedAt values k ns store r → (r.status ≡ 4) × (r.outcomes ≡ [])
unsealed values k [] store r e = absurd e
unsealed values k (n ∷ ns) store r (inl (fault, e)) = (e.1.0, e.1.1)
unsealed values k (n ∷ ns) store r (inr e) = unsealed values (suc k) ns store r e.1

module _ {S : Type 0} (core : Core) (gs : List RuledGroup) (store : Seen StoreState S) (r : Report) where
  pub status : UnstartedGroups core gs store r → IsOfJournals r.status
  status (inl e) = inr (inl e.0.0)
  status (inr (inl e)) = inr (inl e.0.0)
  status (inr (inr (inl e))) = inr (inr e.0.0)
  status (inr (inr (inr (inl e)))) = inl (refused core 0 gs store.before r e.0).0
  status (inr (inr (inr (inr e)))) = inl (unsealed (digest_of_values core) 0 (map journal_of gs) store.before r e.0).0

  -- it reports no outcomes
  pub unasked : UnstartedGroups core gs store r → r.outcomes ≡ []
  unasked (inl e) = e.0.1
  unasked (inr (inl e)) = e.0.1
  unasked (inr (inr (inl e))) = e.0.1
  unasked (inr (inr (inr (inl e)))) = (refused core 0 gs store.before r e.0).1
  unasked (inr (inr (inr (inr e)))) = (unsealed (digest_of_values core) 0 (map journal_of gs) store.before r e.0).1

  -- with status 9 the store counted a fault
  pub failed : UnstartedGroups core gs store r → r.status ≡ 9 → Rose store.before.faults store.after.faults
  failed (inl e) nine = absurd (omega (arith, e.0.0, nine))
  failed (inr (inl e)) nine = absurd (omega (arith, e.0.0, nine))
  failed (inr (inr (inl e))) nine = e.1
  failed (inr (inr (inr (inl e)))) nine = absurd (omega (arith, (refused core 0 gs store.before r e.0).0, nine))
  failed (inr (inr (inr (inr e)))) nine = absurd (omega (arith, (unsealed (digest_of_values core) 0 (map journal_of gs) store.before r e.0).0, nine))

-- ---- where the journals and the seal are accepted it is for want of memory

-- no fault of these bytes
sound : (said : Result (List Entry) StartFault) (bytes : List ℕ) (fault : StartFault) → length bytes ≤ 2 ^ 28 → IsOk said → journal_status fault ≡ 4 → IsStartFault said bytes fault → ⊥
sound said bytes Failed short ok four is = omega (arith, four)
sound said bytes NoMemory short ok four is = omega (arith, four)
sound said bytes TooLong short ok four is = omega (arith, short, is)
sound (Ok h) bytes (Damaged line) short ok four (long, e) = cc
sound (Err e) bytes (Damaged line) short ok four is = cc
sound (Ok h) bytes (OtherCube kept now) short ok four (long, e) = cc
sound (Err e) bytes (OtherCube kept now) short ok four is = cc
sound (Ok h) bytes (Inadmissible line) short ok four (long, e) = cc
sound (Err e) bytes (Inadmissible line) short ok four is = cc

none_refused : (core : Core) (k : ℕ) (gs : List RuledGroup) (store : StoreState) (r : Report) → IsTrue store.told → AllOf (IsAccepted core store) k gs → IsRefusedAt core k gs store r → ⊥
none_refused core k [] store r told a e = e
none_refused core k (g ∷ gs) store r told a (inl (fault, e)) = sound (history_of core g.policy (store.logs k).state.now) (store.logs k).state.now fault a.0.0 a.0.1 e.0 (e.2 told)
none_refused core k (g ∷ gs) store r told a (inr e) = none_refused core (suc k) gs store r told a.1 e.1

unlike : (values bytes : List ℕ) (fault : SealFault) → Agrees values bytes → seal_status fault ≡ 4 → IsSealFault values bytes fault → ⊥
unlike values bytes seal.Failed a four is = omega (arith, four)
unlike values bytes seal.NoMemory a four is = omega (arith, four)
unlike values bytes seal.Damaged (inl a) four is = cc
unlike values bytes seal.Damaged (inr a) four is = cc
unlike values bytes (seal.OtherValues kept) (inl a) four (e, other) = cc
unlike values bytes (seal.OtherValues kept) (inr a) four (e, other) = other (same (sym e ∙ a))
  where
    same : said.Sealed kept ≡ said.Sealed values → kept ≡ values
    same e = cc

none_unsealed : (values : List ℕ) (k : ℕ) (ns : List (List ℕ)) (store : StoreState) (r : Report) → IsTrue store.told → AllAgree values store k ns → IsUnsealedAt values k ns store r → ⊥
none_unsealed values k [] store r told a e = e
none_unsealed values k (n ∷ ns) store r told a (inl (fault, e)) = unlike values (store.logs (seal_log k)).state.now fault a.0 e.0 (e.2 told)
none_unsealed values k (n ∷ ns) store r told a (inr e) = none_unsealed values (suc k) ns store r told a.1 e.1

pub accepted : {S : Type 0} (core : Core) (gs : List RuledGroup) (store : Seen StoreState S) (r : Report) → IsTrue store.before.told → AreAccepted core gs store.before
    → ¬ Rose store.before.faults store.after.faults → UnstartedGroups core gs store r → r.status ≡ 7
accepted core gs store r told a calm (inl e) = e.0.0
accepted core gs store r told a calm (inr (inl e)) = e.0.0
accepted core gs store r told a calm (inr (inr (inl e))) = absurd (calm e.1)
accepted core gs store r told a calm (inr (inr (inr (inl e)))) = absurd (none_refused core 0 gs store.before r told a.0 e.0)
accepted core gs store r told a calm (inr (inr (inr (inr e)))) = absurd (none_unsealed (digest_of_values core) 0 (map journal_of gs) store.before r told a.1 e.0)
