-- How a run ends at one journal and at the seal beside it, and what a crash may leave of their logs.
use Rattle.std.specs.Prelude.{◌≡◌, ◌≢◌, ◌⊎◌, ◌≤◌, ◌+◌, ◌^◌, ℕ, IsTrue, List, [], ◌∷◌, ◌++◌, codes, decimal}
use Rattle.cube_model.specs.declared.entry.Entry.{Entry}
use Rattle.cube_model.specs.declared.outcome.Outcome.{Outcome}
use Rattle.cube_model.specs.declared.policy.Policy.{Policy}
use Rattle.cube_model.specs.Cores.{Core}
use Rattle.cube_model.specs.TwoWorlds.{Extends}
use Rattle.cube_io.specs.Causes.{Rose}
use Rattle.cube_io.specs.Desks.{faults_in}
use Rattle.cube_io.specs.Seen.{StoreState, Seen}
use Rattle.cube_io.specs.States.{State, IsImage, Gained}
use Rattle.cube_journal.specs.Keeping.{IsInRecovery}
use Rattle.cube_engine.specs.Kept.{history_of, GivesHistory, IsExact, IsWithin}
use Rattle.cube_engine.specs.Opening.{IsStartFault}
use Rattle.cube_engine.specs.declared.fault.StartFault.{StartFault}
use Rattle.cube_engine.specs.declared.fault.StartFault.TheVariants.{Failed, TooLong, Damaged, OtherCube, Inadmissible, NoMemory}
use Rattle.cube_seal.specs.Seals.{seal_log, IsSealable, IsSealFault}
use Rattle.cube_seal.specs.declared.fault.SealFault.{SealFault}
use Rattle.cube_seal.specs.declared.fault.SealFault.TheVariants as seal
use Rattle.cube_opening.specs.Reports.{IsReport, NoMessage}
use Rattle.cube_opening.specs.declared.report.Report.{Report}

-- ---- how a run ends at its journal

-- the text on a journal that was not opened, which is called so
abbrev pub journal_text_as : List ℕ → StartFault → List ℕ
journal_text_as called Failed = codes "store failed\n"
journal_text_as called TooLong = called ++ codes ": too long\n"
journal_text_as called (Damaged line) = called ++ codes ": line " ++ decimal line ++ codes " damaged\n"
journal_text_as called (OtherCube kept now) = called ++ codes ": digest " ++ kept ++ codes " is not " ++ now ++ codes "\n"
journal_text_as called (Inadmissible line) = called ++ codes ": line " ++ decimal line ++ codes " inadmissible\n"
journal_text_as called NoMemory = codes "no memory\n"

abbrev pub journal_status : StartFault → ℕ
journal_status Failed = 9
journal_status TooLong = 4
journal_status (Damaged line) = 4
journal_status (OtherCube kept now) = 4
journal_status (Inadmissible line) = 4
journal_status NoMemory = 7

-- the bytes of the log of this number are refused by this fault of theirs, and the journal is called so
abbrev pub IsRefusedIn : ℕ → List ℕ → Core → Policy → StoreState → StartFault → Report → Type 0
IsRefusedIn log called core policy store fault r =
    (journal_status fault ≡ 4) × IsReport 4 (journal_text_as called fault) r × (IsTrue store.told → IsStartFault (history_of core policy (store.logs log).state.now) (store.logs log).state.now fault)

-- the text on a seal that does not hold the journal that is called so, where this is the digest of the values
abbrev pub seal_text_as : List ℕ → List ℕ → SealFault → List ℕ
seal_text_as called now seal.Failed = codes "store failed\n"
seal_text_as called now seal.Damaged = called ++ codes ": seal damaged\n"
seal_text_as called now (seal.OtherValues kept) = called ++ codes ": values " ++ kept ++ codes " are not " ++ now ++ codes "\n"
seal_text_as called now seal.NoMemory = codes "no memory\n"

abbrev pub seal_status : SealFault → ℕ
seal_status seal.Failed = 9
seal_status seal.Damaged = 4
seal_status (seal.OtherValues kept) = 4
seal_status seal.NoMemory = 7

-- the bytes of the seal beside the log of this number are refused by this fault of theirs, and the journal is called so
abbrev pub IsUnsealedIn : ℕ → List ℕ → List ℕ → StoreState → SealFault → Report → Type 0
IsUnsealedIn log called values store fault r =
    (seal_status fault ≡ 4) × IsReport 4 (seal_text_as called values fault) r × (IsTrue store.told → IsSealFault values (store.logs (seal_log log)).state.now fault)

-- the store counted no fault
abbrev pub IsCalm : {S : Type 0} → Seen StoreState S → Type 0
IsCalm store = store.after.faults ≡ store.before.faults

-- A run ended at the seal of the journal in the log of this number, which is called so: memory ran out, or the store failed, or the bytes of
-- the seal are refused.
abbrev pub EndsAtSeal : {S : Type 0} → ℕ → List ℕ → List ℕ → Seen StoreState S → Report → Type 0
EndsAtSeal log called values store r =
    (NoMessage r × IsCalm store)
    ⊎ (IsReport 7 (codes "no memory\n") r × IsCalm store)
    ⊎ (IsReport 9 (codes "store failed\n") r × Rose store.before.faults store.after.faults)
    ⊎ ((fault : SealFault) × IsUnsealedIn log called values store.before fault r × IsCalm store)

-- the journal's name was asked for; it may lack where the store failed
abbrev pub AsksStore : {S : Type 0} → List ℕ → Seen StoreState S → Report → Type 0
AsksStore name store r = IsTrue store.before.told → (store.after.names ≡ store.before.names ++ name ∷ []) ⊎ ((store.after.names ≡ store.before.names) × (r.status ≡ 9))

-- At each moment the log is as at entry, or every crash leaves what recovers the same.
abbrev pub RecoversIn : {S : Type 0} → ℕ → Core → Policy → Seen StoreState S → Type 0
RecoversIn log core policy store = IsTrue store.before.told → Gained (IsInRecovery (history_of core policy) (store.before.logs log).state) (store.before.logs log) (store.after.logs log)

-- At no moment does a crash leave a seal of other values beside the log of this number, where none did so at entry.
abbrev pub SealsIn : {S : Type 0} → ℕ → List ℕ → Seen StoreState S → Type 0
SealsIn log values store =
    IsTrue store.before.told → IsSealable values (store.before.logs (seal_log log)).state → Gained (IsSealable values) (store.before.logs (seal_log log)) (store.after.logs (seal_log log))

-- ---- what a crash may leave

-- a state of the log between these histories: as when it was opened, or every crash leaves what recovers the same; or it leaves what
-- recovers a history behind the first and before the last, alone or with one more request
abbrev pub IsBetween : Core → Policy → State → List Entry → List Entry → State → Type 0
IsBetween core policy opened first last s =
    IsInRecovery (history_of core policy) opened s ⊎ ((h : List Entry) × Extends first h × Extends h last × IsWithin core policy h s)

-- The log of a run that began and ended with these histories. Behind it every crash leaves what recovers the last one, alone or with one
-- more request, and just that where the journal never failed.
pub record SurvivedIn {S : Type 0} (log : ℕ) (core : Core) (policy : Policy) (first last : List Entry) (os : List Outcome) (store : Seen StoreState S) : Type 0 where
  pub passed : Gained (IsBetween core policy (store.before.logs log).state first last) (store.before.logs log) (store.after.logs log)
  pub ends : IsWithin core policy last (store.after.logs log).state
  pub exact : faults_in os ≡ 0 → IsExact core policy last (store.after.logs log).state

-- whatever a crash leaves of the log at this state gives just one of these histories back
abbrev pub GivesOne : Core → Policy → (List Entry → Type 0) → State → Type 0
GivesOne core policy these s = (bytes : List ℕ) → IsImage s bytes → (h : List Entry) × these h × GivesHistory core policy h bytes

-- The log of a cube that was opened and then asked. At each moment it is as when it was opened, or every crash leaves what recovers the
-- same, or what gives one of these histories back; and so it is at the end.
pub record HeldIn {S : Type 0} (log : ℕ) (core : Core) (policy : Policy) (these : List Entry → Type 0) (store : Seen StoreState S) : Type 0 where
  pub passed : Gained (λ s. IsInRecovery (history_of core policy) (store.before.logs log).state s ⊎ GivesOne core policy these s) (store.before.logs log) (store.after.logs log)
  pub last : GivesOne core policy these (store.after.logs log).state
