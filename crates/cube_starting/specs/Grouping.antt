-- Groups over one core, each with its policy, its history and its log: how a run ends at their journals, and what is open behind them.
use Rattle.std.specs.Prelude.{◌≡◌, ◌≢◌, ◌⊎◌, ⊤, ◌+◌, ◌*◌, ◌^◌, ◌<◌, ◌≤◌, ℕ, suc, IsTrue, List, [], ◌∷◌, ◌++◌, length, map, codes, IsOk, Ok}
use Rattle.cube_model.specs.declared.entry.Entry.{Entry}
use Rattle.cube_model.specs.declared.outcome.Outcome.{Outcome}
use Rattle.cube_model.specs.declared.policy.Policy.{Policy}
use Rattle.cube_model.specs.Cores.{Core, shown, world}
use Rattle.cube_model.specs.Cubes.{Each}
use Rattle.cube_model.specs.Rooms.{Room}
use Rattle.cube_model.specs.Verdicts.{IsAdmissible}
use Rattle.cube_groups.specs.declared.group.GroupFile.{GroupFile}
use Rattle.cube_io.specs.Causes.{Rose, RoseBy}
use Rattle.cube_io.specs.Desks.{faults_in}
use Rattle.cube_io.specs.Seen.{FolderState, StoreState, Seen, Unused}
use Rattle.cube_io.specs.Told.{SameLogs}
use Rattle.cube_engine.specs.Kept.{history_of, IsExact}
use Rattle.cube_engine.specs.Worlds.{IsRuled}
use Rattle.cube_engine.specs.declared.fault.StartFault.{StartFault}
use Rattle.cube_opening.specs.Opening.{GotBehind}
use Rattle.cube_opening.specs.Reports.{IsReport, NoMessage}
use Rattle.cube_opening.specs.Ruling.{called, ruled_names, EndsUnruled, MakeGroups}
use Rattle.cube_opening.specs.declared.cube_files.RuledFiles.{RuledFiles}
use Rattle.cube_opening.specs.declared.report.Report.{Report}
use Rattle.cube_opening.specs.declared.ruling.RuledGroup.{RuledGroup}
use Rattle.cube_seal.specs.Seals.{seal_log, Agrees, IsSealed}
use Rattle.cube_seal.specs.Values.{digest_of_values}
use Rattle.cube_seal.specs.declared.fault.SealFault.{SealFault}
use Rattle.cube_starting.specs.declared.named.NamedBook.{NamedBook}
use Rattle.cube_starting.specs.Starting.{HeldIn, IsCalm, IsRefusedIn, IsUnsealedIn, RecoversIn, SealsIn, SurvivedIn}

-- ---- groups in a run

-- A group in a run: its name, its policy, its history when its journal was opened, and its history at the end.
pub record GroupRun : Type 0 where
  pub name : List ℕ
  pub policy : Policy
  pub first : List Entry
  pub last : List Entry

-- the groups, by what their files say
abbrev pub ruled_by : GroupRun → RuledGroup
ruled_by g = record { name = g.name; policy = g.policy }

abbrev pub ruled : List GroupRun → List RuledGroup
ruled gs = map ruled_by gs

-- it holds of each with its place, which is the number of its log
abbrev pub AllOf : {X : Type 0} → (ℕ → X → Type 0) → ℕ → List X → Type 0
AllOf holds k [] = ⊤
AllOf holds k (g ∷ gs) = holds k g × AllOf holds (suc k) gs

-- the room of a group when its journal was opened, and at the end
abbrev pub first_room : Core → GroupRun → Room
first_room core g = record { name = g.name; world = world core g.policy; history = g.first }

abbrev pub last_room : Core → GroupRun → Room
last_room core g = record { name = g.name; world = world core g.policy; history = g.last }

abbrev pub first_rooms : Core → List GroupRun → List Room
first_rooms core gs = map (first_room core) gs

abbrev pub last_rooms : Core → List GroupRun → List Room
last_rooms core gs = map (last_room core) gs

-- ---- how a run ends at their journals

-- The bytes of the log of a group are refused by a fault of theirs, where those of the groups before it are accepted.
abbrev pub IsRefusedAt : Core → ℕ → List RuledGroup → StoreState → Report → Type 0
IsRefusedAt core k [] store r = ⊥
IsRefusedAt core k (g ∷ gs) store r =
    ((fault : StartFault) × IsRefusedIn k (called (codes "journal") g.name) core g.policy store fault r)
    ⊎ ((IsTrue store.told → IsOk (history_of core g.policy (store.logs k).state.now)) × IsRefusedAt core (suc k) gs store r)

-- what the journal of a group is called
abbrev pub journal_of : RuledGroup → List ℕ
journal_of g = called (codes "journal") g.name

-- the seal beside each of these journals, in the logs from this number on, says nothing yet, or the digest of these values
abbrev pub AllAgree : List ℕ → StoreState → ℕ → List (List ℕ) → Type 0
AllAgree values store k journals = AllOf (λ log (n : List ℕ). Agrees values (store.logs (seal_log log)).state.now) k journals

-- whatever a crash leaves of it says the digest of these values
abbrev pub AllSealed : List ℕ → StoreState → ℕ → List (List ℕ) → Type 0
AllSealed values store k journals = AllOf (λ log (n : List ℕ). IsSealed values (store.logs (seal_log log)).state) k journals

-- at no moment does a crash leave another one, where none did so at entry
abbrev pub AllSeals : {S : Type 0} → List ℕ → Seen StoreState S → ℕ → List (List ℕ) → Type 0
AllSeals values store k journals = AllOf (λ log (n : List ℕ). SealsIn log values store) k journals

-- The bytes of the seal beside the first of these journals are refused, or those of one behind it, where it agrees.
abbrev pub IsUnsealedAt : List ℕ → ℕ → List (List ℕ) → StoreState → Report → Type 0
IsUnsealedAt values k [] store r = ⊥
IsUnsealedAt values k (n ∷ ns) store r =
    ((fault : SealFault) × IsUnsealedIn k n values store fault r)
    ⊎ ((IsTrue store.told → Agrees values (store.logs (seal_log k)).state.now) × IsUnsealedAt values (suc k) ns store r)

-- A run ended at the seals of these journals: memory ran out, or the store failed, or the bytes of one of them are refused.
abbrev pub EndsAtSeals : {S : Type 0} → ℕ → List (List ℕ) → List ℕ → Seen StoreState S → Report → Type 0
EndsAtSeals k journals values store r =
    (NoMessage r × IsCalm store)
    ⊎ (IsReport 7 (codes "no memory\n") r × IsCalm store)
    ⊎ (IsReport 9 (codes "store failed\n") r × Rose store.before.faults store.after.faults)
    ⊎ (IsUnsealedAt values k journals store.before r × IsCalm store)

-- A run over this core and these groups ended at the journals: memory ran out, or the store failed, or the bytes of a group's journal are
-- refused, or those of its seal, which tells the digest of the values of the core.
abbrev pub UnstartedGroups : {S : Type 0} → Core → List RuledGroup → Seen StoreState S → Report → Type 0
UnstartedGroups core gs store r =
    (NoMessage r × IsCalm store)
    ⊎ (IsReport 7 (codes "no memory\n") r × IsCalm store)
    ⊎ (IsReport 9 (codes "store failed\n") r × Rose store.before.faults store.after.faults)
    ⊎ (IsRefusedAt core 0 gs store.before r × IsCalm store)
    ⊎ (IsUnsealedAt (digest_of_values core) 0 (map journal_of gs) store.before r × IsCalm store)

-- at each moment the log of each group is as at entry, or every crash leaves what recovers the same
abbrev pub AllRecover : {S : Type 0} → Core → ℕ → List RuledGroup → Seen StoreState S → Type 0
AllRecover core k gs store = AllOf (λ log (g : RuledGroup). RecoversIn log core g.policy store) k gs

-- no log changed but so many from this number on
abbrev pub OnlyFrom : ℕ → ℕ → StoreState → StoreState → Type 0
OnlyFrom from many old new = IsTrue old.told → (k : ℕ) → (k < from) ⊎ (from + many ≤ k) → new.logs k ≡ old.logs k

-- the log of this number is that of the seal of none of the journals from this number on, so many
abbrev pub IsNoSeal : ℕ → ℕ → ℕ → Type 0
IsNoSeal from many k = (j : ℕ) → from ≤ j → j < from + many → k ≢ seal_log j

-- no log changed but those of the seals of so many journals from this number on
abbrev pub OnlySeals : ℕ → ℕ → StoreState → StoreState → Type 0
OnlySeals from many old new = IsTrue old.told → (k : ℕ) → IsNoSeal from many k → new.logs k ≡ old.logs k

-- no log changed but the first ones, so many, and those of their seals
abbrev pub OnlyFirst : ℕ → StoreState → StoreState → Type 0
OnlyFirst many old new = IsTrue old.told → (k : ℕ) → many ≤ k → IsNoSeal 0 many k → new.logs k ≡ old.logs k

-- What the opening of so many journals leaves as it was: the store tells what it told before, no log changed but theirs and those of their
-- seals, and it took few calls.
pub record OpensFew {S : Type 0} (many : ℕ) (store : Seen StoreState S) : Type 0 where
  pub told : store.after.told ≡ store.before.told
  pub others : OnlyFirst many store.before store.after
  pub calls : IsTrue store.before.told → store.after.calls ≤ store.before.calls + (1 + 11 * many)

-- Each seal says nothing yet, or the digest of the values of the core; or no log was changed.
abbrev pub AreComparedFirst : {S : Type 0} → Core → List RuledGroup → Seen StoreState S → Type 0
AreComparedFirst core gs store = (IsTrue store.before.told → AllAgree (digest_of_values core) store.before 0 (map journal_of gs)) ⊎ SameLogs store.before store.after

-- ---- books that were started

-- The book of a group was started in the log of this number: over this core, with the history that the log recovers; every crash leaves
-- just that, and at each moment left what recovers the same.
pub record IsStarted {S : Type 0} (core : Core) (store : Seen StoreState S) (log : ℕ) (g : RuledGroup) (b : NamedBook) : Type 0 where
  pub name : b.name ≡ g.name
  pub core_is : b.book.core ≡ core
  pub policy : b.book.policy ≡ g.policy
  pub log_is : b.book.journal.log ≡ log
  pub rules : IsRuled b.book
  pub history : IsTrue store.before.told → history_of core g.policy (store.before.logs log).state.now ≡ Ok b.book.history
  pub exact : IsTrue store.before.told → IsExact core g.policy b.book.history (store.after.logs log).state

-- those of these groups, in the logs from this number on
abbrev pub AreStarted : {S : Type 0} → Core → Seen StoreState S → ℕ → List RuledGroup → List NamedBook → Type 0
AreStarted core store k [] [] = ⊤
AreStarted core store k [] (b ∷ bs) = ⊥
AreStarted core store k (g ∷ gs) [] = ⊥
AreStarted core store k (g ∷ gs) (b ∷ bs) = IsStarted core store k g b × AreStarted core store (suc k) gs bs

-- How the start of these groups ended, from the log of this number on.
abbrev pub RestUnstarted : {S : Type 0} → Core → ℕ → List RuledGroup → Seen StoreState S → Report → Type 0
RestUnstarted core k gs store r =
    (NoMessage r × IsCalm store)
    ⊎ (IsReport 7 (codes "no memory\n") r × IsCalm store)
    ⊎ (IsReport 9 (codes "store failed\n") r × Rose store.before.faults store.after.faults)
    ⊎ (IsRefusedAt core k gs store.before r × IsCalm store)

-- what the start of groups leaves as it was: the store tells what it told, and stays attached and was asked for no name
pub record Gathers {S : Type 0} (many : ℕ) (store : Seen StoreState S) : Type 0 where
  pub told : store.after.told ≡ store.before.told
  pub attached : IsTrue store.after.attached
  pub names : IsTrue store.before.told → store.after.names ≡ store.before.names
  pub calls : IsTrue store.before.told → store.after.calls ≤ store.before.calls + 6 * many

-- ---- how a run ends before its groups are open

-- A run over this core and these groups ended at their journals: for this reason; and at each moment the logs and the seals are as at
-- entry, or every crash leaves what recovers the same, and no seal of other values.
pub record EndsAtJournals {S : Type 0} (core : Core) (gs : List RuledGroup) (store : Seen StoreState S) (r : Report) : Type 0 where
  pub unstarted : UnstartedGroups core gs store r
  pub passed : AllRecover core 0 gs store
  pub seals : AllSeals (digest_of_values core) store 0 (map journal_of gs)
  pub compared : AreComparedFirst core gs store

-- A run ended at the journals, over the core and the groups that the files make, behind the files of these further names. No log was
-- touched but where the groups file has a group of its number, and the seal beside it.
pub record EndsUnstartedGroups {F S : Type 0} (cube : RuledFiles) (more : List (List ℕ)) (files : Seen FolderState F) (store : Seen StoreState S) (r : Report) : Type 0 where
  pub core : Core
  pub listed : List GroupFile
  pub groups : List RuledGroup
  pub files_make : MakeGroups cube files.before core listed groups
  pub behind : GotBehind (ruled_names cube listed ++ more) files
  pub ended : EndsAtJournals core groups store r
  pub others : OnlyFirst (length groups) store.before store.after

-- A run ended before its cube was open: at a file, or at a journal behind the files.
abbrev pub EndsClosedGroups : {F S : Type 0} → RuledFiles → List (List ℕ) → Seen FolderState F → Seen StoreState S → Report → Type 0
EndsClosedGroups cube more files store r = (EndsUnruled cube files r × Unused store) ⊎ EndsUnstartedGroups cube more files store r

-- the bytes of the log of a group are accepted
abbrev pub IsAccepted : Core → StoreState → ℕ → RuledGroup → Type 0
IsAccepted core store log g = (length (store.logs log).state.now ≤ 2 ^ 28) × IsOk (history_of core g.policy (store.logs log).state.now)

-- the journals of these groups and their seals are accepted
abbrev pub AreAccepted : Core → List RuledGroup → StoreState → Type 0
AreAccepted core gs store = AllOf (IsAccepted core store) 0 gs × AllAgree (digest_of_values core) store 0 (map journal_of gs)

-- those of the groups that the files make
pub record HaveJournals (cube : RuledFiles) (files : FolderState) (store : StoreState) : Type 0 where
  pub told : IsTrue store.told
  pub accepted : (core : Core) (fs : List GroupFile) (gs : List RuledGroup) → MakeGroups cube files core fs gs → AreAccepted core gs store

-- ---- open groups

-- The journals of these groups are held by their seals: each said nothing yet, or the digest of the values of the core; and whatever a
-- crash leaves now says it.
pub record AreHeld {S : Type 0} (core : Core) (gs : List RuledGroup) (store : Seen StoreState S) : Type 0 where
  pub agreed : IsTrue store.before.told → AllAgree (digest_of_values core) store.before 0 (map journal_of gs)
  pub sealed : IsTrue store.before.told → AllSealed (digest_of_values core) store.after 0 (map journal_of gs)
  pub seals : AllSeals (digest_of_values core) store 0 (map journal_of gs)

-- The groups were opened, behind their files and the files of these further names: the core and the policies that the files make, and the
-- histories that the journals recover, which their seals hold.
pub record AreOpen {F S : Type 0} (cube : RuledFiles) (more : List (List ℕ)) (files : Seen FolderState F) (store : Seen StoreState S) (core : Core) (gs : List GroupRun) : Type 0 where
  pub listed : List GroupFile
  pub files_make : MakeGroups cube files.before core listed (ruled gs)
  pub behind : GotBehind (ruled_names cube listed ++ more) files
  pub recovered : IsTrue store.before.told → AllOf (λ log (g : GroupRun). history_of core g.policy (store.before.logs log).state.now ≡ Ok g.first) 0 gs
  pub admissible : Each (λ g. IsAdmissible (shown core g.policy) g.first) gs
  pub held : AreHeld core (ruled gs) store

-- ---- books that were opened, and what they kept

-- these are the books at the start of the run
abbrev pub AreRunsOf : List NamedBook → List GroupRun → Type 0
AreRunsOf [] [] = ⊤
AreRunsOf [] (g ∷ gs) = ⊥
AreRunsOf (b ∷ bs) [] = ⊥
AreRunsOf (b ∷ bs) (g ∷ gs) = ((b.name ≡ g.name) × (b.book.policy ≡ g.policy) × (b.book.history ≡ g.first)) × AreRunsOf bs gs

-- The journals of groups kept what was answered, each by itself: beyond that a crash leaves in a journal the request in hand, and no other.
-- For each ask in which a journal failed the store's count of faults rose. The store took few calls to open them, and four at most for each
-- ask.
pub record AreKept {S : Type 0} (core : Core) (gs : List GroupRun) (os : List Outcome) (in_hand : ℕ → List Entry → Type 0) (store : Seen StoreState S) : Type 0 where
  pub survived : IsTrue store.before.told → AllOf (λ k (g : GroupRun). SurvivedIn k core g.policy g.first g.last os store) 0 gs
  pub held : IsTrue store.before.told → AllOf (λ k (g : GroupRun). HeldIn k core g.policy (in_hand k) store) 0 gs
  pub failed : RoseBy (faults_in os) store.before.faults store.after.faults
  pub few : IsTrue store.before.told → store.after.calls ≤ store.before.calls + (1 + 11 * length gs) + 4 * length os
