-- What a run over one journal says, what it asks the store for, and where its output goes.
use Rattle.std.specs.Prelude.{◌≡◌, ◌⊎◌, ◌≤◌, ◌+◌, ℕ, IsTrue, List}
use Rattle.cube_model.specs.declared.entry.Entry.{Entry}
use Rattle.cube_model.specs.declared.policy.Policy.{Policy}
use Rattle.cube_model.specs.Cores.{Core}
use Rattle.cube_io.specs.Seen.{FolderState, SinkState, StoreState, Seen, Unused}
use Rattle.cube_engine.specs.Kept.{IsExact}
use Rattle.cube_opening.specs.Opening.{GotBehind}
use Rattle.cube_opening.specs.declared.cube_files.CubeFiles.{CubeFiles}
use Rattle.cube_opening.specs.declared.report.Report.{Report}
use Rattle.cube_starting.specs.OneCube.{EndsClosed, IsOpen, Recovers}
use Rattle.cube_starting.specs.Starting.{AsksStore}

-- ---- what is said of an open cube

-- An open cube said this of its core, its policy and its history, which stays: every crash leaves it, and at each moment the log is as at
-- entry, or every crash leaves what recovers the same.
pub record SaidBy {S : Type 0} (cube : CubeFiles) (files : FolderState) (store : Seen StoreState S) (says : Core → Policy → List Entry → Type 0) : Type 0 where
  pub core : Core
  pub policy : Policy
  pub history : List Entry
  pub opened : IsOpen cube files store core policy history
  pub said : says core policy history
  pub passed : Recovers core policy store
  pub exact : IsTrue store.before.told → IsExact core policy history (store.after.logs 0).state

-- a run ends before its cube is open, behind the files of these names, and puts nothing; or the open cube says this
abbrev pub EndsOrSays : {F S O : Type 0} → CubeFiles → List (List ℕ) → (Core → Policy → List Entry → Type 0) → Seen FolderState F → Seen StoreState S → Seen SinkState O → Report → Type 0
EndsOrSays cube names says files store out r =
    (EndsClosed cube names files store r × Unused out)
    ⊎ (SaidBy cube files.before store says × GotBehind names files)

-- ---- what it asks the store for

-- the store was not used, or it was asked for the journal and for nothing else
abbrev pub AsksJournal : {S : Type 0} → List ℕ → Seen StoreState S → Report → Type 0
AsksJournal journal store r = Unused store ⊎ AsksStore journal store r

-- All that a run does that says something of a cube: it ends so, and completes so, and asks the store for its journal alone, by few calls.
pub record SaysOver {S : Type 0} (journal : List ℕ) (store : Seen StoreState S) (r : Report) (ends completes : Type 0) : Type 0 where
  pub answers : ends
  pub named : AsksJournal journal store r
  pub few_calls : IsTrue store.before.told → store.after.calls ≤ store.before.calls + 12
  pub complete : completes

-- All that a run does that answers asks: it ends so, and completes so; where memory ran out this holds; and it asks the store for its
-- journal alone, by few calls where the store failed.
pub record AsksOver {S : Type 0} (journal : List ℕ) (most : ℕ) (store : Seen StoreState S) (r : Report) (ends spared completes : Type 0) : Type 0 where
  pub answers : ends
  pub named : AsksJournal journal store r
  pub few_calls : r.status ≡ 9 → IsTrue store.before.told → store.after.calls ≤ store.before.calls + most
  pub memory : r.status ≡ 7 → spared
  pub complete : completes
