-- One cube whose users are under one policy: they are the one group without a name. How a run ends at its journal, and what is open behind it.
use Rattle.std.specs.Prelude.{◌≡◌, ◌⊎◌, ℕ, IsTrue, List, [], ◌∷◌, None, Ok}
use Rattle.cube_model.specs.declared.entry.Entry.{Entry}
use Rattle.cube_model.specs.declared.outcome.Outcome.{Outcome}
use Rattle.cube_model.specs.declared.policy.Policy.{Policy}
use Rattle.cube_model.specs.Cores.{Core, shown}
use Rattle.cube_model.specs.Verdicts.{IsAdmissible}
use Rattle.cube_io.specs.Seen.{FolderState, StoreState, Seen, Unused}
use Rattle.cube_engine.specs.Books.{Book}
use Rattle.cube_engine.specs.Kept.{history_of}
use Rattle.cube_opening.specs.Opening.{Make, GotBehind, EndsUnopened}
use Rattle.cube_opening.specs.declared.cube_files.CubeFiles.{CubeFiles}
use Rattle.cube_opening.specs.declared.report.Report.{Report}
use Rattle.cube_opening.specs.declared.ruling.RuledGroup.{RuledGroup}
use Rattle.cube_starting.specs.Grouping.{AreAccepted, AreHeld, EndsAtJournals, IsStarted}
use Rattle.cube_starting.specs.NamedBooks.{Groups}
use Rattle.cube_starting.specs.declared.named.NamedBook.{NamedBook}
use Rattle.cube_starting.specs.Starting.{RecoversIn, SurvivedIn}

-- the group of all users
abbrev pub everyone : Policy → RuledGroup
everyone policy = record { name = []; policy = policy }

abbrev pub under : Policy → List RuledGroup
under policy = everyone policy ∷ []

-- at each moment the log is as at entry, or every crash leaves what recovers the same
abbrev pub Recovers : {S : Type 0} → Core → Policy → Seen StoreState S → Type 0
Recovers core policy store = RecoversIn 0 core policy store

-- the log of a run from the first history to the last
abbrev pub Survived : {S : Type 0} → Core → Policy → List Entry → List Entry → List Outcome → Seen StoreState S → Type 0
Survived core policy first last os store = SurvivedIn 0 core policy first last os store

-- ---- how a run ends at its journal

-- A run ended at the journal, over the core and the policy that the files make.
pub record EndsUnstarted {S : Type 0} (cube : CubeFiles) (files : FolderState) (store : Seen StoreState S) (r : Report) : Type 0 where
  pub core : Core
  pub policy : Policy
  pub files_make : Make cube files core policy
  pub ended : EndsAtJournals core (under policy) store r

-- A run ended before its cube was open: at a file, or at the journal behind the files of these names.
abbrev pub EndsClosed : {F S : Type 0} → CubeFiles → List (List ℕ) → Seen FolderState F → Seen StoreState S → Report → Type 0
EndsClosed cube names files store r = (EndsUnopened cube files r × Unused store) ⊎ (EndsUnstarted cube files.before store r × GotBehind names files)

-- the journal and its seal are accepted
pub record HasJournal (cube : CubeFiles) (files : FolderState) (store : StoreState) : Type 0 where
  pub told : IsTrue store.told
  pub accepted : (core : Core) (policy : Policy) → Make cube files core policy → AreAccepted core (under policy) store

-- ---- an open cube

-- A cube was opened: the core and the policy that the files make, and the history that the journal recovers, which its seal holds.
pub record IsOpen {S : Type 0} (cube : CubeFiles) (files : FolderState) (store : Seen StoreState S) (core : Core) (policy : Policy) (history : List Entry) : Type 0 where
  pub files_make : Make cube files core policy
  pub recovered : IsTrue store.before.told → history_of core policy (store.before.logs 0).state.now ≡ Ok history
  pub admissible : IsAdmissible (shown core policy) history
  pub held : AreHeld core (under policy) store

-- the book of all users
abbrev pub unnamed : Book → NamedBook
unnamed b = record { name = []; book = b }

-- A book was started for them in log 0, and nothing waits in it.
pub record IsBegun {S : Type 0} (core : Core) (policy : Policy) (store : Seen StoreState S) (b : Book) : Type 0 where
  pub idle : b.waiting ≡ None
  pub started : IsStarted core store 0 (everyone policy) (unnamed b)

-- The groups are theirs alone: their book was begun so, it was asked nothing, and there is space for so many asks.
pub record IsBegunAlone {S : Type 0} (core : Core) (policy : Policy) (stated : ℕ) (store : Seen StoreState S) (groups : Groups) : Type 0 where
  pub book : Book
  pub books_are : groups.books ≡ unnamed book ∷ []
  pub begun : IsBegun core policy store book
  pub outcomes : groups.outcomes ≡ []
  pub left : groups.left ≡ stated
