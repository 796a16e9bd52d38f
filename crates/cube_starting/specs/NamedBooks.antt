-- Books with names, which one server answers for.
use Rattle.std.specs.List.{list_any}
use Rattle.std.specs.Str.{bytes_eq}
use Rattle.std.specs.Prelude.{◌≡◌, ◌≢◌, ◌⊎◌, ⊤, ℕ, suc, ◌+◌, ◌≤◌, List, [], ◌∷◌, ◌++◌, length, map, Bool, true, None, Ok, IsTrue, if◌then◌else◌}
use Rattle.cube_model.specs.declared.ask.Ask.{Ask}
use Rattle.cube_model.specs.declared.entry.Entry.{Entry}
use Rattle.cube_model.specs.declared.outcome.Outcome.{Outcome}
use Rattle.cube_model.specs.declared.outcome.Outcome.TheVariants.{Given, JournalFault}
use Rattle.cube_model.specs.declared.policy.Policy.{Policy}
use Rattle.cube_model.specs.declared.reply.Reply.{Reply}
use Rattle.cube_model.specs.Cores.{Core, world}
use Rattle.cube_model.specs.Cubes.{Each}
use Rattle.cube_model.specs.Dims.{Dims}
use Rattle.cube_model.specs.Rooms.{Room, AreApart}
use Rattle.cube_io.specs.Desks.{ForeignStay, GivesRooms, LeavesAll, IsOneOf}
use Rattle.cube_io.specs.Seen.{StoreState}
use Rattle.cube_io.specs.States.{State, Log, Gained}
use Rattle.cube_io.specs.Told.{Works}
use Rattle.cube_engine.specs.Kept.{history_of, IsKept, IsExact, IsWithin}
use Rattle.cube_engine.specs.Books.{Book}
use Rattle.cube_engine.specs.Prepared.{SettleCause}
use Rattle.cube_engine.specs.Steps.{manner}
use Rattle.cube_engine.specs.Worlds.{IsRuled}
use Rattle.cube_starting.specs.declared.named.NamedBook.{NamedBook}

-- groups: their books in order, what became of the asks so far, and how many more there is space for
pub record Groups : Type 0 where
  pub books : List NamedBook
  pub outcomes : List Outcome
  pub left : ℕ

-- the room that a named book is
abbrev pub room : NamedBook → Room
room g = record { name = g.name; world = world g.book.core g.book.policy; history = g.book.history }

abbrev pub rooms_of : List NamedBook → List Room
rooms_of gs = map room gs

-- the dimensions of the books, which all have the same
abbrev pub dims_of : List NamedBook → Dims
dims_of [] = record { dimensions = []; measures = [] }
dims_of (g ∷ gs) = g.book.core.dims

abbrev pub is_named : List ℕ → NamedBook → Bool
is_named name g = bytes_eq g.name name

-- the last keep of some book failed
abbrev pub any_failed : List NamedBook → Bool
any_failed gs = list_any (λ g. g.book.journal.failed) gs

-- the book belongs to its log as that stands
abbrev pub IsKeptIn : (ℕ → Log) → NamedBook → Type 0
IsKeptIn logs g = IsKept g.book.core g.book.policy g.book.history g.book.journal (logs g.book.journal.log).state

-- the books are kept in the logs from this number on
abbrev pub AreNumbered : ℕ → List NamedBook → Type 0
AreNumbered n [] = ⊤
AreNumbered n (g ∷ gs) = (g.book.journal.log ≡ n) × AreNumbered (suc n) gs

-- what always holds of the books: at most 16 with names of their own, book k in log k, over the same dimensions
pub record AreInOrder (gs : List NamedBook) : Type 0 where
  pub few : length gs ≤ 16
  pub apart : AreApart (rooms_of gs)
  pub numbered : AreNumbered 0 gs
  pub idle : Each (λ g. g.book.waiting ≡ None) gs
  pub alike : Each (λ g. g.book.core.dims ≡ dims_of gs) gs

-- ---- what a crash leaves of the logs

-- what no call changes of a book: its cube, its policy, and the number of its log
pub record Place : Type 0 where
  pub core : Core
  pub policy : Policy
  pub log : ℕ

abbrev pub place : NamedBook → Place
place g = record { core = g.book.core; policy = g.book.policy; log = g.book.journal.log }

abbrev pub places_of : List NamedBook → List Place
places_of gs = map place gs

-- one of the places has the log, and this holds there of the history of the room at the same place
abbrev pub HoldsAt : (Core → Policy → List Entry → State → Type 0) → List Place → List Room → ℕ → State → Type 0
HoldsAt holds [] rooms log s = ⊥
HoldsAt holds (p ∷ ps) [] log s = ⊥
HoldsAt holds (p ∷ ps) (r ∷ rooms) log s = ((log ≡ p.log) × holds p.core p.policy r.history s) ⊎ HoldsAt holds ps rooms log s

-- ---- a turn

-- An ask was answered over the books: with one outcome, in one room at most, whose log alone was written.
pub record IsTurn (old new : List NamedBook) (ask : Ask) (reply : Reply) (o : Outcome) (store store' : StoreState) : Type 0 where
  pub order : AreInOrder new
  pub dims : dims_of new ≡ dims_of old
  pub replied : reply ≡ (manner (dims_of old)).reply (rooms_of old) ask o
  pub moved : rooms_of new ≡ (manner (dims_of old)).next (rooms_of old) ask o
  pub cause : SettleCause o ((manner (dims_of old)).next (rooms_of old) ask Given ≢ rooms_of old) store.faults store'.faults
  pub works : Works store store' (if any_failed old then 4 else 2)
  pub quiet : o ≢ JournalFault → any_failed new ≡ true → any_failed old ≡ true
  pub kept : IsTrue store.told → Each (IsKeptIn store'.logs) new
  pub places : places_of new ≡ places_of old
  pub others : ForeignStay (HoldsAt IsWithin (places_of old)) store store'
  pub passed : IsTrue store.told → (log : ℕ) → HoldsAt IsWithin (places_of old) (rooms_of old) log (store.logs log).state
      → Gained (λ s. HoldsAt IsWithin (places_of old) (rooms_of old) log s ⊎ HoldsAt IsWithin (places_of old) (rooms_of new) log s) (store.logs log) (store'.logs log)
  pub within : IsTrue store.told → (log : ℕ) → HoldsAt IsWithin (places_of old) (rooms_of old) log (store.logs log).state → HoldsAt IsWithin (places_of new) (rooms_of new) log (store'.logs log).state
  pub exact : o ≢ JournalFault → IsTrue store.told → (log : ℕ) → HoldsAt IsExact (places_of old) (rooms_of old) log (store.logs log).state → HoldsAt IsExact (places_of new) (rooms_of new) log (store'.logs log).state
  pub in_hand : IsTrue store.told → (log : ℕ) → HoldsAt IsWithin (places_of old) (rooms_of old) log (store.logs log).state
      → LeavesAll (GivesRooms (HoldsAt IsExact (places_of old)) log) (IsOneOf (rooms_of old) ((manner (dims_of old)).next (rooms_of old) ask Given)) (store.logs log) (store'.logs log)
  pub renewed : o ≢ JournalFault → IsTrue store.told → (log : ℕ) → HoldsAt IsWithin (places_of old) (rooms_of old) log (store.logs log).state
      → (store'.logs log ≡ store.logs log) ⊎ HoldsAt IsExact (places_of new) (rooms_of new) log (store'.logs log).state

-- The groups took the turn, and counted it.
pub record IsCounted (old new : Groups) (ask : Ask) (reply : Reply) (store store' : StoreState) : Type 0 where
  pub outcome : Outcome
  pub added : new.outcomes ≡ old.outcomes ++ outcome ∷ []
  pub left : new.left + 1 ≡ old.left
  pub turn : IsTurn old.books new.books ask reply outcome store store'

-- ---- a group is added

-- A group was added behind the others: its history is that of the bytes of its log, of which every crash leaves just that history.
pub record IsAdded (old new : List NamedBook) (name : List ℕ) (core : Core) (policy : Policy) (store store' : StoreState) : Type 0 where
  pub book : Book
  pub added : new ≡ old ++ record { name = name; book = book } ∷ []
  pub core_is : book.core ≡ core
  pub policy_is : book.policy ≡ policy
  pub log : book.journal.log ≡ length old
  pub rules : IsRuled book
  pub history : IsTrue store.told → history_of core policy (store.logs (length old)).state.now ≡ Ok book.history
  pub exact : IsTrue store.told → IsExact core policy book.history (store'.logs (length old)).state
