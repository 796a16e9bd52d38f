-- A holding is one cube with the policy that it is asked under, and what its history holds; a book is one whose history is kept in a log.
use Rattle.std.specs.Prelude.{◌≡◌, ◌≢◌, ◌⊎◌, ℕ, IsTrue, List, Bool, true, false, None, Some, if◌then◌else◌}
use Rattle.std.specs.declared.option.Option.{Option}
use Rattle.cube_model.specs.declared.ask.Question.{Question}
use Rattle.cube_model.specs.declared.entry.Entry.{Entry}
use Rattle.cube_model.specs.declared.outcome.Outcome.{Outcome}
use Rattle.cube_model.specs.declared.outcome.Outcome.TheVariants.{Given, JournalFault}
use Rattle.cube_model.specs.declared.policy.Policy.{Policy}
use Rattle.cube_model.specs.declared.reply.Reply.{Reply}
use Rattle.cube_model.specs.declared.request.Request.{Request}
use Rattle.cube_model.specs.declared.verdict.Verdict.{Verdict}
use Rattle.cube_model.specs.declared.verdict.Verdict.TheVariants.{Answer, Full, SourceWould, Pair, Single}
use Rattle.cube_model.specs.Cores.{Core, shown, world}
use Rattle.cube_model.specs.Runs.{reply_by, next_by}
use Rattle.cube_io.specs.Desks.{LeavesAll, IsOneOf}
use Rattle.cube_io.specs.Seen.{StoreState}
use Rattle.cube_io.specs.States.{Log, Gained}
use Rattle.cube_io.specs.Told.{Works, OthersStay}
use Rattle.cube_journal.specs.Keeping.{Journal}
use Rattle.cube_journal.specs.RequestLines.{request_line}
use Rattle.cube_rollup.specs.Rollups.{entry_of}
use Rattle.cube_engine.specs.Kept.{MayEnter, GivesHistory, IsKept, IsExact, IsWithin}
use Rattle.cube_engine.specs.Prepared.{SettleCause}
use Rattle.cube_engine.specs.Steps.{by_words}

-- one cube with its policy and its history, and the request that waits to enter that, if any
pub record Holding : Type 0 where
  pub core : Core
  pub policy : Policy
  pub history : List Entry
  pub waiting : Option Request

-- the holding where this waits
abbrev pub that_waits : Option Request → Holding → Holding
that_waits waits b = record { core = b.core; policy = b.policy; history = b.history; waiting = waits }

pub record Book : Type 0 where
  pub core : Core
  pub policy : Policy
  pub history : List Entry
  pub waiting : Option Request
  pub journal : Journal

-- the verdict is an answer
abbrev pub is_answer : Verdict → Bool
is_answer (Answer fresh) = true
is_answer (Full held) = false
is_answer (SourceWould c t) = false
is_answer (Pair k i j t) = false
is_answer (Single k i t) = false

-- the reply to what is asked of a book, by what became of it
abbrev pub book_reply : Outcome → Book → Question → Reply
book_reply o b a = reply_by (by_words b.core.dims) o a (world b.core b.policy) b.history

-- the history behind it
abbrev pub book_history : Outcome → Book → Question → List Entry
book_history o b a = next_by (by_words b.core.dims) o a (shown b.core b.policy) b.history

-- where every crash left just the history of the book, it leaves just this one behind
abbrev pub StaysExact : Book → List Entry → StoreState → StoreState → Type 0
StaysExact b h store store' = IsTrue store.told → IsExact b.core b.policy b.history (store.logs b.journal.log).state → IsExact b.core b.policy h (store'.logs b.journal.log).state

-- beyond what a crash could leave of the log of a book before, it leaves the history of the book or this one
abbrev pub KeepsInHand : Book → List Entry → Log → Log → Type 0
KeepsInHand b h old new = LeavesAll (GivesHistory b.core b.policy) (IsOneOf b.history h) old new

-- the log is as it was, or whatever a crash leaves of it recovers just this history
abbrev pub IsRenewed : Book → List Entry → Log → Log → Type 0
IsRenewed b h old new = (new ≡ old) ⊎ IsExact b.core b.policy h new.state

-- A question was answered by a book: with one outcome, by the reply and the history of that. The journal failed only where the question was
-- to be kept, and where the store's count of faults rose; the store is called twice at most, and four times where the last keep failed. The
-- book belongs to the log as that stands; where no keep failed every crash leaves just the history behind the question, and at each moment
-- the history before it, alone or with one more request: beyond what a crash could leave before, that of the question. Where the journal did
-- not fail, the log stays or every crash leaves just the history behind the question, also where an earlier keep failed.
pub record AnswersOne (b c : Book) (q : Question) (reply : Reply) (o : Outcome) (st st' : StoreState) : Type 0 where
  pub replied : reply ≡ book_reply o b q
  pub history : c.history ≡ book_history o b q
  pub core : c.core ≡ b.core
  pub policy : c.policy ≡ b.policy
  pub log : c.journal.log ≡ b.journal.log
  pub none : c.waiting ≡ None
  pub cause : SettleCause o (book_history Given b q ≢ b.history) st.faults st'.faults
  pub works : Works st st' (if b.journal.failed then 4 else 2)
  pub quiet : o ≢ JournalFault → c.journal.failed ≡ true → b.journal.failed ≡ true
  pub others : OthersStay b.journal.log st st'
  pub kept : IsTrue st.told → IsKept b.core b.policy c.history c.journal (st'.logs b.journal.log).state
  pub exact : o ≢ JournalFault → StaysExact b c.history st st'
  pub within : IsTrue st.told → IsWithin b.core b.policy c.history (st'.logs b.journal.log).state
  pub crash : IsTrue st.told → Gained (IsWithin b.core b.policy b.history) (st.logs b.journal.log) (st'.logs b.journal.log)
  pub in_hand : IsTrue st.told → KeepsInHand b (book_history Given b q) (st.logs b.journal.log) (st'.logs b.journal.log)
  pub renewed : o ≢ JournalFault → IsTrue st.told → IsRenewed b c.history (st.logs b.journal.log) (st'.logs b.journal.log)

-- the book where this waits
abbrev pub with_waiting : Option Request → Book → Book
with_waiting waits b = record { core = b.core; policy = b.policy; history = b.history; waiting = waits; journal = b.journal }

-- the entry that waits, if any
abbrev pub entry_waiting : Book → List Entry
entry_waiting b = entry_of b.waiting

-- a request waits that may enter, and this is its line
pub record IsWaiting (b : Book) (line : List ℕ) : Type 0 where
  pub request : Request
  pub waits : b.waiting ≡ Some request
  pub may : MayEnter b.core b.policy b.history request
  pub is_line : line ≡ request_line b.core.dims request
