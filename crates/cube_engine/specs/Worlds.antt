-- What always holds of a book, and that what it replies tells nothing of a protected cell.
use Rattle.std.specs.Prelude.{◌≡◌, ℕ, List, [], ◌∷◌, pos, ◌+ℤ◌}
use Rattle.cube_model.specs.declared.ask.Question.{Question}
use Rattle.cube_model.specs.declared.cell.Cell.{Cell}
use Rattle.cube_model.specs.declared.entry.Entry.{Entry}
use Rattle.cube_model.specs.declared.outcome.Outcome.{Outcome}
use Rattle.cube_model.specs.declared.reply.Reply.{Reply}
use Rattle.cube_model.specs.Cores.{IsCore, shown, world}
use Rattle.cube_model.specs.Cubes.{World, IsIn}
use Rattle.cube_model.specs.Policies.{IsPolicy}
use Rattle.cube_model.specs.Protection.{protected}
use Rattle.cube_model.specs.Rooms.{Room}
use Rattle.cube_model.specs.Runs.{reply_by}
use Rattle.cube_model.specs.Twins.{changes, twin, sum_of}
use Rattle.cube_model.specs.Verdicts.{IsAdmissible}
use Rattle.cube_engine.specs.Books.{Book}
use Rattle.cube_engine.specs.Steps.{by_words}

-- what always holds of a book
pub record IsRuled (b : Book) : Type 0 where
  pub core : IsCore b.core
  pub policy : IsPolicy b.core.dims b.policy
  pub admissible : IsAdmissible (shown b.core b.policy) b.history

-- the history of the first room
abbrev pub first_history : List Room → List Entry
first_history [] = []
first_history (room ∷ rooms) = room.history

-- the world of a book with the changes for a cell by its history
abbrev pub twin_of : Book → ℕ → Cell → World
twin_of b m t = twin (world b.core b.policy) m (changes (shown b.core b.policy) b.history m t)

-- Between two states of a book a question was answered: in the world with the changes for a cell by the later history the same reply comes
-- of the same outcome, and the sum of the cell is greater by one.
pub record HidesCell (old new : Book) (q : Question) (reply : Reply) (o : Outcome) (m : ℕ) (t : Cell) : Type 0 where
  pub same_reply : reply_by (by_words old.core.dims) o q (twin_of new m t) old.history ≡ reply
  pub other_sum : sum_of (twin_of new m t) m t ≡ sum_of (world new.core new.policy) m t +ℤ pos 1

-- The two worlds: so it is for whatever protected cell of whatever measure.
abbrev pub HidesCells : Book → Book → Question → Reply → Outcome → Type 0
HidesCells old new q reply o = (m : ℕ) (t : Cell) → IsIn t (protected (shown new.core new.policy) m) → HidesCell old new q reply o m t
