-- The one group of all users, whose book was started.
use Rattle.std.proofs.Common.{◌≡◌, ◌∙◌, ℕ, List, [], ◌∷◌, Option, None, ap, subst, arith}
use Rattle.cube_model.specs.declared.entry.Entry.{Entry}
use Rattle.cube_model.specs.declared.outcome.Outcome.{Outcome}
use Rattle.cube_model.specs.declared.policy.Policy.{Policy}
use Rattle.cube_model.specs.declared.request.Request.{Request}
use Rattle.cube_model.specs.Cores.{Core, shown}
use Rattle.cube_model.specs.Verdicts.{IsAdmissible}
use Rattle.cube_io.specs.Seen.{FolderState, StoreState, Seen, seen}
use Rattle.cube_engine.specs.Books.{Book}
use Rattle.cube_journal.specs.Keeping.{Journal}
use Rattle.cube_opening.specs.Opening.{Make}
use Rattle.cube_opening.specs.declared.cube_files.CubeFiles.{CubeFiles}
use Rattle.cube_starting.specs.Grouping.{AreHeld}
use Rattle.cube_starting.specs.NamedBooks.{Groups}
use Rattle.cube_starting.specs.OneCube.{under, unnamed, IsBegun, IsBegunAlone, IsOpen}
use Rattle.cube_starting.specs.declared.named.NamedBook.{NamedBook}
use Rattle.cube_starting.proofs.OpenGroups.{SealsLeft, held_left}

abbrev made : List NamedBook → List Outcome → ℕ → Groups
made bs os n = record { books = bs; outcomes = os; left = n }

abbrev book_of : Core → Policy → List Entry → Option Request → Journal → Book
book_of c p h w j = record { core = c; policy = p; history = h; waiting = w; journal = j }

-- ---- an open cube

-- behind the opening of its journal
pub opened : {S : Type 0} (cube : CubeFiles) (files : FolderState) (core : Core) (policy : Policy) (store : Seen StoreState S) (b : Book) → Make cube files core policy → IsBegun core policy store b → AreHeld core (under policy) store → IsOpen cube files store core policy b.history
opened cube files core policy store b make begun held = record {
  files_make = make;
  recovered = begun.started.history;
  admissible = subst (λ (c : Core). IsAdmissible (shown c policy) b.history) begun.started.core_is (subst (λ (p : Policy). IsAdmissible (shown b.core p) b.history) begun.started.policy begun.started.rules.admissible);
  held = held;
}

-- and while the logs of its seal are left alone
pub still_open : {S : Type 0} (cube : CubeFiles) (files : FolderState) (tells : S → StoreState) (old mid new : S) (core : Core) (policy : Policy) (history : List Entry) → SealsLeft tells old mid new
    → IsOpen cube files (seen tells old mid) core policy history → IsOpen cube files (seen tells old new) core policy history
still_open cube files tells old mid new core policy history left o = record {
  files_make = o.files_make;
  recovered = o.recovered;
  admissible = o.admissible;
  held = held_left core (under policy) tells old mid new (omega arith) left o.held;
}

-- what holds of a book over its core, its policy and its history holds over those of the cube
pub over : {S : Type 0} (says : Core → Policy → List Entry → Type 0) (core : Core) (policy : Policy) (store : Seen StoreState S) (b : Book) → IsBegun core policy store b → says b.core b.policy b.history → says core policy b.history
over says core policy store b begun x = subst (λ (c : Core). says c policy b.history) begun.started.core_is (subst (λ (p : Policy). says b.core p b.history) begun.started.policy x)

-- the groups of all users, whose book was begun so, are these
pub groups_are : {S : Type 0} (core : Core) (policy : Policy) (stated : ℕ) (store : Seen StoreState S) (e : Groups) (a : IsBegunAlone core policy stated store e)
    → e ≡ record { books = unnamed (record { core = core; policy = policy; history = a.book.history; waiting = None; journal = a.book.journal }) ∷ []; outcomes = []; left = stated }
groups_are core policy stated store e a =
    let b = a.book in
    let one = unnamed (book_of core policy b.history None b.journal) ∷ [] in
    ap (λ (bs : List NamedBook). made bs e.outcomes e.left) (a.books_are ∙ ap (λ (c : Book). unnamed c ∷ []) (
    ap (λ (c : Core). book_of c b.policy b.history b.waiting b.journal) a.begun.started.core_is
    ∙ ap (λ (p : Policy). book_of core p b.history b.waiting b.journal) a.begun.started.policy
    ∙ ap (λ (w : Option Request). book_of core policy b.history w b.journal) a.begun.idle
    ))
    ∙ ap (λ (os : List Outcome). made one os e.left) a.outcomes
    ∙ ap (λ (n : ℕ). made one [] n) a.left
