-- A book that belongs to its log as that stands.
use Rattle.std.specs.Prelude.{◌≡◌, IsTrue, None}
use Rattle.cube_io.specs.Seen.{StoreState}
use Rattle.cube_engine.specs.Books.{Book}
use Rattle.cube_engine.specs.Kept.{IsKept}

-- nothing waits in it, and its store is attached
pub record Fits (store : StoreState) (b : Book) : Type 0 where
  pub attached : IsTrue store.attached
  pub idle : b.waiting ≡ None
  pub kept : IsTrue store.told → IsKept b.core b.policy b.history b.journal (store.logs b.journal.log).state
