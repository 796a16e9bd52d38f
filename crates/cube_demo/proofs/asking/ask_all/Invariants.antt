use Rattle.std.proofs.Common.{◌≡◌, None, IsTrue}
use Rattle.cube_demo.proofs.asking.ask_all.Given as goal

abbrev pub invariant-queries : goal.invariant-queries
invariant-queries l = record {
  attached : IsTrue l.store.attached;
  none : l.book.waiting ≡ None;
}
