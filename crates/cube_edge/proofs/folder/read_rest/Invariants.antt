use Rattle.std.proofs.Common.{◌≡◌, ◌≤◌, ◌-◌, length}
use Rattle.std.specs.Io.KnownBytes.{Consumes}
use Rattle.cube_edge.proofs.folder.read_rest.Given as goal

abbrev pub invariant-pieces : goal.invariant-pieces
invariant-pieces g l = record {
  short : length l.text ≤ l.most;
  taken : Consumes (g.S.Shelf.left l.initial.file) (g.S.Shelf.left l.file) l.text;
  same : (g.S.Shelf.state l.shelf).files ≡ (g.S.Shelf.state l.initial.shelf).files;
  refused : (g.S.Shelf.state l.shelf).refused ≡ (g.S.Shelf.state l.initial.shelf).refused;
}

abbrev pub decreases-pieces : goal.decreases-pieces
decreases-pieces g l = l.most - length l.text
