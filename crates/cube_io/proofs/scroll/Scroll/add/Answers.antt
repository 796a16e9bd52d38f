use Rattle.std.proofs.Common.{◌∙◌, ◌++◌, ◌∷◌, [], ap}
use Rattle.cube_io.proofs.Scrolled.{entries_write}
use Rattle.cube_io.specs.Scrolls.{Roll, entry_of}
use Rattle.cube_io.proofs.scroll.Scroll.add.Goals as goal

pub returns-clause-log : goal.returns-clause-log
returns-clause-log c =
    rw (c.write.ensures.entries, c.write.ensures.bytes) (
    entries_write c.self.inside.bytes.items c.args.piece.now c.self.inside.entries.items c.args.note c.self.invariant.inside
    ∙ ap (λ (r : Roll). r.log ++ entry_of c.args.note c.args.piece.now ∷ []) c.self.view_is
    )
