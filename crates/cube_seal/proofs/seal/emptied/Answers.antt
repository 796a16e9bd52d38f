use Rattle.std.proofs.Common.{sym, ◌∙◌}
use Rattle.cube_seal.proofs.SealStates.{cut_crash, cut_leaves, whole_emptied, is_none}
use Rattle.cube_seal.proofs.seal.emptied.Goals as goal

pub returns-then-is_empty-clause-ok : goal.returns-then-is_empty-clause-ok
returns-then-is_empty-clause-ok g c = λ told. whole_emptied _ (g.met.S.Store.whole c.args.store.now c.args.log told) (c.requires.bytes told ∙ is_none c.args.bytes.now (sym c.is_empty.ensures ∙ c.if-is_empty.true))

pub returns-else-is_empty-clause-crash : goal.returns-else-is_empty-clause-crash
returns-else-is_empty-clause-crash g c = λ told digits is. cut_crash digits ((g.S.Store.state c.args.store.now).logs c.args.log) ((g.S.Store.state c.cut.new.self).logs c.args.log) (c.cut.ensures.passes told) is

pub returns-else-is_empty-clause-leaves : goal.returns-else-is_empty-clause-leaves
returns-else-is_empty-clause-leaves g c = λ told digits is. cut_leaves digits ((g.S.Store.state c.args.store.now).logs c.args.log) ((g.S.Store.state c.cut.new.self).logs c.args.log) (c.cut.ensures.passes told) is
