use Rattle.std.proofs.Common.{refl, take}
use Rattle.cube_io.specs.declared.record.Target.TheVariants.{End}
use Rattle.cube_io.specs.Mem.Deed.{Wrote}
use Rattle.cube_io.proofs.Records.{grew_by, some_grew, others_stay, works_by, tried}
use Rattle.cube_io.proofs.mem_store.MemStoreStore.append.Goals as goal

pub returns-in-None-clause-others : goal.returns-in-None-clause-others
returns-in-None-clause-others c = λ told k other. others_stay k c.args.log _ c.args.self.now.record c.write.new.calls (Wrote (End c.args.log) c.args.piece.now) refl other (tried c.write.result _ _ _ c.write.ensures.ok c.write.ensures.err)

pub returns-in-None-clause-works : goal.returns-in-None-clause-works
returns-in-None-clause-works c = works_by _ _ _ _ c.args.self.now.record c.write.new.calls (Wrote (End c.args.log) c.args.piece.now) c.requires refl (tried c.write.result _ _ _ c.write.ensures.ok c.write.ensures.err)

pub returns-in-None-clause-grows : goal.returns-in-None-clause-grows
returns-in-None-clause-grows c = λ told. grew_by c.write.result c.args.log _ c.args.self.now.record c.write.new.calls c.args.piece.now c.write.ensures.ok c.write.ensures.err

pub returns-in-Some-clause-others : goal.returns-in-Some-clause-others
returns-in-Some-clause-others c = λ told k other. others_stay k c.args.log _ c.args.self.now.record c.write_some.new.calls (Wrote (End c.args.log) (take c.part_of_append.result c.args.piece.now)) refl other c.write_some.ensures.tried

pub returns-in-Some-clause-works : goal.returns-in-Some-clause-works
returns-in-Some-clause-works c = works_by _ _ _ _ c.args.self.now.record c.write_some.new.calls (Wrote (End c.args.log) (take c.part_of_append.result c.args.piece.now)) c.requires refl c.write_some.ensures.tried

pub returns-in-Some-clause-grows : goal.returns-in-Some-clause-grows
returns-in-Some-clause-grows c = λ told. some_grew c.write_some.result c.args.log _ c.args.self.now.record c.write_some.new.calls c.args.piece.now c.part_of_append.result c.write_some.ensures.fails c.write_some.ensures.tried
