use Rattle.std.proofs.Common.{refl}
use Rattle.cube_io.specs.declared.record.Change.TheVariants.{Nothing, Sync}
use Rattle.cube_io.specs.Mem.Deed.{Did}
use Rattle.cube_io.proofs.Records.{others_stay, sync_by, sync_fails, tried, all_stay, sync_kept, works_by}
use Rattle.cube_io.proofs.mem_store.MemStoreStore.sync.Goals as goal

pub returns-in-None-clause-others : goal.returns-in-None-clause-others
returns-in-None-clause-others c = λ told k other. others_stay k c.args.log _ c.args.self.now.record c.perform.new.calls (Did (Sync c.args.log)) refl other (tried c.perform.result _ _ _ c.perform.ensures.ok c.perform.ensures.err)

pub returns-in-None-clause-works : goal.returns-in-None-clause-works
returns-in-None-clause-works c = works_by _ _ _ _ c.args.self.now.record c.perform.new.calls (Did (Sync c.args.log)) c.requires refl (tried c.perform.result _ _ _ c.perform.ensures.ok c.perform.ensures.err)

pub returns-in-None-clause-passes : goal.returns-in-None-clause-passes
returns-in-None-clause-passes c = λ told. (sync_by c.perform.result c.args.log _ c.args.self.now.record c.perform.new.calls c.perform.ensures.ok c.perform.ensures.err).0

pub returns-in-None-clause-done : goal.returns-in-None-clause-done
returns-in-None-clause-done c = λ told. (sync_by c.perform.result c.args.log _ c.args.self.now.record c.perform.new.calls c.perform.ensures.ok c.perform.ensures.err).1

pub returns-in-None-clause-failed : goal.returns-in-None-clause-failed
returns-in-None-clause-failed c = λ told. (sync_by c.perform.result c.args.log _ c.args.self.now.record c.perform.new.calls c.perform.ensures.ok c.perform.ensures.err).2

pub returns-in-Some-clause-others : goal.returns-in-Some-clause-others
returns-in-Some-clause-others c = λ told k other. all_stay k _ c.args.self.now.record c.refuse.new.calls c.refuse.ensures.tried

pub returns-in-Some-clause-works : goal.returns-in-Some-clause-works
returns-in-Some-clause-works c = works_by _ _ _ _ c.args.self.now.record c.refuse.new.calls (Did Nothing) c.requires refl c.refuse.ensures.tried

pub returns-in-Some-clause-passes : goal.returns-in-Some-clause-passes
returns-in-Some-clause-passes c = λ told. sync_fails c.args.log _ c.args.self.now.record c.refuse.new.calls c.refuse.ensures.tried

pub returns-in-Some-clause-failed : goal.returns-in-Some-clause-failed
returns-in-Some-clause-failed c = λ told. sync_kept c.refuse.result c.args.log _ c.args.self.now.record c.refuse.new.calls c.refuse.ensures.tried
