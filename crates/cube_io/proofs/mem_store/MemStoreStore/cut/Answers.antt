use Rattle.std.proofs.Common.{inr, refl}
use Rattle.cube_io.specs.declared.record.Change.TheVariants.{Cut}
use Rattle.cube_io.specs.Mem.Deed.{Did}
use Rattle.cube_io.proofs.Records.{others_stay, cut_tries, cut_by, cut_on, tried, works_by}
use Rattle.cube_io.proofs.mem_store.MemStoreStore.cut.Goals as goal

pub returns-in-None-clause-others : goal.returns-in-None-clause-others
returns-in-None-clause-others c = λ told k other. others_stay k c.args.log _ c.args.self.now.record c.perform.new.calls (Did (Cut c.args.log c.args.len)) refl other (tried c.perform.result _ _ _ c.perform.ensures.ok c.perform.ensures.err)

pub returns-in-None-clause-works : goal.returns-in-None-clause-works
returns-in-None-clause-works c = works_by _ _ _ _ c.args.self.now.record c.perform.new.calls (Did (Cut c.args.log c.args.len)) c.requires.attached refl (tried c.perform.result _ _ _ c.perform.ensures.ok c.perform.ensures.err)

pub returns-in-None-clause-passes : goal.returns-in-None-clause-passes
returns-in-None-clause-passes c = λ told. cut_tries c.args.log c.args.len _ c.args.self.now.record c.perform.new.calls (Cut c.args.log c.args.len) (inr (inr refl)) (tried c.perform.result _ _ _ c.perform.ensures.ok c.perform.ensures.err)

pub returns-in-None-clause-done : goal.returns-in-None-clause-done
returns-in-None-clause-done c = λ told. cut_by c.perform.result c.args.log c.args.len _ c.args.self.now.record c.perform.new.calls c.perform.ensures.ok

pub returns-in-Some-clause-others : goal.returns-in-Some-clause-others
returns-in-Some-clause-others c = λ told k other. others_stay k c.args.log _ c.args.self.now.record c.refuse.new.calls (Did c.part_of_cut.result) (cut_on c.args.log c.args.len _ c.part_of_cut.ensures) other c.refuse.ensures.tried

pub returns-in-Some-clause-works : goal.returns-in-Some-clause-works
returns-in-Some-clause-works c = works_by _ _ _ _ c.args.self.now.record c.refuse.new.calls (Did c.part_of_cut.result) c.requires.attached refl c.refuse.ensures.tried

pub returns-in-Some-clause-passes : goal.returns-in-Some-clause-passes
returns-in-Some-clause-passes c = λ told. cut_tries c.args.log c.args.len _ c.args.self.now.record c.refuse.new.calls c.part_of_cut.result c.part_of_cut.ensures c.refuse.ensures.tried
