use Rattle.std.proofs.Common.{ℕ, ◌<◌, ◌^◌, List, [], inr, refl, subst, length, arith, slice_index_or}
use Rattle.cube_io.specs.declared.record.Change.TheVariants.{Nothing}
use Rattle.cube_io.specs.Mem.Deed.{Did}
use Rattle.cube_io.proofs.Records.{all_stay, was_read, works_by}
use Rattle.cube_io.proofs.mem_store.MemStoreStore.read_all.Goals as goal

pub returns-in-Some-clause-logs : goal.returns-in-Some-clause-logs
returns-in-Some-clause-logs c = λ told k. all_stay k _ c.args.self.now.record c.refuse.new.calls c.refuse.ensures.tried

pub returns-in-Some-clause-works : goal.returns-in-Some-clause-works
returns-in-Some-clause-works c = works_by _ _ _ _ c.args.self.now.record c.refuse.new.calls (Did Nothing) c.requires refl c.refuse.ensures.tried

pub returns-then-len-clause-logs : goal.returns-then-len-clause-logs
returns-then-len-clause-logs c = λ told k. all_stay k _ c.args.self.now.record c.perform.new.calls (inr c.in-Ok.ensures.ok)

pub returns-then-len-clause-works : goal.returns-then-len-clause-works
returns-then-len-clause-works c = works_by _ _ _ _ c.args.self.now.record c.perform.new.calls (Did Nothing) c.requires refl ((inr c.in-Ok.ensures.ok))

pub returns-then-len-clause-long : goal.returns-then-len-clause-long
returns-then-len-clause-long c = λ told long. subst (λ (l : List ℕ). 2 ^ 28 < length l) (was_read c.args.log (slice_index_or c.args.self.now.begun.items c.args.log []) c.args.self.now.record c.perform.new.calls c.in-Ok-content.text (inr c.in-Ok.ensures.ok) (rw (c.first_bytes.ensures, c.deref-2.ensures.value) at c.in-Ok-content.ensures)) (omega (arith, c.if-len.true, c.len-in-Ok-content.ensures))

pub returns-else-len-clause-logs : goal.returns-else-len-clause-logs
returns-else-len-clause-logs c = λ told k. all_stay k _ c.args.self.now.record c.perform.new.calls (inr c.in-Ok.ensures.ok)

pub returns-else-len-clause-works : goal.returns-else-len-clause-works
returns-else-len-clause-works c = works_by _ _ _ _ c.args.self.now.record c.perform.new.calls (Did Nothing) c.requires refl ((inr c.in-Ok.ensures.ok))

pub returns-else-len-clause-bytes : goal.returns-else-len-clause-bytes
returns-else-len-clause-bytes c = λ told. was_read c.args.log (slice_index_or c.args.self.now.begun.items c.args.log []) c.args.self.now.record c.perform.new.calls c.in-Ok-content.text (inr c.in-Ok.ensures.ok) (rw (c.first_bytes.ensures, c.deref-2.ensures.value) at c.in-Ok-content.ensures)

pub returns-in-Err-content-clause-logs : goal.returns-in-Err-content-clause-logs
returns-in-Err-content-clause-logs c = λ told k. all_stay k _ c.args.self.now.record c.perform.new.calls (inr c.in-Ok.ensures.ok)

pub returns-in-Err-content-clause-works : goal.returns-in-Err-content-clause-works
returns-in-Err-content-clause-works c = works_by _ _ _ _ c.args.self.now.record c.perform.new.calls (Did Nothing) c.requires refl ((inr c.in-Ok.ensures.ok))
