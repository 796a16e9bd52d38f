use Rattle.cube_io.proofs.Records.{all_stay, name_stays, name_more, asks_none}
use Rattle.cube_io.proofs.mem_store.MemStoreStore.attach.Goals as goal

pub returns-in-Ok-clause-logs : goal.returns-in-Ok-clause-logs
returns-in-Ok-clause-logs c = λ told k. name_stays k _ c.args.self.now.record c.write.new.calls c.args.name.now (rw c.as_slice.ensures at c.in-Ok.ensures.ok)

pub returns-in-Ok-clause-names : goal.returns-in-Ok-clause-names
returns-in-Ok-clause-names c = λ told. name_more c.args.self.now.record c.write.new.calls c.args.name.now (rw c.as_slice.ensures at c.in-Ok.ensures.ok)

pub returns-in-Some-clause-logs : goal.returns-in-Some-clause-logs
returns-in-Some-clause-logs c = λ told k. all_stay k _ c.args.self.now.record c.refuse.new.calls c.refuse.ensures.tried

pub returns-in-Some-clause-names : goal.returns-in-Some-clause-names
returns-in-Some-clause-names c = λ told. asks_none c.refuse.result c.args.self.now.record c.refuse.new.calls c.args.name.now c.refuse.ensures.fails c.refuse.ensures.tried
