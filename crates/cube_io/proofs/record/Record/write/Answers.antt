use Rattle.std.proofs.Common.{◌≡◌, length, rules}
use Rattle.cube_io.proofs.Records.{write_ok, write_err}
use Rattle.cube_io.proofs.record.Record.write.Goals as goal

pub returns-clause-ok : goal.returns-clause-ok
returns-clause-ok c =
    let at : c.len-start.result ≡ length c.self.inside.bytes.items = search rules in
    write_ok c.push_call.result c.self.inside.bytes.items c.push_bytes.new.bytes.items c.args.piece.now c.self.inside.calls.items c.push_call.new.calls.items c.args.target c.len-start.result c.args.self.now c.self.invariant c.self.view_is at c.in-Ok.ensures.ok c.push_call.ensures.ok

pub returns-clause-err : goal.returns-clause-err
returns-clause-err c = write_err c.push_call.result c.self.inside.bytes.items c.push_bytes.new.bytes.items c.args.piece.now c.self.inside.calls.items c.push_call.new.calls.items c.args.self.now c.self.invariant c.self.view_is c.in-Ok.ensures.ok c.push_call.ensures.err
