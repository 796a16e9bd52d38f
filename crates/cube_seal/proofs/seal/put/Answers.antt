use Rattle.cube_seal.proofs.SealStates.{put_crash, put_leaves, put_done}
use Rattle.cube_seal.proofs.seal.put.Goals as goal

pub returns-clause-ok : goal.returns-clause-ok
returns-clause-ok g c = λ told.
    let did = rw (c.as_slice.ensures, c.line_of-line.ensures.line) at (c.append.ensures.grows told) in
    put_done c.append.result c.args.values.now ((g.S.Store.state c.args.store.now).logs c.args.log) ((g.S.Store.state c.append.new.self).logs c.args.log) did.0 (c.requires.emptied told) did.2 did.1

pub returns-clause-crash : goal.returns-clause-crash
returns-clause-crash g c = λ told is.
    let did = rw (c.as_slice.ensures, c.line_of-line.ensures.line) at (c.append.ensures.grows told) in
    put_crash c.args.values.now ((g.S.Store.state c.args.store.now).logs c.args.log) ((g.S.Store.state c.append.new.self).logs c.args.log) did.0 c.line_of-line.ensures.lower (c.requires.emptied told) did.2 is

pub returns-clause-leaves : goal.returns-clause-leaves
returns-clause-leaves g c = λ told is.
    let did = rw (c.as_slice.ensures, c.line_of-line.ensures.line) at (c.append.ensures.grows told) in
    put_leaves c.args.values.now ((g.S.Store.state c.args.store.now).logs c.args.log) ((g.S.Store.state c.append.new.self).logs c.args.log) did.0 c.line_of-line.ensures.lower (c.requires.emptied told) did.2 is
