use Rattle.std.proofs.Common.{sym, ◌∙◌}
use Rattle.cube_http.proofs.Heads.{stops_then, stops_else}
use Rattle.cube_http.proofs.connection.keep_byte.Goals as goal

pub returns-then-ends_here-clause-stops : goal.returns-then-ends_here-clause-stops
returns-then-ends_here-clause-stops c = stops_then c.args.head.now.items _ _ c.args.byte _ c.push_reserved.ensures.items c.deref.ensures.value c.ends_here.ensures c.if-ends_here.true c.requires.goes_on c.requires.begins

pub returns-else-ends_here-clause-stops : goal.returns-else-ends_here-clause-stops
returns-else-ends_here-clause-stops c = stops_else c.args.head.now.items _ _ c.args.byte _ _ c.push_reserved.ensures.items c.deref.ensures.value c.ends_here.ensures c.if-ends_here.false (c.len.ensures ∙ sym c.deref.ensures.len) c.requires.goes_on c.requires.begins
