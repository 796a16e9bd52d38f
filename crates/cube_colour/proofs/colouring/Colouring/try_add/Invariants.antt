use Rattle.cube_colour.proofs.Adding.{Standing}
use Rattle.cube_colour.proofs.colouring.Colouring.try_add.Given as goal

abbrev pub invariant-links : goal.invariant-links
invariant-links l = Standing l.initial.self l.self l.link-items l.number
