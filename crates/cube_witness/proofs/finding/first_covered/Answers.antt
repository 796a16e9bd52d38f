use Rattle.std.proofs.Common.{sym, ◌∙◌, arith}
use Rattle.cube_witness.proofs.Moves.{is_first, is_none}
use Rattle.cube_witness.proofs.finding.first_covered.Goals as goal

pub returns-then-covers : goal.returns-then-covers
returns-then-covers c = λ p.
    let size = c.len-place-end.ensures.len in
    is_first c.args.core.now p c.args.cell.now c.places.place (omega (arith, size, c.places-test.true)) c.places.invariant (sym c.covers.ensures ∙ c.if-covers.true)

pub returns : goal.returns
returns c = λ p.
    let size = c.len-place-end.ensures.len in
    is_none c.args.core.now p c.args.cell.now (λ j l. c.places.invariant j (omega (arith, l, size, c.places-test.false)))
