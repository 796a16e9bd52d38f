use Rattle.std.proofs.Common.{◌<◌, not, find, length, ap, sym, ◌∙◌, arith}
use Rattle.cube_model.specs.Protection.{protected}
use Rattle.cube_carry.specs.Continues.{protects}
use Rattle.cube_carry.specs.Names.{named, known}
use Rattle.cube_carrying.proofs.Firsts.{with_at, with_none}
use Rattle.cube_carrying.proofs.cells.unprotected_cell.Goals as goal

pub returns-in-Some : goal.returns-in-Some
returns-in-Some c =
    let a = named c.args.old.now c.args.old_policy.now in
    let b = named c.args.new.now c.args.new_policy.now in
    let dims = ap (λ s. length s.measures) c.dims.ensures.dims in
    let size = ap length c.measures.ensures.measures in
    let below : c.each.measure < length c.args.old.now.dims.measures = omega (arith, dims, size, c.each-test.true) in
    sym (with_at (λ m. find (λ t. not (protects a b m t)) (protected (known a) m)) 0 (length c.args.old.now.dims.measures) c.each.measure c.in-Some.cell (omega arith) (omega (arith, below)) c.each.invariant (sym c.in_ok-found.ensures ∙ c.in-Some.is))

pub returns : goal.returns
returns c =
    let a = named c.args.old.now c.args.old_policy.now in
    let b = named c.args.new.now c.args.new_policy.now in
    let dims = ap (λ s. length s.measures) c.dims.ensures.dims in
    let size = ap length c.measures.ensures.measures in
    sym (with_none (λ m. find (λ t. not (protects a b m t)) (protected (known a) m)) 0 (length c.args.old.now.dims.measures) (λ j l. c.each.invariant j (omega (arith, l, dims, size, c.each-test.false))))
