use Rattle.std.proofs.Common.{◌≡◌, length, nat_eq, ◌∙◌, false, arith}
use Rattle.std.proofs.lemmas.Bool.Decides.{nat_tests}
use Rattle.cube_reason.proofs.Made.{cells_even, cells_uneven}
use Rattle.cube_reason.proofs.blocks.are_same.Goals as goal

pub returns-then-a-b : goal.returns-then-a-b
returns-then-a-b c = c.all_same.ensures ∙ cells_even c.args.a.now c.args.b.now c.if-a-b.true

pub returns-else-a-b : goal.returns-else-a-b
returns-else-a-b c =
    let test : nat_eq (length c.args.a.now) (length c.args.b.now) ≡ false = grind (arith, nat_tests, c.if-a-b.false) in
    test ∙ cells_uneven c.args.a.now c.args.b.now c.if-a-b.false
