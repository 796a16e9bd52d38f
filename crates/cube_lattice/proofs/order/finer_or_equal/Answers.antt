use Rattle.std.proofs.Common.{◌≡◌, ◌≢◌, false, length, nat_eq, sym, ◌∙◌, arith}
use Rattle.std.proofs.lemmas.Bool.Decides.{nat_tests}
use Rattle.cube_lattice.proofs.Steps.{finer_even, finer_uneven}
use Rattle.cube_lattice.proofs.order.finer_or_equal.Goals as goal

pub returns-then-len : goal.returns-then-len
returns-then-len c =
    let even : length c.args.a.now ≡ length c.args.b.now = sym c.len.ensures ∙ c.if-len.true ∙ c.len-2.ensures in
    rw (c.as_slice.ensures, c.as_slice-then-len.ensures) at c.all_at_most.ensures ∙ finer_even c.args.a.now c.args.b.now even

pub returns-else-len : goal.returns-else-len
returns-else-len c =
    let uneven : length c.args.a.now ≢ length c.args.b.now = λ e. c.if-len.false (c.len.ensures ∙ e ∙ sym c.len-2.ensures) in
    let test : nat_eq c.len.result c.len-2.result ≡ false = grind (arith, nat_tests, c.if-len.false) in
    test ∙ finer_uneven c.args.a.now c.args.b.now uneven
