use Rattle.std.proofs.Common.{ℕ, List, length, get_or, ap, ◌∙◌, arith}
use Rattle.cube_carrying.proofs.Turned.{Reads, point_within, leaf_within, leaf_is}
use Rattle.cube_carrying.proofs.places.leaf_in.Goals as goal

pub bounds-point-numbers : goal.bounds-point-numbers
bounds-point-numbers c =
    point_within c.args.old.now c.args.new.now c.args.numbers.now c.args.leaves.now c.args.point.now c.args.number
    (record { all = c.requires.all; numbers = c.requires.numbers; leaves = c.requires.leaves; point = c.requires.point; number = c.requires.number })

pub bounds-as_slice-leaf : goal.bounds-as_slice-leaf
bounds-as_slice-leaf c =
    let reads : Reads c.args.old.now c.args.new.now c.args.numbers.now c.args.leaves.now c.args.point.now c.args.number = record { all = c.requires.all; numbers = c.requires.numbers; leaves = c.requires.leaves; point = c.requires.point; number = c.requires.number } in
    let within = leaf_within c.args.old.now c.args.new.now c.args.numbers.now c.args.leaves.now c.args.point.now c.args.number reads c.index-leaves-number.result c.index-leaves-number.is in
    let size = ap length c.as_slice.ensures in
    omega (arith, within, size)

pub returns : goal.returns
returns c =
    let reads : Reads c.args.old.now c.args.new.now c.args.numbers.now c.args.leaves.now c.args.point.now c.args.number = record { all = c.requires.all; numbers = c.requires.numbers; leaves = c.requires.leaves; point = c.requires.point; number = c.requires.number } in
    ap (λ (l : List ℕ). get_or l (get_or c.args.point.now (get_or c.args.numbers.now c.args.number 0) 0) 0) c.as_slice.ensures
    ∙ leaf_is c.args.old.now c.args.new.now c.args.numbers.now c.args.leaves.now c.args.point.now c.args.number reads c.index-leaves-number.result c.index-leaves-number.is
