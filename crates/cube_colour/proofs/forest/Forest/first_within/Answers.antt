use Rattle.std.proofs.Common.{◌||◌, nat_eq, get_or, arith}
use Rattle.cube_colour.proofs.Searches.{find_found, find_more, one_of, other_of, none_of}
use Rattle.cube_colour.proofs.forest.Forest.first_within.Goals as goal
use Rattle.cube_colour.proofs.forest.Forest.first_within.Goals.{then-root-one-via-then-root-one, then-root-one-via-else-root-one+then-root-other}
use Rattle.std.proofs.Common.{sym}

pub returns-then-root-one : goal.returns-then-root-one
returns-then-root-one c l h =
    let place = get_or c.args.places.now c.places.place-index 0 in
    let at = (c.find-root.ensures.labels l h).0 in
    sym (find_found (λ place. nat_eq (l.root place) c.args.one || nat_eq (l.root place) c.args.other) c.args.places.now c.places.place-index (omega arith) (c.places.invariant l h)
    (elim c.then-root-one.branch [
      | then-root-one-via-then-root-one w ↦ one_of (l.root place) c.find-root.result.root c.args.one c.args.other at w.if-root-one.true
      | then-root-one-via-else-root-one+then-root-other w ↦ other_of (l.root place) c.find-root.result.root c.args.one c.args.other at w.if-root-other.true
    ]))

pub places-preserved : goal.places-preserved
places-preserved c l h =
    let place = get_or c.args.places.now c.places.place-index 0 in
    let at = (c.find-root.ensures.labels l h).0 in
    find_more (λ place. nat_eq (l.root place) c.args.one || nat_eq (l.root place) c.args.other) c.args.places.now c.places.place-index (omega arith) (c.places.invariant l h)
    (none_of (l.root place) c.find-root.result.root c.args.one c.args.other at c.if-root-one.false c.if-root-other.false)
