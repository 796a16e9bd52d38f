use Rattle.std.proofs.Common.{ℕ, [], get_or, ap, not, eqb, ◌∙◌, arith}
use Rattle.cube_model.specs.Cubes.{place_of, distinct}
use Rattle.cube_model.proofs.DimsFacts.{has_at, place_of-below, same_number}
use Rattle.cube_draft.proofs.hierarchy.has_other_parent.Goals as goal

pub number-requires-2 : goal.number-requires-2
number-requires-2 c =
    let names = c.args.below.now in
    let first = place_of-below (get_or names c.args.row []) names (has_at names c.args.row c.requires.below) in
    omega (arith, first, c.first_alike.ensures, c.requires.above)

pub returns : goal.returns
returns c =
    let names = c.args.below.now in
    let parents = c.args.above.now in
    let first = place_of-below (get_or names c.args.row []) names (has_at names c.args.row c.requires.below) in
    ap not (ap (λ (n : ℕ). eqb n c.number-2.result) c.number.ensures
    ∙ ap (λ (n : ℕ). eqb (place_of (get_or parents c.args.row []) (distinct parents)) n) c.number-2.ensures
    ∙ ap (λ (n : ℕ). eqb (place_of (get_or parents c.args.row []) (distinct parents)) (place_of (get_or parents n []) (distinct parents))) c.first_alike.ensures
    ∙ same_number parents c.args.row (place_of (get_or names c.args.row []) names) (omega (arith, c.requires.below, c.requires.above)) (omega (arith, first, c.requires.above)))
