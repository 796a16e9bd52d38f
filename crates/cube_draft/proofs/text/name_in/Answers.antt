use Rattle.std.proofs.Common.{ℕ, [], get_or, ap, ◌∙◌, arith}
use Rattle.cube_model.specs.Cubes.{distinct}
use Rattle.cube_model.proofs.DimsFacts.{number_below, get_or-place_of}
use Rattle.cube_draft.proofs.Names.{stands}
use Rattle.cube_draft.proofs.text.name_in.Goals as goal

pub name-requires : goal.name-requires
name-requires c =
    let below = number_below c.args.names.now c.args.place c.requires in
    omega (arith, below, c.number.ensures)

pub returns : goal.returns
returns c =
    let names = c.args.names.now in
    let x = get_or names c.args.place [] in
    c.name.ensures ∙ ap (λ (n : ℕ). get_or (distinct names) n []) c.number.ensures ∙ get_or-place_of x (distinct names) (stands x (distinct names) (number_below names c.args.place c.requires))
