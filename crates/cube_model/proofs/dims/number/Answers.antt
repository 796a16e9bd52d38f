use Rattle.std.proofs.Common.{◌++◌, ◌∷◌, [], map, ap, sym, refl, ◌∙◌}
use Rattle.std.specs.List.{list_any}
use Rattle.std.specs.Str.{bytes_eq}
use Rattle.cube_model.proofs.Found.{found-any, found-none}
use Rattle.cube_model.proofs.Parts.{position-is}
use Rattle.cube_model.proofs.dims.number.Goals as goal

pub add-requires : goal.add-requires
add-requires c =
    ap (λ x. list_any (bytes_eq x) (map (λ k. k.items) c.args.names.now.keys)) c.in_ok-from_slice-in-None.ensures.items
    ∙ found-none c.args.name.now (map (λ k. k.items) c.args.names.now.keys) (sym c.in-None.ensures)

pub returns-in-Some-clause-names : goal.returns-in-Some-clause-names
returns-in-Some-clause-names c = rw (found-any c.args.name.now (map (λ k. k.items) c.args.names.now.keys) c.in-Some.number (sym c.in-Some.ensures)) refl

pub returns-in-Some-clause-number : goal.returns-in-Some-clause-number
returns-in-Some-clause-number c = position-is (bytes_eq c.args.name.now) (map (λ k. k.items) c.args.names.now.keys) c.in-Some.number (sym c.in-Some.ensures)

pub returns-in-Some-clause-firsts : goal.returns-in-Some-clause-firsts
returns-in-Some-clause-firsts c = rw (found-any c.args.name.now (map (λ k. k.items) c.args.names.now.keys) c.in-Some.number (sym c.in-Some.ensures)) refl

pub returns-in_ok-number-in-None-clause-names : goal.returns-in_ok-number-in-None-clause-names
returns-in_ok-number-in-None-clause-names c =
    rw (found-none c.args.name.now (map (λ k. k.items) c.args.names.now.keys) (sym c.in-None.ensures))
    (c.in_ok-number-in-None.ensures.names ∙ ap (λ x. map (λ k. k.items) c.args.names.now.keys ++ x ∷ []) c.in_ok-from_slice-in-None.ensures.items)

pub returns-in_ok-number-in-None-clause-firsts : goal.returns-in_ok-number-in-None-clause-firsts
returns-in_ok-number-in-None-clause-firsts c =
    rw (found-none c.args.name.now (map (λ k. k.items) c.args.names.now.keys) (sym c.in-None.ensures)) c.push_within.ensures
