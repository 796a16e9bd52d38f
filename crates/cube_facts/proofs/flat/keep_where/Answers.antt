use Rattle.std.proofs.Common.{◌≡◌, ◌<◌, ◌+◌, ◌*◌, ◌∙◌, sym, ap, false, length, get_or, [], rules, codes, arith}
use Rattle.std.specs.Prelude.{◌==◌}
use Rattle.std.specs.Str.{bytes_eq}
use Rattle.cube_model.proofs.DimsFacts.{number_tells, none_found}
use Rattle.cube_facts.proofs.Block.{place_within, part_is, test_of, and_false}
use Rattle.cube_facts.proofs.flat.keep_where.Goals as goal

pub returns-in-Some : goal.returns-in-Some
returns-in-Some c = λ k l.
    let at = (c.args.start + k) * c.args.width + c.args.column in
    let here : at < length c.args.fields.now = place_within c.args.width (c.args.start + k) (c.args.start + length c.args.kept.now) c.args.column (length c.args.fields.now) c.requires.column (omega (arith, l)) c.requires.long in
    let star : bytes_eq c.args.part.now (codes "*") ≡ false = search rules in
    let tells = number_tells c.args.fields.now c.args.part.now at c.in-Some.number here (sym c.in-Some.ensures) in
    let equal = ap (λ ns. get_or ns at 0 == c.in-Some.number) c.numbers.ensures ∙ tells in
    c.keep_equal.ensures k l ∙ test_of (get_or c.args.kept.now k false) _ _ (part_is c.args.part.now (get_or c.args.fields.now at []) _ star equal)

pub returns-in-None : goal.returns-in-None
returns-in-None c = λ k l.
    let at = (c.args.start + k) * c.args.width + c.args.column in
    let here : at < length c.args.fields.now = place_within c.args.width (c.args.start + k) (c.args.start + length c.args.kept.now) c.args.column (length c.args.fields.now) c.requires.column (omega (arith, l)) c.requires.long in
    let star : bytes_eq c.args.part.now (codes "*") ≡ false = search rules in
    let cleared : get_or c.fill.new.self k false ≡ false = search rules in
    let none = part_is c.args.part.now (get_or c.args.fields.now at []) false star (sym (none_found c.args.fields.now c.args.part.now at here (sym c.in-None.ensures))) in
    cleared ∙ sym (and_false (get_or c.args.kept.now k false)) ∙ test_of (get_or c.args.kept.now k false) false _ none
