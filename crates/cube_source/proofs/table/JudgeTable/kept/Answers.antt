use Rattle.std.proofs.Common.{◌≡◌, ◌*◌, ◌<◌, ◌∙◌, Some, None, get_or, sym, ap, ap₂, length, subst, arith}
use Rattle.std.proofs.lemmas.List.{get_or_read}
use Rattle.cube_model.specs.Cubes.{IsIn}
use Rattle.cube_source.specs.declared.judging.Judged.{Judged}
use Rattle.cube_source.specs.Tables.{Table, found_at}
use Rattle.cube_source.proofs.Tables.{in_all, some_same}
use Rattle.cube_source.proofs.table.JudgeTable.kept.Goals as goal

pub returns-in_ok-copy_judged-in-Some : goal.returns-in_ok-copy_judged-in-Some
returns-in_ok-copy_judged-in-Some c = λ judged e.
    let measures = ap (λ (t : Table). t.measures) c.self.view_is in
    let cuboids = ap (λ (t : Table). t.cuboids) c.self.view_is in
    let size = c.self.invariant.0 in
    let room = ap₂ (λ a b. a * b) measures cuboids in
    let below = c.requires in
    let within : c.args.slot < length c.self.inside.slots.items = omega (arith, size, room, below) in
    let read : get_or c.self.inside.slots.items c.args.slot None ≡ Some judged = sym (get_or_read c.self.inside.slots.items c.args.slot c.index.result.now within c.index.ensures None) ∙ c.in-Some.is ∙ ap (λ (j : Judged). Some j) (sym c.in_ok-copy_judged-in-Some.ensures ∙ some_same c.in_ok-copy_judged-in-Some.field-0 judged e) in
    subst (λ (t : Table). IsIn (found_at t.cuboids c.args.slot judged) t.found) c.self.view_is (in_all c.self.inside.cuboids c.args.slot c.self.inside.slots.items judged within read)
