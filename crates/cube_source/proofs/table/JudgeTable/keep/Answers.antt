use Rattle.std.proofs.Common.{◌≡◌, ◌*◌, ap₂, set, Some, ◌⊎◌, ap, subst, arith}
use Rattle.cube_model.specs.Cubes.{IsIn}
use Rattle.cube_source.specs.Tables.{Table, found_at, found_from}
use Rattle.cube_source.proofs.Tables.{written_in, written_all}
use Rattle.cube_source.proofs.table.JudgeTable.keep.Goals as goal

pub returns-clause-kept : goal.returns-clause-kept
returns-clause-kept c =
    let measures = ap (λ (t : Table). t.measures) c.self.view_is in
    let cuboids = ap (λ (t : Table). t.cuboids) c.self.view_is in
    let size = c.self.invariant.0 in
    let room = ap₂ (λ a b. a * b) measures cuboids in
    let below = c.requires in
    subst (λ n. IsIn (found_at n c.args.slot c.args.judged) (found_from c.self.inside.cuboids 0 (set c.self.inside.slots.items c.args.slot (Some c.args.judged)))) cuboids (written_in c.self.inside.cuboids c.args.slot c.self.inside.slots.items c.args.judged (omega (arith, size, room, below)))

pub returns-clause-others : goal.returns-clause-others
returns-clause-others c = λ f m.
    let measures = ap (λ (t : Table). t.measures) c.self.view_is in
    let cuboids = ap (λ (t : Table). t.cuboids) c.self.view_is in
    let size = c.self.invariant.0 in
    let room = ap₂ (λ a b. a * b) measures cuboids in
    let below = c.requires in
    subst (λ (t : Table). IsIn f t.found ⊎ (f ≡ found_at t.cuboids c.args.slot c.args.judged)) c.self.view_is (written_all c.self.inside.cuboids c.args.slot c.self.inside.slots.items c.args.judged f (omega (arith, size, room, below)) m)
