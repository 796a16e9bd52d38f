use Rattle.std.proofs.Common.{false, length, sym, ◌∙◌, arith}
use Rattle.cube_source.proofs.Steps.{some_number, none_of}
use Rattle.cube_carrying.specs.Exposed.{is_exposed_at}
use Rattle.cube_carrying.proofs.Firsts.{up_to}
use Rattle.cube_carrying.proofs.exposed.is_exposed_somewhere.Goals as goal

pub returns-then-is_exposed_at : goal.returns-then-is_exposed_at
returns-then-is_exposed_at c =
    let size = c.len-place-end.ensures.len in
    sym (some_number (is_exposed_at c.args.crossing.now.old.now c.args.object.now c.args.crossing.now.new.now c.args.crossing.now.new_policy.now.objects c.args.crossing.now.measure c.args.levels.now c.args.crossing.now.places.now) (length c.args.crossing.now.old.now.shape.points) c.places.place
    (omega (arith, size, c.places-test.true)) (sym c.is_exposed_at.ensures ∙ c.if-is_exposed_at.true))

pub returns : goal.returns
returns c =
    let size = c.len-place-end.ensures.len in
    sym (none_of (is_exposed_at c.args.crossing.now.old.now c.args.object.now c.args.crossing.now.new.now c.args.crossing.now.new_policy.now.objects c.args.crossing.now.measure c.args.levels.now c.args.crossing.now.places.now) 0 (length c.args.crossing.now.old.now.shape.points)
    (λ j l. c.places.invariant j (omega (arith, l, size, c.places-test.false))))

pub places-preserved : goal.places-preserved
places-preserved c = up_to (is_exposed_at c.args.crossing.now.old.now c.args.object.now c.args.crossing.now.new.now c.args.crossing.now.new_policy.now.objects c.args.crossing.now.measure c.args.levels.now c.args.crossing.now.places.now) false c.places.place c.places.invariant (sym c.is_exposed_at.ensures ∙ c.if-is_exposed_at.false)
