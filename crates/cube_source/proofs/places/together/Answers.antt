use Rattle.std.proofs.Common.{◌+◌, ap₂, sym, ◌∙◌}
use Rattle.cube_model.specs.Cubes.{same, together}
use Rattle.cube_source.specs.Blocks.{bare}
use Rattle.cube_source.specs.Keys.{key_from}
use Rattle.cube_source.proofs.Keys.{from_start, from_end, goes_on, ends, compared}
use Rattle.cube_source.proofs.places.together.Goals as goal

pub dimensions-init : goal.dimensions-init
dimensions-init c = ap₂ same (from_start c.args.core.now c.args.levels.now c.args.place) (from_start c.args.core.now c.args.levels.now c.args.other)

pub dimensions-preserved : goal.dimensions-preserved
dimensions-preserved c =
    let k = c.dimensions.number in
    goes_on c.member_at.result c.member_at-in-dimensions.result (same (key_from c.args.core.now c.args.levels.now c.args.place (k + 1)) (key_from c.args.core.now c.args.levels.now c.args.other (k + 1))) (together (bare c.args.core.now) c.args.levels.now c.args.place c.args.other) c.if-member_at.false
    (sym (ap₂ same c.member_at.ensures c.member_at-in-dimensions.ensures) ∙ c.dimensions.invariant)

pub returns-then-member_at : goal.returns-then-member_at
returns-then-member_at c =
    let k = c.dimensions.number in
    ends c.member_at.result c.member_at-in-dimensions.result (same (key_from c.args.core.now c.args.levels.now c.args.place (k + 1)) (key_from c.args.core.now c.args.levels.now c.args.other (k + 1))) (together (bare c.args.core.now) c.args.levels.now c.args.place c.args.other) c.if-member_at.true
    (sym (ap₂ same c.member_at.ensures c.member_at-in-dimensions.ensures) ∙ c.dimensions.invariant)

pub returns : goal.returns
returns c =
    let k = c.dimensions.number in
    sym (compared (key_from c.args.core.now c.args.levels.now c.args.place k) (key_from c.args.core.now c.args.levels.now c.args.other k) (from_end c.args.core.now c.args.levels.now c.args.place k c.requires.levels c.dimensions-test.false) (from_end c.args.core.now c.args.levels.now c.args.other k c.requires.levels c.dimensions-test.false)) ∙ c.dimensions.invariant
