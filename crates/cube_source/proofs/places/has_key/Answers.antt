use Rattle.std.proofs.Common.{ℕ, ◌+◌, List, drop, get_or, ap, sym, ◌∙◌, arith}
use Rattle.std.proofs.lemmas.List.{drop_all}
use Rattle.cube_model.specs.Cubes.{same, key_at}
use Rattle.cube_source.specs.Blocks.{bare}
use Rattle.cube_source.specs.Keys.{key_from}
use Rattle.cube_source.proofs.Keys.{from_start, from_end, key_more, goes_on, ends, compared}
use Rattle.cube_source.proofs.places.has_key.Goals as goal

pub dimensions-init : goal.dimensions-init
dimensions-init c = ap (λ (ks : List ℕ). same ks c.args.key.now) (from_start c.args.core.now c.args.levels.now c.args.place)

pub dimensions-preserved : goal.dimensions-preserved
dimensions-preserved c =
    let k = c.dimensions.number in
    let next = key_from c.args.core.now c.args.levels.now c.args.place (c.dimensions.number + 1) in
    goes_on c.member_at.result (get_or c.args.key.now k 0) (same next (drop (k + 1) c.args.key.now)) (same (key_at (bare c.args.core.now) c.args.levels.now c.args.place) c.args.key.now) c.if-member_at-key.false
    (sym (key_more (key_from c.args.core.now c.args.levels.now c.args.place k) c.args.key.now next k c.member_at.result (omega (arith, c.requires.even, c.dimensions-test.true)) c.member_at.ensures) ∙ c.dimensions.invariant)

pub returns-then-member_at-key : goal.returns-then-member_at-key
returns-then-member_at-key c =
    let k = c.dimensions.number in
    let next = key_from c.args.core.now c.args.levels.now c.args.place (c.dimensions.number + 1) in
    ends c.member_at.result (get_or c.args.key.now k 0) (same next (drop (k + 1) c.args.key.now)) (same (key_at (bare c.args.core.now) c.args.levels.now c.args.place) c.args.key.now) c.if-member_at-key.true
    (sym (key_more (key_from c.args.core.now c.args.levels.now c.args.place k) c.args.key.now next k c.member_at.result (omega (arith, c.requires.even, c.dimensions-test.true)) c.member_at.ensures) ∙ c.dimensions.invariant)

pub returns : goal.returns
returns c =
    let k = c.dimensions.number in
    sym (compared (key_from c.args.core.now c.args.levels.now c.args.place k) (drop k c.args.key.now) (from_end c.args.core.now c.args.levels.now c.args.place k c.requires.levels c.dimensions-test.false) (drop_all k c.args.key.now (omega (arith, c.requires.even, c.dimensions-test.false)))) ∙ c.dimensions.invariant
