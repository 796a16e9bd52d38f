use Rattle.std.proofs.Common.{ap, sym, ◌∙◌, subst}
use Rattle.std.specs.Option.{option_copied}
use Rattle.cube_model.specs.Cores.{shown}
use Rattle.cube_model.specs.Cubes.{are_levels}
use Rattle.cube_model.specs.Dims.{plains}
use Rattle.cube_reason.specs.Given.{HasLevels}
use Rattle.cube_reason.proofs.Narrowed.{grain_levels, narrow_long, narrowed_levels}
use Rattle.cube_reason.proofs.narrowing.next_source.Goals as goal

pub narrow-requires : goal.narrow-requires
narrow-requires c =
    let ds = plains c.args.case.now.core.now.dims in
    let there = ap (are_levels ds) c.in_ok-grain.ensures ∙ grain_levels (shown c.args.case.now.core.now c.args.case.now.policy.now) c.args.case.now.request.now c.requires.case.valid in
    narrow_long ds (option_copied c.as_ref.result) c.in_ok-grain.field-0 (subst (HasLevels ds) (sym c.as_ref.ensures.value) c.in_ok-source.ensures.levels) there

pub returns-clause-there : goal.returns-clause-there
returns-clause-there c =
    let ds = plains c.args.case.now.core.now.dims in
    let there = ap (are_levels ds) c.in_ok-grain.ensures ∙ grain_levels (shown c.args.case.now.core.now c.args.case.now.policy.now) c.args.case.now.request.now c.requires.case.valid in
    ap (are_levels ds) c.narrow.ensures ∙ narrowed_levels ds (option_copied c.as_ref.result) c.in_ok-grain.field-0 (subst (HasLevels ds) (sym c.as_ref.ensures.value) c.in_ok-source.ensures.levels) there
