use Rattle.std.proofs.Common.{ap, sym, ◌∙◌, subst}
use Rattle.std.specs.Option.{option_copied}
use Rattle.cube_model.specs.Cores.{shown}
use Rattle.cube_model.specs.Cubes.{are_levels}
use Rattle.cube_model.specs.Dims.{plains}
use Rattle.cube_reason.specs.Given.{HasLevels}
use Rattle.cube_reason.proofs.Narrowed.{grain_there, source_there, narrow_long, narrowed_levels}
use Rattle.cube_reason.proofs.narrowing.narrow_by.Goals as goal

pub narrow-requires : goal.narrow-requires
narrow-requires c =
    let ds = plains c.args.core.now.dims in
    let there = grain_there (shown c.args.core.now c.args.policy.now) c.args.entry.now c.in-Asked.request c.in_ok-grain-in-Asked.field-0 c.requires.allowed c.in-Asked.is c.in_ok-grain-in-Asked.ensures in
    narrow_long ds (option_copied c.as_ref.result) c.in_ok-grain-in-Asked.field-0 (subst (HasLevels ds) (sym c.as_ref.ensures.value) c.requires.source) there

pub narrow-requires-in-Source : goal.narrow-requires-in-Source
narrow-requires-in-Source c =
    let ds = plains c.args.core.now.dims in
    let there = source_there (shown c.args.core.now c.args.policy.now) c.args.entry.now c.in-Source.measure c.in-Source.levels c.in_ok-copied-in-Source.field-0 c.requires.allowed c.in-Source.is c.in_ok-copied-in-Source.ensures in
    narrow_long ds (option_copied c.as_ref-in-Source.result) c.in_ok-copied-in-Source.field-0 (subst (HasLevels ds) (sym c.as_ref-in-Source.ensures.value) c.requires.source) there

pub returns-in_ok-grain-in-Asked-clause-levels : goal.returns-in_ok-grain-in-Asked-clause-levels
returns-in_ok-grain-in-Asked-clause-levels c =
    let ds = plains c.args.core.now.dims in
    let there = grain_there (shown c.args.core.now c.args.policy.now) c.args.entry.now c.in-Asked.request c.in_ok-grain-in-Asked.field-0 c.requires.allowed c.in-Asked.is c.in_ok-grain-in-Asked.ensures in
    ap (are_levels ds) c.narrow.ensures ∙ narrowed_levels ds (option_copied c.as_ref.result) c.in_ok-grain-in-Asked.field-0 (subst (HasLevels ds) (sym c.as_ref.ensures.value) c.requires.source) there

pub returns-in_ok-copied-in-Source-clause-levels : goal.returns-in_ok-copied-in-Source-clause-levels
returns-in_ok-copied-in-Source-clause-levels c =
    let ds = plains c.args.core.now.dims in
    let there = source_there (shown c.args.core.now c.args.policy.now) c.args.entry.now c.in-Source.measure c.in-Source.levels c.in_ok-copied-in-Source.field-0 c.requires.allowed c.in-Source.is c.in_ok-copied-in-Source.ensures in
    ap (are_levels ds) c.narrow-in-Source.ensures ∙ narrowed_levels ds (option_copied c.as_ref-in-Source.result) c.in_ok-copied-in-Source.field-0 (subst (HasLevels ds) (sym c.as_ref-in-Source.ensures.value) c.requires.source) there
