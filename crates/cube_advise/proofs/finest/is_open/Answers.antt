use Rattle.std.proofs.Common.{◌≡◌, ℕ, true, List, length, is_none, sym, ap, ◌∙◌, subst}
use Rattle.std.specs.Option.{option_copied}
use Rattle.std.specs.Prelude.{IfSome}
use Rattle.cube_model.specs.Cores.{shown}
use Rattle.cube_model.specs.Cubes.{are_levels}
use Rattle.cube_model.specs.Dims.{plains}
use Rattle.cube_model.specs.Protection.{uncut}
use Rattle.cube_model.specs.Verdicts.{narrowed}
use Rattle.cube_advise.proofs.Narrowing.{narrow_long, narrow_levels}
use Rattle.cube_advise.proofs.Opening.{open_is_none}
use Rattle.cube_advise.proofs.finest.is_open.Goals as goal

pub narrow-narrowed-requires : goal.narrow-narrowed-requires
narrow-narrowed-requires c =
    subst (λ (l : List ℕ). IfSome (option_copied c.args.sourced.now.source) (λ held. length held ≡ length l)) (sym c.in_ok-copied.ensures)
    (narrow_long (plains c.args.sourced.now.core.now.dims) (option_copied c.args.sourced.now.source) c.args.levels.now c.requires.source c.requires.levels)

pub judge-requires-clause-levels : goal.judge-requires-clause-levels
judge-requires-clause-levels c =
    subst (λ (n : List ℕ). are_levels (plains c.args.sourced.now.core.now.dims) n ≡ true) (sym (c.narrow-narrowed.ensures ∙ ap (narrowed (option_copied c.args.sourced.now.source)) c.in_ok-copied.ensures))
    (narrow_levels (plains c.args.sourced.now.core.now.dims) (option_copied c.args.sourced.now.source) c.args.levels.now c.requires.source c.requires.levels)

pub returns-clause-is : goal.returns-clause-is
returns-clause-is c =
    let g = shown c.args.sourced.now.core.now c.args.sourced.now.policy.now in
    c.is_safe.ensures (uncut g c.narrow-narrowed.result c.args.sourced.now.measure) c.in_ok-judged.ensures.judged
    ∙ ap (λ (n : List ℕ). is_none (uncut g n c.args.sourced.now.measure)) (c.narrow-narrowed.ensures ∙ ap (narrowed (option_copied c.args.sourced.now.source)) c.in_ok-copied.ensures)
    ∙ sym (open_is_none g (option_copied c.args.sourced.now.source) c.args.sourced.now.measure c.args.levels.now)
