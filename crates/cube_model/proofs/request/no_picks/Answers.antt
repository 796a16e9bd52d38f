use Rattle.std.proofs.Common.{◌∷◌, ◌++◌, [], List, ℕ, Option, None, ap, sym, ◌∙◌}
use Rattle.std.proofs.lemmas.List.{map_more}
use Rattle.cube_model.specs.declared.request.Pick.{Pick}
use Rattle.cube_model.proofs.request.no_picks.Goals as goal

pub levels-preserved : goal.levels-preserved
levels-preserved c =
    let none = λ (level : ℕ). let p : Option Pick = None in p in
    c.in_ok-push.ensures.ok ∙ ap (λ (ps : List (Option Pick)). ps ++ None ∷ []) c.levels.invariant ∙ sym (map_more none c.args.levels.now c.levels._level-index 0 c.levels-test.true)
