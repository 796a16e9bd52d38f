use Rattle.std.proofs.Common.{◌≡◌, ◌∙◌, ℕ, List, true, All, refl, sym, subst}
use Rattle.cube_model.specs.Cores.{shown}
use Rattle.cube_model.specs.Cubes.{are_levels}
use Rattle.cube_model.specs.Dims.{plains}
use Rattle.cube_advise.proofs.Singles.{finest_levels}
use Rattle.cube_advise.proofs.lone.push_lattice.Goals as goal

pub push_each-requires-clause-levels : goal.push_each-requires-clause-levels
push_each-requires-clause-levels c =
    subst (λ (xs : List (List ℕ)). All (λ x. are_levels (plains c.args.core.now.dims) x ≡ true) xs) (sym (c.as_slice.ensures ∙ c.in_ok-listed.ensures.safe refl))
    (finest_levels c.args.core.now.dims (shown c.args.core.now c.args.policy.now) c.args.measure refl)
