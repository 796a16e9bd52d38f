use Rattle.std.proofs.Common.{◌≡◌, ◌∙◌, ℕ, List, length, All, refl, sym, subst}
use Rattle.std.specs.Option.{option_copied}
use Rattle.cube_model.specs.Cores.{shown}
use Rattle.cube_model.specs.Dims.{Dims}
use Rattle.cube_advise.proofs.Listing.{listed_long}
use Rattle.cube_advise.proofs.advising.push_lattice.Goals as goal

pub push_safe-requires : goal.push_safe-requires
push_safe-requires c =
    subst (λ (s : Dims). All (λ x. length x ≡ length s.dimensions) c.as_slice.result.now) (sym c.dims-3.ensures.dims)
    (subst (λ (xs : List (List ℕ)). All (λ x. length x ≡ length c.args.core.now.dims.dimensions) xs) (sym (c.as_slice.ensures ∙ c.in_ok-listed.ensures.finest))
    (listed_long c.args.core.now.dims (shown c.args.core.now c.args.policy.now) (option_copied c.args.source) c.args.measure refl))
