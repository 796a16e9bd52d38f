use Rattle.std.proofs.Common.{ℕ, List, Option, ap, subst}
use Rattle.std.specs.Option.{option_copied}
use Rattle.cube_model.specs.Dims.{plains}
use Rattle.cube_advise.specs.Open.{InRange}
use Rattle.cube_advise.proofs.Listing.{levels_long}
use Rattle.cube_advise.proofs.advising.push_source.Goals as goal

pub push_cuboid_line-requires : goal.push_cuboid_line-requires
push_cuboid_line-requires c = levels_long c.args.dims.now c.in-Some.levels.now (subst (λ (o : Option (List ℕ)). InRange (plains c.args.dims.now) o) (ap option_copied c.in-Some.is) c.requires)
