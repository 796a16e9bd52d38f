-- A request that is read is valid under each policy for the dimensions.
use Rattle.std.proofs.Common.{◌≡◌, true, nat_lt, refl, ap}
use Rattle.cube_model.specs.declared.policy.Policy.{Policy}
use Rattle.cube_model.specs.declared.request.Request.{Request}
use Rattle.cube_model.specs.declared.request.What.{What}
use Rattle.cube_model.specs.declared.request.What.TheVariants.{Count, Measure}
use Rattle.cube_model.specs.Cores.{Core, shown}
use Rattle.cube_model.specs.Policies.{IsPolicy}
use Rattle.cube_model.specs.Requests.{is_valid, is_there as is_there_in}
use Rattle.cube_query.specs.Canonical.{is_request, is_there}

pub valid_under : (c : Core) (p : Policy) (r : Request) → IsPolicy c.dims p → is_request c.dims r ≡ true → is_valid (shown c p) r ≡ true
unfolding is_request is_valid
valid_under c p r policy valid = rw (there r.what) valid
  where
    there : (what : What) → is_there_in (shown c p) what ≡ is_there c.dims what
    there Count = refl
    there (Measure m) = ap (nat_lt m) policy.methods
