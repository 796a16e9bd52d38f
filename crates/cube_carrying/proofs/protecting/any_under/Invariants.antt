use Rattle.std.specs.List.{list_any}
use Rattle.std.proofs.Common.{◌≡◌, drop, get_or}
use Rattle.cube_source.specs.Blocks.{bare}
use Rattle.cube_carrying.specs.Shields.{is_shielded_over}
use Rattle.cube_carrying.proofs.protecting.any_under.Given as goal

abbrev pub invariant-covered : goal.invariant-covered
invariant-covered l = list_any (λ i. is_shielded_over (bare l.crossing.new.now) l.crossing.new_policy.now.objects l.crossing.measure l.levels (get_or l.crossing.places.now i 0)) (drop l.place-index l.covered) ≡ list_any (λ i. is_shielded_over (bare l.crossing.new.now) l.crossing.new_policy.now.objects l.crossing.measure l.levels (get_or l.crossing.places.now i 0)) l.covered
