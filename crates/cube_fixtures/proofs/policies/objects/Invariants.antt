use Rattle.std.proofs.Common.{◌≡◌, map, take}
use Rattle.cube_fixtures.specs.Policies.{object_of}
use Rattle.cube_fixtures.proofs.policies.objects.Given as goal

abbrev pub invariant-guards : goal.invariant-guards
invariant-guards l = l.objects ≡ map object_of (take l.guard-index l.guards)
