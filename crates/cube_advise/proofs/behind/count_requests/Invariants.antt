use Rattle.std.proofs.Common.{◌≡◌, ◌+◌, drop, length}
use Rattle.cube_model.specs.Entries.{requests}
use Rattle.cube_advise.proofs.behind.count_requests.Given as goal

abbrev pub invariant-entries : goal.invariant-entries
invariant-entries l = l.count + length (requests (drop l.entry-index l.history)) ≡ length (requests l.history)
