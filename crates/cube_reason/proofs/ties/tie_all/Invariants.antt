use Rattle.std.proofs.Common.{◌≡◌, ◌++◌, map, take}
use Rattle.cube_reason.specs.Tied.{tied}
use Rattle.cube_reason.proofs.ties.tie_all.Given as goal

abbrev pub invariant-links : goal.invariant-links
invariant-links l = l.ties.items ≡ l.initial.ties.items ++ map (λ k. tied k l.by) (take l.link-index l.links)
