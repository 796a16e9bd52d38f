use Rattle.std.proofs.Common.{◌≡◌, ◌-◌, length, drop}
use Rattle.cube_facts.specs.Tags.{number_of}
use Rattle.cube_facts.proofs.tags.tag_of.Given as goal

abbrev pub invariant-loop-behind : goal.invariant-loop-behind
invariant-loop-behind l = l.tag ≡ number_of (drop (length l.name - l.behind) l.name)
