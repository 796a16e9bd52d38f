use Rattle.std.proofs.Common.{◌≡◌, ◌++◌, drop, flat_map}
use Rattle.cube_words.specs.Help.{usage_of}
use Rattle.cube_words.proofs.helping.push_usages.Given as goal

abbrev pub invariant-loop-command : goal.invariant-loop-command
invariant-loop-command l = l.text ++ flat_map usage_of (drop l.command-index l.commands) ≡ l.fn.text ++ flat_map usage_of l.commands
