use Rattle.std.proofs.Common.{◌≡◌, ◌++◌, drop, map}
use Rattle.cube_notes.specs.Shown.{plain_of}
use Rattle.cube_notes.proofs.shown.push_plain.Given as goal

abbrev pub invariant-loop-byte : goal.invariant-loop-byte
invariant-loop-byte l = l.text ++ map plain_of (drop l.byte-index l.bytes) ≡ l.fn.text ++ map plain_of l.bytes
