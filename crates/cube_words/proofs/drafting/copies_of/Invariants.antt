use Rattle.std.proofs.Common.{◌≡◌, ◌++◌, drop, map}
use Rattle.cube_words.proofs.drafting.copies_of.Given as goal

abbrev pub invariant-loop-part : goal.invariant-loop-part
invariant-loop-part l = l.texts ++ map (λ p. p.now) (drop l.part-index l.parts) ≡ map (λ p. p.now) l.parts
