use Rattle.std.proofs.Common.{◌≡◌, sym, subst}
use Rattle.cube_model.specs.Cores.{Core}
use Rattle.cube_model.specs.Cubes.{Each}
use Rattle.cube_starting.proofs.Gathered.{free_of}
use Rattle.cube_starting.proofs.gathering.add_group.Goals as goal

pub add-requires-clause-free : goal.add-requires-clause-free
add-requires-clause-free g c = free_of c.args.group.name c.args.groups.books c.requires.new.0

pub add-requires-clause-alike : goal.add-requires-clause-alike
add-requires-clause-alike g c = subst (λ (k : Core). Each (λ b. b.book.core.dims ≡ k.dims) c.args.groups.books) (sym c.in-Ok-share.ensures) c.requires.alike
