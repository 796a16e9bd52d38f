use Rattle.std.specs.List.{All}
use Rattle.std.proofs.Common.{ℕ, List, subst, sym}
use Rattle.cube_model.specs.declared.answer.Row.{Row}
use Rattle.cube_core.specs.Rows.{ArePlaces}
use Rattle.cube_demo.proofs.sums.hides.Goals as goal

pub cancel_in_all-requires-clause-places : goal.cancel_in_all-requires-clause-places
cancel_in_all-requires-clause-places c = subst (λ (n : ℕ). All (λ (rows : List Row). All (λ (row : Row). ArePlaces n row.places) rows) c.args.tables.now) (sym c.requires.long) c.requires.places
