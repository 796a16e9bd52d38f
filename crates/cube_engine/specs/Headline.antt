-- The headline: nothing that is observed of a cube tells the sum of a protected cell.
use Rattle.std.specs.Prelude.{◌≡◌, ℕ, List, pos, ◌+ℤ◌}
use Rattle.cube_model.specs.declared.cell.Cell.{Cell}
use Rattle.cube_model.specs.declared.entry.Entry.{Entry}
use Rattle.cube_model.specs.declared.policy.Policy.{Policy}
use Rattle.cube_model.specs.Cores.{Core, shown, world}
use Rattle.cube_model.specs.Cubes.{World, IsIn}
use Rattle.cube_model.specs.Protection.{protected}
use Rattle.cube_model.specs.Twins.{changes, twin, sum_of}
use Rattle.cube_model.specs.TwoWorlds.{Extends}
use Rattle.cube_model.specs.Verdicts.{IsAdmissible}

-- the world with the changes for a cell by a history
abbrev pub twin_by : World → List Entry → ℕ → Cell → World
twin_by w last m t = twin w m (changes w.shown last m t)

-- Over the world with the changes the same would be observed, while the sum of the cell is greater by one there.
pub record IsHidden (w : World) (last : List Entry) (observed : World → Type 0) (m : ℕ) (t : Cell) : Type 0 where
  pub same : observed (twin_by w last m t)
  pub other_sum : sum_of (twin_by w last m t) m t ≡ sum_of w m t +ℤ pos 1

-- What was observed of a core under a policy, up to its last history. The two worlds: it hides each protected cell of each measure, with
-- the changes by the last history, and by whatever admissible history that goes on from it, in this run or a later one.
pub record Hides (core : Core) (policy : Policy) (last : List Entry) (observed : World → Type 0) : Type 0 where
  pub here : observed (world core policy)
  pub admissible : IsAdmissible (shown core policy) last
  pub hides : (later : List Entry) → IsAdmissible (shown core policy) later → Extends last later
      → (m : ℕ) (t : Cell) → IsIn t (protected (shown core policy) m) → IsHidden (world core policy) later observed m t
