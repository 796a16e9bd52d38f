-- What a yes tells.
use Rattle.std.specs.Prelude.{⊤, ◌≡◌, ℕ, true, List, pos, ◌+ℤ◌}
use Rattle.cube_model.specs.declared.cell.Cell.{Cell}
use Rattle.cube_model.specs.declared.policy.Policy.{Policy}
use Rattle.cube_model.specs.Cores.{Core, shown, world}
use Rattle.cube_model.specs.Cubes.{World, IsIn}
use Rattle.cube_model.specs.Dims.{Dims}
use Rattle.cube_model.specs.Entries.{asked}
use Rattle.cube_model.specs.Protection.{protected}
use Rattle.cube_model.specs.Twins.{changes, twin, sum_of}
use Rattle.cube_audit.specs.Audits.{examined, is_exact, asked_by}
use Rattle.cube_audit.specs.declared.auditing.Audited.{Audited}
use Rattle.cube_audit.specs.declared.auditing.Audited.TheVariants.{Yes, Inexact, Fixed}
use Rattle.cube_audit.specs.declared.transcript.TranscriptItem.{TranscriptItem}

-- each item that was examined is exact in the world
abbrev pub AreExact : Dims → World → List TranscriptItem → Type 0
AreExact s w items = (i : TranscriptItem) → IsIn i (examined items) → is_exact s w i ≡ true

-- the items are exact in the other world too, where the sum of the cell is greater by one
pub record IsOpenBy (s : Dims) (w v : World) (items : List TranscriptItem) (m : ℕ) (t : Cell) : Type 0 where
  pub exact : AreExact s v items
  pub other_sum : sum_of v m t ≡ sum_of w m t +ℤ pos 1

-- the world of a core with the changes for a cell added, which are those of the requests examined
abbrev pub other_world : Core → Policy → List TranscriptItem → ℕ → Cell → World
other_world c p items m t = twin (world c p) m (changes (shown c p) (asked (asked_by c.dims items)) m t)

-- Each item that was examined is exact, and for each protected cell of each measure there is another world where each of them is
-- exact too.
pub record IsSound (c : Core) (p : Policy) (items : List TranscriptItem) : Type 0 where
  pub exact : AreExact c.dims (world c p) items
  pub opens : (m : ℕ) (t : Cell) → IsIn t (protected (shown c p) m) → IsOpenBy c.dims (world c p) (other_world c p items m t) items m t

-- So a yes leaves each protected cell open. A no says nothing of the kind, and is no proof of a disclosure.
abbrev pub SaysSound : Core → Policy → List TranscriptItem → Audited → Type 0
SaysSound c p items (Yes n) = IsSound c p items
SaysSound c p items (Inexact k) = ⊤
SaysSound c p items (Fixed m t) = ⊤
