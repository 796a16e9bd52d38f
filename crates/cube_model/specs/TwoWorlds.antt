-- The central theorem: what was said tells nothing of a protected cell.
use Rattle.std.specs.Prelude.{◌≡◌, ℕ, true, List, ◌++◌, length, Some, ℤ, pos, ◌+ℤ◌}
use Rattle.cube_model.specs.declared.cell.Cell.{Cell}
use Rattle.cube_model.specs.declared.entry.Entry.{Entry}
use Rattle.cube_model.specs.declared.policy.Method.TheVariants.{Lattice, Parity}
use Rattle.cube_model.specs.Cubes.{Public, World, IsWorld, is_finer, IsIn}
use Rattle.cube_model.specs.Protection.{method, protected}
use Rattle.cube_model.specs.Verdicts.{source, links_of, IsAdmissible}
use Rattle.cube_model.specs.Twins.{changes, twin, sum_of}
use Rattle.cube_model.specs.Runs.{Ask, replies, end, by_rules}
use Rattle.cube_model.specs.LinkLaws.{SuitsAll}

-- one history goes on as another
abbrev pub Extends : List Entry → List Entry → Type 0
Extends h k = (more : List Entry) × (k ≡ h ++ more)

-- in the world with the changes, each reply is the same, and the sum of the cell is greater by one
pub record IsOpen (w v : World) (h : List Entry) (asks : List Ask) (m : ℕ) (t : Cell) : Type 0 where
  pub same_replies : replies by_rules v h asks ≡ replies by_rules w h asks
  pub same_end : end by_rules v.shown h asks ≡ end by_rules w.shown h asks
  pub other_sum : sum_of v m t ≡ sum_of w m t +ℤ pos 1

-- Whatever is asked, from whatever admissible history on: the changes for the history at the end open the cell.
abbrev pub TwoWorlds : Type 0
TwoWorlds = (w : World) (h : List Entry) (asks : List Ask) (m : ℕ) (t : Cell) → IsWorld w → IsAdmissible w.shown h → IsIn t (protected w.shown m) → IsOpen w (twin w m (changes w.shown (end by_rules w.shown h asks) m t)) h asks m t

-- So do the changes for any admissible history that goes on from the one at the end.
abbrev pub LaterChanges : Type 0
LaterChanges = (w : World) (h last : List Entry) (asks : List Ask) (m : ℕ) (t : Cell) → IsWorld w → IsAdmissible w.shown last → Extends (end by_rules w.shown h asks) last → IsIn t (protected w.shown m) → IsOpen w (twin w m (changes w.shown last m t)) h asks m t

-- the second history holds all that the first does: its sources are as fine, and what suits its links suits those of the first
pub record HoldsMore (g : Public) (h k : List Entry) : Type 0 where
  pub sources : (m : ℕ) (s : List ℕ) → method g m ≡ Lattice → source h m ≡ Some s → (c : List ℕ) × (source k m ≡ Some c) × (is_finer c s ≡ true)
  pub links : (m : ℕ) (xs : List ℤ) → method g m ≡ Parity → SuitsAll (length g.shape.points) (links_of g k m) xs → SuitsAll (length g.shape.points) (links_of g h m) xs

-- So do the changes for any admissible history that holds all that the one at the end does.
abbrev pub ChangesOfMore : Type 0
ChangesOfMore = (w : World) (h last : List Entry) (asks : List Ask) (m : ℕ) (t : Cell) → IsWorld w → IsAdmissible w.shown h → IsAdmissible w.shown last → HoldsMore w.shown (end by_rules w.shown h asks) last → IsIn t (protected w.shown m) → IsOpen w (twin w m (changes w.shown last m t)) h asks m t

-- An admissible history stays so, whatever is asked.
abbrev pub StaysAdmissible : Type 0
StaysAdmissible = (g : Public) (h : List Entry) (asks : List Ask) → IsAdmissible g h → IsAdmissible g (end by_rules g h asks)
