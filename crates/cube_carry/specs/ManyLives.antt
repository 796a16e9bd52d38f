-- A history that is carried over again and again.
use Rattle.std.specs.Prelude.{◌≡◌, ℕ, ⊤, List, [], ◌∷◌, ℤ, pos, ◌+ℤ◌}
use Rattle.cube_model.specs.declared.cell.Cell.{Cell}
use Rattle.cube_model.specs.declared.entry.Entry.{Entry}
use Rattle.cube_model.specs.Cubes.{IsIn}
use Rattle.cube_model.specs.Protection.{protected}
use Rattle.cube_model.specs.Verdicts.{IsAdmissible}
use Rattle.cube_model.specs.Twins.{changes, sum_of}
use Rattle.cube_model.specs.Runs.{Ask, replies, end, by_rules}
use Rattle.cube_model.specs.TwoWorlds.{Extends}
use Rattle.cube_carry.specs.Names.{Named, known, world_of, IsNamed, measure_in}
use Rattle.cube_carry.specs.Continues.{Continues, KeepsValues}
use Rattle.cube_carry.specs.Carrying.{carried_history, IsCarried}
use Rattle.cube_carry.specs.TwoLives.{old_twin, new_twin, old_cell_changes}

-- a cube, and what was asked of it
pub record Life : Type 0 where
  pub cube : Named
  pub values : List (List ℤ)
  pub asks : List Ask

-- the history with which a cube begins, behind earlier lives, the latest first: what is carried over from the end of the latest, or
-- some history where there was none
abbrev pub beginning : List Entry → List Life → Named → List Entry
beginning h [] b = h
beginning h (l ∷ ls) b = carried_history l.cube b (end by_rules (known l.cube) (beginning h ls l.cube) l.asks)

-- the history at the end of a life behind earlier ones
abbrev pub ending : List Entry → List Life → Life → List Entry
ending h ls l = end by_rules (known l.cube) (beginning h ls l.cube) l.asks

-- what has to hold where a life ends and the next cube goes on
pub record GoesOn (h : List Entry) (ls : List Life) (l : Life) (b : Named) (new : List (List ℤ)) : Type 0 where
  pub is_named : IsNamed l.cube l.values
  pub continues : Continues l.cube b
  pub same_values : KeepsValues l.cube b l.values new
  pub carried : IsCarried l.cube b (ending h ls l)

-- the first life begins with an admissible history, and each cube goes on from the one before
abbrev pub AreInTurn : List Entry → List Life → Named → List (List ℤ) → Type 0
AreInTurn h [] b new = IsAdmissible (known b) h
AreInTurn h (l ∷ ls) b new = GoesOn h ls l b new × AreInTurn h ls l.cube l.values

-- No earlier life tells the cubes with the changes from the cubes: the replies in it are the same over its cube with the changes that the
-- last cube has at its places, and the last cube with the changes has the values of that.
abbrev pub AreSilentBefore : List Entry → List Life → Named → List (List ℤ) → ℕ → List ℤ → Type 0
AreSilentBefore h [] b new m ch = ⊤
AreSilentBefore h (l ∷ ls) b new m ch =
    (replies by_rules (old_twin l.cube b l.values m ch) (beginning h ls l.cube) l.asks ≡ replies by_rules (world_of l.cube l.values) (beginning h ls l.cube) l.asks)
    × KeepsValues l.cube b (old_twin l.cube b l.values m ch).cube (new_twin b new m ch).cube
    × AreSilentBefore h ls b new m ch

-- the last life says the same too
pub record AllSilent (h : List Entry) (ls : List Life) (l : Life) (m : ℕ) (ch : List ℤ) : Type 0 where
  pub same_replies : replies by_rules (new_twin l.cube l.values m ch) (beginning h ls l.cube) l.asks ≡ replies by_rules (world_of l.cube l.values) (beginning h ls l.cube) l.asks
  pub silent_before : AreSilentBefore h ls l.cube l.values m ch

-- Lives in turn, and an admissible history that goes on from the end of the last.
pub record AreLivesInTurn (h : List Entry) (ls : List Life) (l : Life) (later : List Entry) : Type 0 where
  pub in_turn : AreInTurn h ls l.cube l.values
  pub last_named : IsNamed l.cube l.values
  pub later_admissible : IsAdmissible (known l.cube) later
  pub extends : Extends (ending h ls l) later

-- all lives are silent, and the sum of the cell in the last cube is greater by one
pub record HidesLast (h : List Entry) (ls : List Life) (l : Life) (m : ℕ) (t : Cell) (ch : List ℤ) : Type 0 where
  pub silent : AllSilent h ls l m ch
  pub other_sum : sum_of (new_twin l.cube l.values m ch) m t ≡ sum_of (world_of l.cube l.values) m t +ℤ pos 1

-- However often a history is carried over: by the changes for the later history all lives hide each protected cell of the last cube.
abbrev pub ManyLives : Type 0
ManyLives = (h : List Entry) (ls : List Life) (l : Life) (later : List Entry) (m : ℕ) (t : Cell) → AreLivesInTurn h ls l later → IsIn t (protected (known l.cube) m) → HidesLast h ls l m t (changes (known l.cube) later m t)

-- all lives are silent, and the sum of the cell in the cube of an earlier life is greater by one
pub record HidesEarlier (h : List Entry) (ls : List Life) (l o : Life) (k m : ℕ) (t : Cell) (ch : List ℤ) : Type 0 where
  pub silent : AllSilent h ls l m ch
  pub other_sum : sum_of (old_twin o.cube l.cube o.values m ch) k t ≡ sum_of (world_of o.cube o.values) k t +ℤ pos 1

-- So they hide each cell that the cube of an earlier life protected.
abbrev pub EarlierCells : Type 0
EarlierCells = (h : List Entry) (ls : List Life) (l o : Life) (later : List Entry) (k : ℕ) (t : Cell) → AreLivesInTurn h ls l later → IsIn o ls → IsIn t (protected (known o.cube) k) → HidesEarlier h ls l o k (measure_in o.cube.dims l.cube.dims k) t (old_cell_changes o.cube l.cube later (measure_in o.cube.dims l.cube.dims k) t)
