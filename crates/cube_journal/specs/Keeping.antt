-- What a journal holds of its log, and what one call of it may leave.
use Rattle.std.specs.Prelude.{◌≡◌, ◌≢◌, ◌⊎◌, ℕ, Bool, false, List, [], ◌∷◌, ◌++◌, length, take, drop}
use Rattle.cube_model.specs.Cubes.{Each, IsIn}
use Rattle.cube_io.specs.States.{State, IsImage, settled}
use Rattle.cube_journal.specs.Lines.{IsLine, IsPrefix, IsEnded, ended_lines}

-- A journal: the number of its log, the length of the kept bytes, whether its last keep failed.
pub record Journal : Type 0 where
  pub log : ℕ
  pub kept : ℕ
  pub failed : Bool

-- the beginning of some line
abbrev pub IsTorn : List ℕ → Type 0
IsTorn tail = (line : List ℕ) × IsLine line × IsPrefix tail line

-- the journal is that of the log as it stands
pub record Fits (s : State) (j : Journal) : Type 0 where
  pub long : length s.safe ≡ j.kept
  pub ended : IsEnded s.safe
  pub torn : Each IsTorn s.tails
  pub quiet : j.failed ≡ false → s.now ≡ s.safe

-- the safe part is as before, and each tail was one or is the beginning of the line
pub record KeepsSafe (line : List ℕ) (old s : State) : Type 0 where
  pub safe : s.safe ≡ old.safe
  pub tails : Each (λ t. IsIn t old.tails ⊎ IsPrefix t line) s.tails

-- a state in a keep: nothing is lost, and at most the line is added
abbrev pub IsInKeep : List ℕ → State → State → Type 0
IsInKeep line old s = KeepsSafe line old s ⊎ (s ≡ settled (old.safe ++ line))

-- the bytes are those that a crash could leave before, or the safe ones and the beginning of the line
abbrev pub IsBeforeOrBegun : List ℕ → State → List ℕ → Type 0
IsBeforeOrBegun line old bytes = IsImage old bytes ⊎ ((p : List ℕ) × IsPrefix p line × (bytes ≡ old.safe ++ p))

-- the lines are those of the safe part, alone or with one more
abbrev pub HasAtMostOneMore : List ℕ → List ℕ → Type 0
HasAtMostOneMore safe bytes = (ended_lines bytes ≡ ended_lines safe) ⊎ ((l : List ℕ) × (ended_lines bytes ≡ ended_lines safe ++ l ∷ []))

-- what a crash may leave in a keep: the lines that were kept, alone or with one more, which is
-- the line in hand or one that a crash could leave before
pub record LeavesKept (line : List ℕ) (old s : State) : Type 0 where
  pub bytes : (b : List ℕ) → IsImage s b → IsBeforeOrBegun line old b
  pub lines : (b : List ℕ) → IsImage s b → HasAtMostOneMore old.safe b

-- the first bytes, so many or more
abbrev pub IsCutShort : ℕ → List ℕ → List ℕ → Type 0
IsCutShort len bytes b = (p : List ℕ) × IsPrefix p (drop len bytes) × (b ≡ take len bytes ++ p)

-- each image has the ended lines of these bytes
abbrev pub KeepsLines : List ℕ → State → Type 0
KeepsLines bytes s = (b : List ℕ) → IsImage s b → ended_lines b ≡ ended_lines bytes

-- each image is the beginning of this line
abbrev pub IsBegun : List ℕ → State → Type 0
IsBegun line s = (b : List ℕ) → IsImage s b → IsPrefix b line

-- each image is the beginning of a first line where no line ended, and has the ended lines where some did
abbrev pub Restores : List ℕ → List ℕ → State → Type 0
Restores head bytes s = ((ended_lines bytes ≡ []) × IsBegun head s) ⊎ ((ended_lines bytes ≢ []) × KeepsLines bytes s)

-- a state in a recovery: the state at entry, or each image gives back what the log gave at entry
abbrev pub IsInRecovery : {X : Type 0} → (List ℕ → X) → State → State → Type 0
IsInRecovery recovered old s = (s ≡ old) ⊎ ((b : List ℕ) → IsImage s b → recovered b ≡ recovered old.now)
