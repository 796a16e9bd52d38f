-- The lines of a reason.
use Rattle.std.specs.List.{All}
use Rattle.std.specs.Prelude.{⊤, ◌<◌, ℕ, List, [], ◌∷◌, ◌++◌, length, flat_map, codes, decimal, Option, Some, None}
use Rattle.cube_model.specs.declared.cell.Cell.{Cell}
use Rattle.cube_model.specs.Cores.{Core}
use Rattle.cube_model.specs.Cubes.{Public}
use Rattle.cube_model.specs.Dims.{Dims}
use Rattle.cube_answers.specs.VerdictText.{cell_text, place_text, bracketed, CellFits}
use Rattle.cube_reason.specs.declared.reasons.End.{End}
use Rattle.cube_reason.specs.declared.reasons.Origin.{Origin}
use Rattle.cube_reason.specs.declared.reasons.Origin.TheVariants.{Entry, Own}
use Rattle.cube_reason.specs.declared.reasons.Reason.{Reason}
use Rattle.cube_reason.specs.declared.reasons.Reason.TheVariants.{Blocks, Walk}
use Rattle.cube_reason.specs.declared.reasons.WalkStep.{WalkStep}

-- a place as refusals name it, between brackets
abbrev pub place_words : Dims → Public → ℕ → List ℕ
place_words s g i = bracketed (place_text s g i)

abbrev pub origin_words : Origin → List ℕ
origin_words (Entry n) = codes "entry " ++ decimal n
origin_words (Own k) = codes "own " ++ decimal k

abbrev pub block_line : Dims → Cell → List ℕ
block_line s b = codes "block " ++ bracketed (cell_text s b) ++ 10 ∷ []

-- where a link comes from, at the end of a line
abbrev pub by_words : Origin → List ℕ
by_words o = 32 ∷ origin_words o ++ 10 ∷ []

abbrev pub step_line : Dims → Public → WalkStep → List ℕ
step_line s g x = codes "step " ++ place_words s g x.from ++ 32 ∷ place_words s g x.to ++ by_words x.by

abbrev pub end_line : Dims → Public → Option End → List ℕ
end_line s g None = []
end_line s g (Some e) = codes "end " ++ place_words s g e.place ++ by_words e.by

-- A line for each block, or for each step and for the end. It has no cube among its arguments.
abbrev pub reason_words : Dims → Public → Reason → List ℕ
reason_words s g (Blocks t blocks) = flat_map (block_line s) blocks
reason_words s g (Walk place steps end) = flat_map (step_line s g) steps ++ end_line s g end

-- ---- what a reason has to be

abbrev pub EndsThere : ℕ → Option End → Type 0
EndsThere n None = ⊤
EndsThere n (Some e) = e.place < n

-- what is named in the reason is there
abbrev pub CanBeTold : Core → Reason → Type 0
CanBeTold c (Blocks t blocks) = All (CellFits c.dims) blocks
CanBeTold c (Walk place steps end) = All (λ x. (x.from < length c.shape.points) × (x.to < length c.shape.points)) steps × EndsThere (length c.shape.points) end
