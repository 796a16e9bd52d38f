-- Cells of places name members that there are.
use Rattle.std.proofs.Common.{◌≡◌, ℕ, ◌<◌, true, List, [], length, get_or, refl, sym, ap, ◌∙◌, subst}
use Rattle.cube_model.specs.declared.cell.Cell.{Cell}
use Rattle.cube_model.specs.declared.policy.Policy.{Policy}
use Rattle.cube_model.specs.Cores.{Core, IsCore, shown}
use Rattle.cube_model.specs.Cubes.{are_levels, key_at, IsPoint}
use Rattle.cube_model.specs.Dims.{plains}
use Rattle.cube_model.proofs.Sources.{Each-get_or}
use Rattle.cube_answers.specs.VerdictText.{CellFits}
use Rattle.cube_answers.proofs.Keys.{key_there}
use Rattle.cube_source.specs.Blocks.{bare}
use Rattle.cube_source.proofs.Keys.{length-levels}
use Rattle.cube_text.specs.Keys.{KeyFits}
use Rattle.cube_reason.specs.ReasonText.{reason_words}
use Rattle.cube_reason.specs.declared.reasons.Reason.{Reason}
use Rattle.cube_reason.specs.declared.reasons.Reason.TheVariants.{Blocks, Walk}

-- the cell of a cuboid that covers a place
pub cell_there : (c : Core) (ls : List ℕ) (i : ℕ) (t : Cell) → IsCore c → are_levels (plains c.dims) ls ≡ true → i < length c.shape.points → t.levels ≡ ls → t.key ≡ key_at (bare c) ls i → CellFits c.dims t
unfolding key_at
cell_there c ls i t ok e l a b =
    let long = length-levels c.dims.dimensions ls e in
    let there = key_there c.dims ls (get_or c.shape.points i []) ok.dims long (Each-get_or (IsPoint (plains c.dims)) c.shape.points i [] ok.points l) in
    record {
      levels = ap length a ∙ long;
      key = ap length b ∙ there.0;
      there = subst (λ (ks : List ℕ). KeyFits c.dims ks t.key) (sym a) (subst (KeyFits c.dims ls) (sym b) there.1);
    }

-- no text looks at the policy
pub words_bare : (c : Core) (p : Policy) (x : Reason) → reason_words c.dims (bare c) x ≡ reason_words c.dims (shown c p) x
unfolding key_at
words_bare c p (Blocks t blocks) = refl
words_bare c p (Walk place steps end) = refl
