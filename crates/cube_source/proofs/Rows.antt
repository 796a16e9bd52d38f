-- Blocks and their places.
use Rattle.std.specs.List.{All}
use Rattle.std.proofs.Common.{◌≡◌, ℕ, ◌+◌, ◌<◌, Bool, true, false, ◌&&◌, ◌||◌, List, length, take, get_or, refl, sym, ap, ◌∙◌, subst, arith}
use Rattle.std.proofs.lemmas.List.Folds.{list_any_more}
use Rattle.cube_model.specs.declared.answer.Row.{Row}
use Rattle.cube_model.specs.Cubes.{Public}
use Rattle.cube_model.specs.Protection.{listed}
use Rattle.cube_core.specs.Rows.{ArePlaces}
use Rattle.cube_source.specs.Blocks.{is_split, is_mixed, AreBlocks, AreFlags}

-- the places of a block are places of the core
pub block_places : (many : ℕ) (rows : List Row) (i : ℕ) (row : Row) (places : List ℕ) → AreBlocks many rows → i < length rows → row ≡ get_or rows i row → places ≡ row.places → All (λ place. place < many) places
block_places many rows i row places are l is same =
    let own = are i row l in
    subst (λ (ps : List ℕ). All (λ place. place < many) ps) (sym (same ∙ ap (λ (r : Row). r.places) is)) own.below

pub block_at : (many : ℕ) (rows : List Row) (i : ℕ) (row : Row) → AreBlocks many rows → i < length rows → row ≡ get_or rows i row → ArePlaces many row.places
block_at many rows i row are l is = subst (λ (r : Row). ArePlaces many r.places) (sym is) (are i row l)

-- whether a place stands in such a block, one block further
pub mixed_more : (g : Public) (c : List ℕ) (rows : List Row) (i : ℕ) (row : Row) (places : List ℕ) (k : ℕ) → i < length rows → row ≡ get_or rows i row → places ≡ row.places
    → is_mixed g c (take (i + 1) rows) k ≡ (is_mixed g c (take i rows) k || (is_split g c places && listed k places))
mixed_more g c rows i row places k l is same =
    list_any_more (λ (r : Row). is_split g c r.places && listed k r.places) rows i row l
    ∙ ap (λ (ps : List ℕ). is_mixed g c (take i rows) k || (is_split g c ps && listed k ps)) (sym (same ∙ ap (λ (r : Row). r.places) is))

-- a block whose places have one key flags none
pub flags_same : (many : ℕ) (g : Public) (c : List ℕ) (rows : List Row) (i : ℕ) (row : Row) (places : List ℕ) (flags : List Bool) → i < length rows → row ≡ get_or rows i row → places ≡ row.places → is_split g c places ≡ false
    → AreFlags many (is_mixed g c (take i rows)) flags → AreFlags many (is_mixed g c (take (i + 1) rows)) flags
flags_same many g c rows i row places flags l is same one f = record {
  long = f.long;
  at = λ k b. f.at k b ∙ sym (mixed_more g c rows i row places k l is same ∙ ap (λ (s : Bool). is_mixed g c (take i rows) k || (s && listed k places)) one ∙ end_false (is_mixed g c (take i rows) k));
}
  where
    end_false : (b : Bool) → (b || false) ≡ b
    end_false true = refl
    end_false false = refl

-- another one flags its places
pub flags_more : (many : ℕ) (g : Public) (c : List ℕ) (rows : List Row) (i : ℕ) (row : Row) (places : List ℕ) (old new : List Bool) → i < length rows → row ≡ get_or rows i row → places ≡ row.places → is_split g c places ≡ true
    → length new ≡ length old → ((k : ℕ) → k < length old → get_or new k false ≡ (get_or old k false || listed k places))
    → AreFlags many (is_mixed g c (take i rows)) old → AreFlags many (is_mixed g c (take (i + 1) rows)) new
flags_more many g c rows i row places old new l is same split size marked f = record {
  long = size ∙ f.long;
  at = λ k b. (
      let own = f.long in
      marked k (omega (arith, b, own)) ∙ ap (λ (s : Bool). s || listed k places) (f.at k b)
      ∙ sym (mixed_more g c rows i row places k l is same ∙ ap (λ (s : Bool). is_mixed g c (take i rows) k || (s && listed k places)) split));
}
