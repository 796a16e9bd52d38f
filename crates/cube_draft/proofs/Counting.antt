-- Rows that are alike to one of a few.
use Rattle.std.proofs.Common.{◌≡◌, ◌<◌, ◌≤◌, ◌+◌, ℕ, List, [], ◌∷◌, ◌++◌, length, get_or, sym, ap, subst, ◌∙◌, arith, length-append}
use Rattle.std.proofs.Math.ListN.{get_or-append}
use Rattle.std.proofs.Math.Seq.{get_or-append_seam}
use Rattle.std.proofs.lemmas.List.{append-nil}
use Rattle.cube_draft.specs.Kept.{IsAlike, AreFew, Counts, kept_path}
use Rattle.cube_draft.proofs.Steps.{one_more}

module _ (fields : List (List (List ℕ))) (places : List ℕ) where
  -- a row is still alike to one of them where there are more
  still_alike : (old more : List ℕ) (row : ℕ) → IsAlike fields places old row → IsAlike fields places (old ++ more) row
  still_alike old more row a = record {
    number = a.number;
    within = let l = a.within in let long = length-append old more in omega (arith, l, long);
    same = ap (kept_path fields places) (get_or-append old more 0 a.number a.within) ∙ a.same;
  }

  pub counts_same : (old : List ℕ) (row : ℕ) → length old ≤ 65536 → IsAlike fields places old row → Counts fields places old old row
  counts_same old row few a = record { more = []; grown = sym (append-nil old); few = few; alike = a }

  pub counts_new : (old new : List ℕ) (row : ℕ) → length old < 65536 → new ≡ old ++ row ∷ [] → Counts fields places old new row
  counts_new old new row few is = record {
    more = row ∷ [];
    grown = is;
    few = let long = length-append old (row ∷ []) in let same = ap length is in omega (arith, few, long, same);
    alike = record {
      number = length old;
      within = let long = length-append old (row ∷ []) in let same = ap length is in omega (arith, long, same);
      same = ap (λ (r : ℕ). kept_path fields places r) (ap (λ (xs : List ℕ). get_or xs (length old) 0) is ∙ get_or-append_seam old row [] 0);
    };
  }

  pub counted_more : (old new : List ℕ) (row : ℕ) → ((k : ℕ) → k < row → IsAlike fields places old k) → Counts fields places old new row → (k : ℕ) → k < row + 1 → IsAlike fields places new k
  counted_more old new row before c = one_more (IsAlike fields places new) row (λ k l. subst (λ (xs : List ℕ). IsAlike fields places xs k) (sym c.grown) (still_alike old c.more k (before k l))) c.alike

  pub are_few : (firsts : List ℕ) (many row : ℕ) → length firsts ≤ 65536 → many ≤ row → ((k : ℕ) → k < row → IsAlike fields places firsts k) → AreFew fields places many
  are_few firsts many row few all each = record { firsts = firsts; few = few; each = λ k l. each k (omega (arith, l, all)) }
