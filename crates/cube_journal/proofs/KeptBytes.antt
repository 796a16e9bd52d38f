-- What is kept of a log recovers what the log did.
use Rattle.std.proofs.Common.{◌≡◌, ◌≢◌, ℕ, ◌==◌, Bool, true, false, cond, List, [], ◌∷◌, ◌++◌, flat_map, refl, sym, ◌∙◌, ap, arith, Ok}
use Rattle.std.proofs.lemmas.Bool.Decides.{nat_tests}
use Rattle.std.proofs.lemmas.List.{append-nil}
use Rattle.cube_model.specs.Cubes.{Each}
use Rattle.cube_model.specs.Dims.{Dims}
use Rattle.cube_model.specs.declared.entry.Entry.{Entry}
use Rattle.cube_model.specs.declared.policy.Policy.{Policy}
use Rattle.cube_journal.specs.Digests.{is_digest}
use Rattle.cube_journal.specs.Laws.{KeptIs, KeptRecovers}
use Rattle.cube_journal.specs.Lines.{onto, ended_lines, IsInLine}
use Rattle.cube_journal.specs.Recovery.{head_words, first_line, recovered, kept_from}
use Rattle.cube_journal.specs.declared.first.Version.TheVariants.{One}
use Rattle.cube_journal.proofs.Digits.{head_clean}
use Rattle.cube_journal.proofs.LineFacts.{lines_split, whole_line, ended_push}
use Rattle.cube_journal.proofs.Recovering.{begins, begun_recovers, front_recovers, same_lines}

no_feed : (b : ℕ) → (b == 10) ≡ false → b ≢ 10
no_feed b e = grind (arith, nat_tests)

clean_onto : (b : ℕ) (ls : List (List ℕ)) → b ≢ 10 → Each IsInLine ls → Each IsInLine (onto b ls)
clean_onto b [] n e = tt
clean_onto b (l ∷ ls) n e = ((n, e.0), e.1)

-- an ended line has no line feed in it
clean_lines : (bytes : List ℕ) → Each IsInLine (ended_lines bytes)
clean_lines [] = tt
clean_lines (b ∷ bs) = go (b == 10) refl (clean_lines bs)
  where
    go : (t : Bool) → (b == 10) ≡ t → Each IsInLine (ended_lines bs) → Each IsInLine (cond t ([] ∷ ended_lines bs) (onto b (ended_lines bs)))
    go true e more = (tt, more)
    go false e more = clean_onto b (ended_lines bs) (no_feed b e) more

-- lines with their line feeds, one behind another, are these lines
pub lines_again : (ls : List (List ℕ)) → Each IsInLine ls → ended_lines (flat_map (λ text. text ++ 10 ∷ []) ls) ≡ ls
lines_again [] e = refl
lines_again (l ∷ ls) e =
    lines_split (l ++ 10 ∷ []) (flat_map (λ text. text ++ 10 ∷ []) ls) (ended_push l)
    ∙ ap (λ (xs : List (List ℕ)). xs ++ ended_lines (flat_map (λ text. text ++ 10 ∷ []) ls)) (whole_line l e.0)
    ∙ ap (λ (xs : List (List ℕ)). l ∷ xs) (lines_again ls e.1)

first_lines : (digest : List ℕ) → is_digest digest ≡ true → ended_lines (first_line digest) ≡ (head_words One ++ digest) ∷ []
first_lines digest lower = whole_line (head_words One ++ digest) (head_clean One digest lower)

kept_by : (digest : List ℕ) (s : Dims) (p : Policy) (n : ℕ) (bytes : List ℕ) (es : List Entry) (ls : List (List ℕ)) → is_digest digest ≡ true → recovered digest s p n bytes ≡ Ok es → ended_lines bytes ≡ ls → Each IsInLine ls → KeptIs digest s p n (kept_from (first_line digest) ls) es
kept_by digest s p n bytes es [] lower is none clean = record {
  recovers = front_recovers digest s p n (first_line digest) lower ([], append-nil (first_line digest)) ∙ sym (begun_recovers digest s p n bytes (begins digest s p n bytes es is none) none) ∙ is;
  begun = λ e. absurd (let f : (head_words One ++ digest) ∷ [] ≡ [] = sym (first_lines digest lower) ∙ e in cc);
}
kept_by digest s p n bytes es (l ∷ ls) lower is some clean =
    let again : ended_lines (flat_map (λ text. text ++ 10 ∷ []) (l ∷ ls)) ≡ l ∷ ls = lines_again (l ∷ ls) clean in
    record {
      recovers = same_lines digest s p n (flat_map (λ text. text ++ 10 ∷ []) (l ∷ ls)) bytes (λ e. absurd (let f : l ∷ ls ≡ [] = sym some ∙ e in cc)) (again ∙ sym some) ∙ is;
      begun = λ e. absurd (let f : l ∷ ls ≡ [] = sym again ∙ e in cc);
    }

pub kept_recovers : KeptRecovers
kept_recovers digest s p n bytes es lower is = kept_by digest s p n bytes es (ended_lines bytes) lower is refl (clean_lines bytes)
