-- Words with their numbers, line by line.
use Rattle.std.proofs.Common.{◌≡◌, ◌+◌, ℕ, suc, List, [], ◌∷◌, ◌++◌, sym, ap, ◌∙◌, arith, append_assoc, append-nil}
use Rattle.std.specs.Str.Lines.{lines}
use Rattle.cube_model.specs.declared.entry.Entry.{Entry}
use Rattle.cube_model.specs.Cubes.{Public}
use Rattle.cube_model.specs.Dims.{Dims}
use Rattle.cube_advise.specs.declared.word.Word.{Word}
use Rattle.cube_advise.specs.Words.{words_of}
use Rattle.cube_advise.specs.Lines.{word_line, numbered}

-- one more line was judged, and its word written
pub one_more : (s : Dims) (g : Public) (h k : List Entry) (rest behind line said new all : List ℕ) (w : Word) (n : ℕ) → lines rest ≡ line ∷ lines behind
    → words_of s g h (line ∷ lines behind) ≡ w ∷ words_of s g k (lines behind)
    → said ++ numbered (n + 1) (words_of s g h (lines rest)) ≡ all
    → new ≡ said ++ word_line (n + 1) w
    → new ++ numbered (n + 1 + 1) (words_of s g k (lines behind)) ≡ all
one_more s g h k rest behind line said new all w n cut step so_far put =
    let next : n + 1 + 1 ≡ suc (n + 1) = omega arith in
    ap (λ (x : List ℕ). x ++ numbered (n + 1 + 1) (words_of s g k (lines behind))) put
    ∙ append_assoc said (word_line (n + 1) w) (numbered (n + 1 + 1) (words_of s g k (lines behind)))
    ∙ ap (λ (j : ℕ). said ++ (word_line (n + 1) w ++ numbered j (words_of s g k (lines behind)))) next
    ∙ ap (λ (ws : List Word). said ++ numbered (n + 1) ws) (sym step)
    ∙ ap (λ (ls : List (List ℕ)). said ++ numbered (n + 1) (words_of s g h ls)) (sym cut)
    ∙ so_far

-- no line is left
pub all_said : (s : Dims) (g : Public) (h : List Entry) (rest said all : List ℕ) (n : ℕ) → lines rest ≡ [] → said ++ numbered n (words_of s g h (lines rest)) ≡ all → said ≡ all
all_said s g h rest said all n none so_far = sym (append-nil said) ∙ ap (λ (ls : List (List ℕ)). said ++ numbered n (words_of s g h ls)) (sym none) ∙ so_far
