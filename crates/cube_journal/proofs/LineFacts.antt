-- Lines of bytes, one part behind another.
use Rattle.std.proofs.Common.{◌≡◌, ◌≢◌, ◌⊎◌, inl, inr, ⊎_elim, ℕ, ◌==◌, Bool, true, false, List, [], ◌∷◌, ◌++◌, refl, sym, ◌∙◌, ap, subst, arith, append_assoc, if◌then◌else◌, not, ◌&&◌}
use Rattle.std.specs.List.{list_all}
use Rattle.std.proofs.lemmas.Bool.Decides.{nat_tests}
use Rattle.std.proofs.lemmas.List.{append-nil}
use Rattle.cube_journal.specs.Lines.{onto, ended_lines, IsInLine, IsLine, IsEnded}
use Rattle.cube_journal.specs.Keeping.{IsTorn, HasAtMostOneMore}

abbrev Lines : Type 0
Lines = List (List ℕ)

is_feed : (b : ℕ) → b ≡ 10 → (b == 10) ≡ true
is_feed b e = grind (arith, nat_tests)

pub is_no_feed : (b : ℕ) → b ≢ 10 → (b == 10) ≡ false
is_no_feed b ne = grind (arith, nat_tests)

some_step : (t : Bool) (b : ℕ) (x : Lines) → (x ≡ [] → ⊥) → (if t then [] ∷ x else onto b x) ≡ [] → ⊥
some_step true b x some e = cc
some_step false b [] some e = some refl
some_step false b (l ∷ ls) some e = cc

-- where the last byte is a line feed, there is a line
pub some_line : (b : ℕ) (bs : List ℕ) → IsEnded (b ∷ bs) → ended_lines (b ∷ bs) ≡ [] → ⊥
some_line b [] e none = let t : (b == 10) ≡ true = is_feed b e in let shown : [] ∷ [] ≡ [] = rw t at none in cc
some_line b (c ∷ bs) e none = some_step (b == 10) b (ended_lines (c ∷ bs)) (some_line c bs e) none

front_step : (t : Bool) (b : ℕ) (x m whole : Lines) → (x ≡ [] → ⊥) → whole ≡ x ++ m → (if t then [] ∷ whole else onto b whole) ≡ (if t then [] ∷ x else onto b x) ++ m
front_step true b x m whole some e = ap (λ (l : Lines). [] ∷ l) e
front_step false b [] m whole some e = absurd (some refl)
front_step false b (l ∷ ls) m whole some e = ap (λ (l : Lines). onto b l) e

-- behind ended bytes the lines go on
pub lines_split : (xs p : List ℕ) → IsEnded xs → ended_lines (xs ++ p) ≡ ended_lines xs ++ ended_lines p
lines_split [] p e = refl
lines_split (b ∷ []) p e = let t : (b == 10) ≡ true = is_feed b e in rw t refl
lines_split (b ∷ c ∷ bs) p e = front_step (b == 10) b (ended_lines (c ∷ bs)) (ended_lines p) (ended_lines (c ∷ bs ++ p)) (some_line c bs e) (lines_split (c ∷ bs) p e)

-- the beginning of a line is no line yet, or all of it
pub torn_lines : (text p rest : List ℕ) → IsInLine text → p ++ rest ≡ text ++ 10 ∷ [] → (ended_lines p ≡ []) ⊎ (ended_lines p ≡ text ∷ [])
torn_lines text [] rest clean e = inl refl
torn_lines [] (b ∷ []) rest clean e = let f : b ≡ 10 = cc in let t : (b == 10) ≡ true = is_feed b f in inr (rw t refl)
torn_lines [] (b ∷ c ∷ bs) rest clean e = absurd (let no : c ∷ bs ++ rest ≡ [] = cc in cc)
torn_lines (x ∷ text) (b ∷ bs) rest clean e =
    let here : b ≡ x = cc in
    let there : bs ++ rest ≡ text ++ 10 ∷ [] = cc in
    let f : (b == 10) ≡ false = is_no_feed b (λ is. clean.0 (sym here ∙ is)) in
    ⊎_elim (λ none. inl (rw f (ap (onto b) none))) (λ one. inr (rw f (ap (onto b) one ∙ ap (λ (y : ℕ). (y ∷ text) ∷ []) here))) (torn_lines text bs rest clean.1 there)

pub whole_line : (text : List ℕ) → IsInLine text → ended_lines (text ++ 10 ∷ []) ≡ text ∷ []
whole_line [] clean = refl
whole_line (x ∷ text) clean = let f : (x == 10) ≡ false = is_no_feed x clean.0 in rw f (ap (onto x) (whole_line text clean.1))

pub ended_push : (xs : List ℕ) → IsEnded (xs ++ 10 ∷ [])
ended_push [] = refl
ended_push (b ∷ []) = refl
ended_push (b ∷ c ∷ bs) = ended_push (c ∷ bs)

pub ended_line : (xs line : List ℕ) → IsLine line → IsEnded (xs ++ line)
ended_line xs line is = subst IsEnded (append_assoc xs is.text (10 ∷ []) ∙ ap (λ (l : List ℕ). xs ++ l) (sym is.ended)) (ended_push (xs ++ is.text))

-- a kept line is one line more
pub one_more : (safe line text : List ℕ) → IsEnded safe → line ≡ text ++ 10 ∷ [] → IsInLine text → ended_lines (safe ++ line) ≡ ended_lines safe ++ text ∷ []
one_more safe line text ended is clean = lines_split safe line ended ∙ ap (λ (l : List ℕ). ended_lines safe ++ ended_lines l) is ∙ ap (λ (ls : Lines). ended_lines safe ++ ls) (whole_line text clean)

-- the beginning of a line behind ended bytes
pub at_most_one_more : (safe p : List ℕ) → IsEnded safe → IsTorn p → HasAtMostOneMore safe (safe ++ p)
at_most_one_more safe p ended torn =
    let line = torn.1 in
    let split = lines_split safe p ended in
    ⊎_elim
    (λ none. inl (split ∙ ap (λ (ls : Lines). ended_lines safe ++ ls) none ∙ append-nil (ended_lines safe)))
    (λ one. inr (line.text, split ∙ ap (λ (ls : Lines). ended_lines safe ++ ls) one))
    (torn_lines line.text p torn.2.0 line.clean (torn.2.1 ∙ line.ended))

-- a text without a line feed, as a test
pub clean_text : (text : List ℕ) → list_all (λ b. not (b == 10)) text ≡ true → IsInLine text
clean_text [] t = tt
clean_text (b ∷ text) t = by (b == 10) refl t (clean_text text)
  where
    by : (f : Bool) → (b == 10) ≡ f → (not f && list_all (λ b. not (b == 10)) text) ≡ true → (list_all (λ b. not (b == 10)) text ≡ true → IsInLine text) → IsInLine (b ∷ text)
    by true f t more = absurd (let e : false ≡ true = t in cc)
    by false f t more = ((λ is. absurd (let e : true ≡ false = sym (is_feed b is) ∙ f in cc)), more t)

pub is_line : (text : List ℕ) → list_all (λ b. not (b == 10)) text ≡ true → IsLine (text ++ 10 ∷ [])
is_line text t = record { text = text; ended = refl; clean = clean_text text t }
