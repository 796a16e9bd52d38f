-- Reading behind an opening quote, and the names that it gives.
use Rattle.std.proofs.Common.{◌≡◌, ℕ, Bool, true, false, eqb, List, [], ◌∷◌, ◌++◌, refl, sym, ap, ◌∙◌, append_assoc, append-nil}
use Rattle.std.specs.Prelude.{Option, Some, None, option_map}
use Rattle.cube_model.specs.Names.{is_control}
use Rattle.cube_text.specs.Quoting.{is_marked, onto, ending, is_bare_name, is_quoted, inside, unquoted, unspelled, closing, whole_name}

tested : {X : Type 0} (b : Bool) → (b ≡ true → X) → (b ≡ false → X) → X
tested true f g = f refl
tested false f g = g refl

abbrev behind : List ℕ → Option (List ℕ) → Option (List ℕ)
behind name o = option_map (λ bs. name ++ bs) o

behind_onto : (name : List ℕ) (b : ℕ) (o : Option (List ℕ)) → behind (name ++ b ∷ []) o ≡ behind name (onto b o)
behind_onto name b None = refl
behind_onto name b (Some x) = ap (λ y. Some y) (append_assoc name (b ∷ []) x)

closed : (name rest : List ℕ) → whole_name (Some name, rest) ≡ behind name (ending rest)
closed name [] = ap (λ y. Some y) (sym (append-nil name))
closed name (b ∷ rest) = refl

closes : (m : Bool) (name t : List ℕ) → whole_name (closing m name t) ≡ behind name (unspelled m t)
closes true name [] = refl
closes false name [] = refl
closes true name (b ∷ t) = tested (is_marked b)
    (λ p. rw p (closes false (name ++ b ∷ []) t ∙ behind_onto name b (unspelled false t)))
    (λ p. rw p refl)
closes false name (b ∷ t) = tested (eqb b 34)
    (λ p. rw p (closed name t))
    (λ p. tested (eqb b 92)
    (λ q. rw (p, q) (closes true name t))
    (λ q. tested (is_control b)
    (λ r. rw (p, q, r) refl)
    (λ r. rw (p, q, r) (closes false (name ++ b ∷ []) t ∙ behind_onto name b (unspelled false t)))))

nothing_before : (o : Option (List ℕ)) → behind [] o ≡ o
nothing_before None = refl
nothing_before (Some x) = refl

-- what stands behind an opening quote is a name where reading gives one and leaves nothing
pub closes_whole : (t : List ℕ) → unspelled false t ≡ whole_name (closing false [] t)
closes_whole t = sym (nothing_before (unspelled false t)) ∙ sym (closes false [] t)

-- the name of a text that begins with a quote, and of one that does not
pub unquoted_inside : (t rest : List ℕ) (name : Option (List ℕ)) → is_quoted t ≡ true → name ≡ (closing false [] (inside t)).0 → rest ≡ (closing false [] (inside t)).1 → whole_name (name, rest) ≡ unquoted t
unfolding unquoted
unquoted_inside [] rest name q e f = absurd (cc)
unquoted_inside (b ∷ t) rest name q e f = rw (e, f, q) (sym (closes_whole t))

pub unquoted_bare : (t : List ℕ) → is_quoted t ≡ false → is_bare_name t ≡ true → unquoted t ≡ Some t
unfolding unquoted
unquoted_bare [] q h = absurd (cc)
unquoted_bare (b ∷ t) q h = rw (q, h) refl

pub unquoted_none : (t : List ℕ) → is_quoted t ≡ false → is_bare_name t ≡ false → unquoted t ≡ None
unfolding unquoted
unquoted_none [] q h = refl
unquoted_none (b ∷ t) q h = rw (q, h) refl
