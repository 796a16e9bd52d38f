-- Levels and picks, and that reading leaves no more than there was.
use Rattle.std.proofs.Common.{◌≡◌, ℕ, ◌-◌, ◌≤◌, Bool, true, false, ltb, eqb, List, [], ◌∷◌, ◌++◌, length, refl, sym, ◌∙◌, arith, length-drop, Ok, Err}
use Rattle.std.specs.Prelude.{Option, Some, None, codes, IfOk}
use Rattle.std.specs.List.{prefix_len}
use Rattle.std.proofs.lemmas.Bool.{false≢true}
use Rattle.cube_model.proofs.Members.{tested}
use Rattle.cube_model.specs.Names.{is_control}
use Rattle.cube_text.specs.Quoting.{is_bare, is_marked, closing}
use Rattle.cube_query.specs.declared.query.Name.{Name}
use Rattle.cube_query.specs.declared.query.LevelName.{LevelName}
use Rattle.cube_query.specs.declared.query.PickName.{PickName}
use Rattle.cube_query.specs.Grammar.{Part, nothing, ◌>>=◌, is_blank, word, sign, name, level, fix, span}
use Rattle.cube_query.specs.Reading.{Step, onto, byte_in, word_in, sign_in, behind_blanks, closed_in, quote_in, bare_in, text_in, name_in, level_in, last_in, pick_in}
use Rattle.cube_query.proofs.Parts.{IsPart, word_part, sign_part, name_part, nothing_part, bind_part}
use Rattle.cube_query.proofs.Languages.{Lang, Then, Avoids, IsRead, then_nothing, read_bind, read_nothing, passed_read}
use Rattle.cube_query.proofs.Runs.{Begins, begins_bind, begins_word, avoids_begins, nothing_avoided, apart_from, word_passed}
use Rattle.cube_query.proofs.Blanks.{begins_blank, begins_sign, sign_passed}
use Rattle.cube_query.proofs.Names.{begins_a_name, begins_name, name_read}

pub avoids_nothing : {A : Type 0} (C : ℕ → Bool) (x : A) (K : A → Lang) → ((y : A) → Avoids C (K y)) → Avoids C (Then (λ n. nothing x) K)
avoids_nothing C x K avoids n b u q e h = avoids x n b u q e ((then_nothing x K).to n (b ∷ u) q h)

bare_point : is_bare 46 ≡ false
unfolding is_bare
bare_point = refl

bare_equals : is_bare 61 ≡ false
unfolding is_bare
bare_equals = refl

bare_space : is_bare 32 ≡ false
unfolding is_bare
bare_space = refl

bare_tab : is_bare 9 ≡ false
unfolding is_bare
bare_tab = refl

bare_comma : is_bare 44 ≡ false
unfolding is_bare
bare_comma = refl

pub bare_blank : (b : ℕ) → is_bare b ≡ true → is_blank b ≡ false
bare_blank b h = rw (apart_from is_bare 32 bare_space b h, apart_from is_bare 9 bare_tab b h) refl

pub bare_sign : (c : ℕ) → is_bare c ≡ false → (b : ℕ) → is_bare b ≡ true → begins_blank c b ≡ false
bare_sign c e b h = rw (bare_blank b h, apart_from is_bare c e b h) refl

pub blank_name : (b : ℕ) → is_blank b ≡ true → begins_a_name b ≡ false
blank_name b h = tested (is_bare b)
    (λ e. absurd (false≢true (sym (bare_blank b e) ∙ h)))
    (λ e. rw (e, apart_from is_blank 34 refl b h) refl)

pub level_read : IsRead is_bare (λ n. level n) (λ n r. level_in n r)
unfolding level_in
level_read = read_bind is_bare is_bare (λ n. name n) (λ n d. word (codes ".") >>= λ _. name n >>= λ l. nothing (record { dimension = d; level = l })) (λ n r. name_in n r)
    (λ d n r. onto (word_in n (codes ".") r) (λ _ r. onto (name_in n r) (λ l r. Ok (record { dimension = d; level = l }, r))))
    name_read
    (λ d. passed_read (λ _. false) is_bare (λ n. word (codes ".")) (λ n. name n >>= λ l. nothing (record { dimension = d; level = l })) (λ n r. word_in n (codes ".") r) (λ n r. onto (name_in n r) (λ l r. Ok (record { dimension = d; level = l }, r)))
    (word_passed (codes "."))
    (read_bind is_bare is_bare (λ n. name n) (λ n l. nothing (record { dimension = d; level = l })) (λ n r. name_in n r) (λ l n r. Ok (record { dimension = d; level = l }, r))
    name_read (λ l. read_nothing is_bare (record { dimension = d; level = l })) (λ l. nothing_part (record { dimension = d; level = l })) (λ l K a. avoids_nothing is_bare (record { dimension = d; level = l }) K a))
    (bind_part (λ n. name n) (λ n l. nothing (record { dimension = d; level = l })) name_part (λ l. nothing_part (record { dimension = d; level = l })))
    (λ K a. nothing_avoided (Then (λ n. name n >>= λ l. nothing (record { dimension = d; level = l })) K)))
    (λ d. bind_part (λ n. word (codes ".")) (λ n _. name n >>= λ l. nothing (record { dimension = d; level = l })) (word_part (codes ".")) (λ _. bind_part (λ n. name n) (λ n l. nothing (record { dimension = d; level = l })) name_part (λ l. nothing_part (record { dimension = d; level = l }))))
    (λ d K a. avoids_begins is_bare (λ b. eqb b 46) (λ n. word (codes ".") >>= λ _. name n >>= λ l. nothing (record { dimension = d; level = l })) K
    (begins_bind (λ b. eqb b 46) (λ n. word (codes ".")) (λ n _. name n >>= λ l. nothing (record { dimension = d; level = l })) (begins_word 46 []))
    (apart_from is_bare 46 bare_point))

pub begins_level : Begins begins_a_name (λ n. level n)
begins_level = begins_bind begins_a_name (λ n. name n) (λ n d. word (codes ".") >>= λ _. name n >>= λ l. nothing (record { dimension = d; level = l })) begins_name

-- a part behind a sign
abbrev SignThen : ℕ → List ℕ → (ℕ → Part PickName) → ℕ → Part PickName
SignThen c cs g n = sign (c ∷ cs) >>= λ _. g n

behind_sign : (c : ℕ) (cs : List ℕ) (g : ℕ → Part PickName) (e : ℕ → List ℕ → Step PickName) → is_blank c ≡ false → IsRead is_bare g e → IsPart g → Begins begins_a_name g → IsRead is_bare (λ n. sign (c ∷ cs) >>= λ _. g n) (λ n r. onto (sign_in n (c ∷ cs) r) (λ _ r. e n r))
behind_sign c cs g e f G P B = passed_read is_blank is_bare (λ n. sign (c ∷ cs)) g (λ n r. sign_in n (c ∷ cs) r) e (sign_passed c cs f) G P (λ K a. avoids_begins is_blank begins_a_name g K B blank_name)

avoids_sign : (c : ℕ) (cs : List ℕ) (g : ℕ → Part PickName) (K : PickName → Lang) → is_bare c ≡ false → Avoids is_bare (Then (λ n. sign (c ∷ cs) >>= λ _. g n) K)
avoids_sign c cs g K e = avoids_begins is_bare (begins_blank c) (λ n. sign (c ∷ cs) >>= λ _. g n) K (begins_bind (begins_blank c) (λ n. sign (c ∷ cs)) (λ n _. g n) (begins_sign c cs)) (bare_sign c e)

sign_then_part : (c : ℕ) (cs : List ℕ) (g : ℕ → Part PickName) → IsPart g → IsPart (λ n. sign (c ∷ cs) >>= λ _. g n)
sign_then_part c cs g P = bind_part (λ n. sign (c ∷ cs)) (λ n _. g n) (sign_part (c ∷ cs)) (λ _. P)

-- a name, and what is made of it
last_read : (v : Name → PickName) → IsRead is_bare (λ n. name n >>= λ y. nothing (v y)) (λ n r. onto (name_in n r) (λ y r. Ok (v y, r)))
last_read v = read_bind is_bare is_bare (λ n. name n) (λ n y. nothing (v y)) (λ n r. name_in n r) (λ y n r. Ok (v y, r)) name_read (λ y. read_nothing is_bare (v y)) (λ y. nothing_part (v y)) (λ y K a. avoids_nothing is_bare (v y) K a)

last_part : (v : Name → PickName) → IsPart (λ n. name n >>= λ y. nothing (v y))
last_part v = bind_part (λ n. name n) (λ n y. nothing (v y)) name_part (λ y. nothing_part (v y))

last_begins : (v : Name → PickName) → Begins begins_a_name (λ n. name n >>= λ y. nothing (v y))
last_begins v = begins_bind begins_a_name (λ n. name n) (λ n y. nothing (v y)) begins_name

pub fix_read : IsRead is_bare (λ n. fix n) (λ n r. pick_in false n r)
unfolding pick_in last_in
fix_read = read_bind is_bare is_bare (λ n. level n) (λ n l. sign (codes "=") >>= λ _. name n >>= λ x. nothing (record { level = l; first = x; last = x })) (λ n r. level_in n r)
    (λ l n r. onto (sign_in n (codes "=") r) (λ _ r. onto (name_in n r) (λ x r. Ok (record { level = l; first = x; last = x }, r))))
    level_read
    (λ l. behind_sign 61 [] (λ n. name n >>= λ x. nothing (record { level = l; first = x; last = x })) (λ n r. onto (name_in n r) (λ x r. Ok (record { level = l; first = x; last = x }, r))) refl
    (last_read (λ x. record { level = l; first = x; last = x })) (last_part (λ x. record { level = l; first = x; last = x })) (last_begins (λ x. record { level = l; first = x; last = x })))
    (λ l. sign_then_part 61 [] (λ n. name n >>= λ x. nothing (record { level = l; first = x; last = x })) (last_part (λ x. record { level = l; first = x; last = x })))
    (λ l K a. avoids_sign 61 [] (λ n. name n >>= λ x. nothing (record { level = l; first = x; last = x })) K bare_equals)

abbrev spans_to : LevelName → Name → ℕ → Part PickName
spans_to l x n = sign (codes "..") >>= λ _. name n >>= λ y. nothing (record { level = l; first = x; last = y })

spans_to_part : (l : LevelName) (x : Name) → IsPart (λ n. spans_to l x n)
spans_to_part l x = sign_then_part 46 (46 ∷ []) (λ n. name n >>= λ y. nothing (record { level = l; first = x; last = y })) (last_part (λ y. record { level = l; first = x; last = y }))

spans_to_read : (l : LevelName) (x : Name) → IsRead is_bare (λ n. spans_to l x n) (λ n r. onto (sign_in n (codes "..") r) (λ _ r. onto (name_in n r) (λ y r. Ok (record { level = l; first = x; last = y }, r))))
spans_to_read l x = behind_sign 46 (46 ∷ []) (λ n. name n >>= λ y. nothing (record { level = l; first = x; last = y })) (λ n r. onto (name_in n r) (λ y r. Ok (record { level = l; first = x; last = y }, r))) refl
    (last_read (λ y. record { level = l; first = x; last = y })) (last_part (λ y. record { level = l; first = x; last = y })) (last_begins (λ y. record { level = l; first = x; last = y }))

abbrev span_behind : LevelName → ℕ → Part PickName
span_behind l n = name n >>= λ x. sign (codes "..") >>= λ _. name n >>= λ y. nothing (record { level = l; first = x; last = y })

span_behind_part : (l : LevelName) → IsPart (λ n. span_behind l n)
span_behind_part l = bind_part (λ n. name n) (λ n x. spans_to l x n) name_part (λ x. spans_to_part l x)

span_behind_read : (l : LevelName) → IsRead is_bare (λ n. span_behind l n) (λ n r. onto (name_in n r) (λ x r. onto (sign_in n (codes "..") r) (λ _ r. onto (name_in n r) (λ y r. Ok (record { level = l; first = x; last = y }, r)))))
span_behind_read l = read_bind is_bare is_bare (λ n. name n) (λ n x. spans_to l x n) (λ n r. name_in n r) (λ x n r. onto (sign_in n (codes "..") r) (λ _ r. onto (name_in n r) (λ y r. Ok (record { level = l; first = x; last = y }, r))))
    name_read (λ x. spans_to_read l x) (λ x. spans_to_part l x) (λ x K a. avoids_sign 46 (46 ∷ []) (λ n. name n >>= λ y. nothing (record { level = l; first = x; last = y })) K bare_point)

abbrev span_steps : ℕ → List ℕ → Step PickName
span_steps n r = onto (level_in n r) (λ l r. onto (sign_in n (codes "=") r) (λ _ r. onto (name_in n r) (λ x r. onto (sign_in n (codes "..") r) (λ _ r. onto (name_in n r) (λ y r. Ok (record { level = l; first = x; last = y }, r))))))

span_steps_read : IsRead is_bare (λ n. span n) (λ n r. span_steps n r)
span_steps_read = read_bind is_bare is_bare (λ n. level n) (λ n l. sign (codes "=") >>= λ _. span_behind l n) (λ n r. level_in n r)
    (λ l n r. onto (sign_in n (codes "=") r) (λ _ r. onto (name_in n r) (λ x r. onto (sign_in n (codes "..") r) (λ _ r. onto (name_in n r) (λ y r. Ok (record { level = l; first = x; last = y }, r))))))
    level_read
    (λ l. behind_sign 61 [] (λ n. span_behind l n) (λ n r. onto (name_in n r) (λ x r. onto (sign_in n (codes "..") r) (λ _ r. onto (name_in n r) (λ y r. Ok (record { level = l; first = x; last = y }, r))))) refl
    (span_behind_read l) (span_behind_part l) (begins_bind begins_a_name (λ n. name n) (λ n x. spans_to l x n) begins_name))
    (λ l. sign_then_part 61 [] (λ n. span_behind l n) (span_behind_part l))
    (λ l K a. avoids_sign 61 [] (λ n. span_behind l n) K bare_equals)

-- steps that do the same one by one do the same
onto_same : {A B : Type 0} (step : Step A) (f g : A → List ℕ → Step B) → ((x : A) (r : List ℕ) → f x r ≡ g x r) → onto step f ≡ onto step g
onto_same (Ok y) f g e = e y.0 y.1
onto_same (Err e) f g h = refl

onto_onto : {A B C : Type 0} (step : Step A) (f : A → List ℕ → Step B) (g : B → List ℕ → Step C) → onto (onto step f) g ≡ onto step (λ x r. onto (f x r) g)
onto_onto (Ok y) f g = refl
onto_onto (Err e) f g = refl

span_in : (n : ℕ) (r : List ℕ) → span_steps n r ≡ pick_in true n r
unfolding pick_in last_in
span_in n r = onto_same (level_in n r) (λ l r. onto (sign_in n (codes "=") r) (λ _ r. onto (name_in n r) (λ x r. onto (sign_in n (codes "..") r) (λ _ r. onto (name_in n r) (λ y r. Ok (record { level = l; first = x; last = y }, r))))))
    (λ l r. onto (sign_in n (codes "=") r) (λ _ r. onto (name_in n r) (λ x r. onto (onto (sign_in n (codes "..") r) (λ _ r. name_in n r)) (λ y r. Ok (record { level = l; first = x; last = y }, r)))))
    (λ l r. onto_same (sign_in n (codes "=") r) (λ _ r. onto (name_in n r) (λ x r. onto (sign_in n (codes "..") r) (λ _ r. onto (name_in n r) (λ y r. Ok (record { level = l; first = x; last = y }, r)))))
    (λ _ r. onto (name_in n r) (λ x r. onto (onto (sign_in n (codes "..") r) (λ _ r. name_in n r)) (λ y r. Ok (record { level = l; first = x; last = y }, r))))
    (λ _ r. onto_same (name_in n r) (λ x r. onto (sign_in n (codes "..") r) (λ _ r. onto (name_in n r) (λ y r. Ok (record { level = l; first = x; last = y }, r))))
    (λ x r. onto (onto (sign_in n (codes "..") r) (λ _ r. name_in n r)) (λ y r. Ok (record { level = l; first = x; last = y }, r)))
    (λ x r. sym (onto_onto (sign_in n (codes "..") r) (λ _ r. name_in n r) (λ y r. Ok (record { level = l; first = x; last = y }, r))))))

pub span_read : IsRead is_bare (λ n. span n) (λ n r. pick_in true n r)
span_read = record { goes = λ T s r K alive avoids h. let e = span_in (length T) r in rw (sym e) (span_steps_read.goes T s r K alive avoids h) }

pub begins_fix : Begins begins_a_name (λ n. fix n)
begins_fix = begins_bind begins_a_name (λ n. level n) (λ n l. sign (codes "=") >>= λ _. name n >>= λ x. nothing (record { level = l; first = x; last = x })) begins_level

pub begins_span : Begins begins_a_name (λ n. span n)
begins_span = begins_bind begins_a_name (λ n. level n) (λ n l. sign (codes "=") >>= λ _. span_behind l n) begins_level

-- ---- what is left

-- the step leaves no more than there was
abbrev pub Shortens : {A : Type 0} → Step A → List ℕ → Type 0
Shortens step r = IfOk step (λ y. length y.1 ≤ length r)

short_after : {A : Type 0} (step : Step A) (t r : List ℕ) → length t ≤ length r → Shortens step t → Shortens step r
short_after (Ok y) t r l h = omega (arith, l, h)
short_after (Err e) t r l h = tt

pub onto_short : {A B : Type 0} (step : Step A) (next : A → List ℕ → Step B) (r : List ℕ) → Shortens step r → ((x : A) (t : List ℕ) → Shortens (next x t) t) → Shortens (onto step next) r
onto_short (Ok y) next r h f = short_after (next y.0 y.1) y.1 r h (f y.0 y.1)
onto_short (Err e) next r h f = tt

pub short_blanks : (r : List ℕ) → length (behind_blanks r) ≤ length r
unfolding behind_blanks
short_blanks r = omega (arith, length-drop (prefix_len is_blank r) r)

short_byte : (n c : ℕ) (r : List ℕ) → Shortens (byte_in n c r) r
short_byte n c [] = tt
short_byte n c (b ∷ r) = tested (eqb b c) (λ e. rw e (omega arith)) (λ e. rw e tt)

short_word : (n : ℕ) (cs r : List ℕ) → Shortens (word_in n cs r) r
short_word n [] r = omega arith
short_word n (c ∷ cs) r = onto_short (byte_in n c r) (λ _ r. word_in n cs r) r (short_byte n c r) (λ _ t. short_word n cs t)

short_sign : (n : ℕ) (cs r : List ℕ) → Shortens (sign_in n cs r) r
unfolding sign_in
short_sign n cs r = short_after (onto (word_in n cs (behind_blanks r)) (λ _ t. Ok (tt, behind_blanks t))) (behind_blanks r) r (short_blanks r)
    (onto_short (word_in n cs (behind_blanks r)) (λ _ t. Ok (tt, behind_blanks t)) (behind_blanks r) (short_word n cs (behind_blanks r)) (λ _ t. short_blanks t))

short_closing : (m : Bool) (x r : List ℕ) → length (closing m x r).1 ≤ length r
short_closing true x [] = omega arith
short_closing false x [] = omega arith
short_closing true x (b ∷ r) = tested (is_marked b) (λ e. rw e (let i = short_closing false (x ++ b ∷ []) r in omega (arith, i))) (λ e. rw e (omega arith))
short_closing false x (b ∷ r) = tested (eqb b 34)
    (λ e. rw e (omega arith))
    (λ e. tested (eqb b 92)
    (λ f. rw (e, f) (let i = short_closing true x r in omega (arith, i)))
    (λ f. tested (is_control b)
    (λ g. rw (e, f, g) (omega arith))
    (λ g. rw (e, f, g) (let i = short_closing false (x ++ b ∷ []) r in omega (arith, i)))))

short_closed : (n : ℕ) (x : Option (List ℕ)) (t r : List ℕ) → length t ≤ length r → Shortens (closed_in n x t) r
short_closed n None t r l = tt
short_closed n (Some x) t r l = l

short_bare : (n : ℕ) (r : List ℕ) → Shortens (bare_in n r) r
unfolding bare_in
short_bare n r = tested (ltb 0 (prefix_len is_bare r)) (λ e. rw e (omega (arith, length-drop (prefix_len is_bare r) r))) (λ e. rw e tt)

short_text : (n : ℕ) (r : List ℕ) → Shortens (text_in n r) r
unfolding quote_in
short_text n [] = short_bare n []
short_text n (b ∷ r) = tested (eqb b 34) (λ e. rw e (short_closed n (closing false [] r).0 (closing false [] r).1 (b ∷ r) (let i = short_closing false [] r in omega (arith, i)))) (λ e. rw e (short_bare n (b ∷ r)))

short_name : (n : ℕ) (r : List ℕ) → Shortens (name_in n r) r
unfolding name_in
short_name n r = onto_short (text_in n r) (λ x t. Ok (record { text = x; at = n - length r }, t)) r (short_text n r) (λ x t. omega arith)

pub short_level : (n : ℕ) (r : List ℕ) → Shortens (level_in n r) r
unfolding level_in
short_level n r = onto_short (name_in n r) (λ d t. onto (word_in n (codes ".") t) (λ _ t. onto (name_in n t) (λ l t. Ok (record { dimension = d; level = l }, t)))) r (short_name n r)
    (λ d t. onto_short (word_in n (codes ".") t) (λ _ t. onto (name_in n t) (λ l t. Ok (record { dimension = d; level = l }, t))) t (short_word n (codes ".") t)
    (λ _ t. onto_short (name_in n t) (λ l t. Ok (record { dimension = d; level = l }, t)) t (short_name n t) (λ l t. omega arith)))

short_last : (is_span : Bool) (n : ℕ) (x : Name) (r : List ℕ) → Shortens (last_in is_span n x r) r
unfolding last_in
short_last true n x r = onto_short (sign_in n (codes "..") r) (λ _ t. name_in n t) r (short_sign n (codes "..") r) (λ _ t. short_name n t)
short_last false n x r = omega arith

pub short_pick : (is_span : Bool) (n : ℕ) (r : List ℕ) → Shortens (pick_in is_span n r) r
unfolding pick_in
short_pick is_span n r = onto_short (level_in n r) (λ l t. onto (sign_in n (codes "=") t) (λ _ t. onto (name_in n t) (λ x t. onto (last_in is_span n x t) (λ y t. Ok (record { level = l; first = x; last = y }, t))))) r (short_level n r)
    (λ l t. onto_short (sign_in n (codes "=") t) (λ _ t. onto (name_in n t) (λ x t. onto (last_in is_span n x t) (λ y t. Ok (record { level = l; first = x; last = y }, t)))) t (short_sign n (codes "=") t)
    (λ _ t. onto_short (name_in n t) (λ x t. onto (last_in is_span n x t) (λ y t. Ok (record { level = l; first = x; last = y }, t))) t (short_name n t)
    (λ x t. onto_short (last_in is_span n x t) (λ y t. Ok (record { level = l; first = x; last = y }, t)) t (short_last is_span n x t) (λ y t. omega arith))))
