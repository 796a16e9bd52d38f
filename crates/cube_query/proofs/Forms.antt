-- Whole texts: cells, slices and ranges.
use Rattle.std.proofs.Common.{◌≡◌, ◌⊎◌, inl, inr, ℕ, ◌+◌, Bool, true, false, eqb, eqb-true, List, [], ◌∷◌, ◌++◌, length, refl, sym, ap, ◌∙◌, arith, Ok, Err}
use Rattle.std.specs.Prelude.{Some, codes}
use Rattle.std.specs.List.{list_all}
use Rattle.std.proofs.lemmas.Bool.{false≢true, and_parts}
use Rattle.cube_text.specs.Quoting.{is_bare}
use Rattle.cube_query.specs.declared.query.Name.{Name}
use Rattle.cube_query.specs.declared.query.LevelName.{LevelName}
use Rattle.cube_query.specs.declared.query.PickName.{PickName}
use Rattle.cube_query.specs.declared.query.Query.{Query}
use Rattle.cube_query.specs.Grammar.{Part, byte, nothing, ◌>>=◌, many, word, is_blank, ws, sp, items, perhaps, name, level, fix, span, cell, slice, range}
use Rattle.cube_query.specs.Reading.{Step, onto, behind_blanks, gap_in, word_in, name_in, level_in, pick_in, items_in, levels_in, to_end, picks_in, measure_in, cell_picks_here, cell_picks_in, cell_in, where_in, slice_in, range_in}
use Rattle.cube_query.proofs.Parts.{IsPart, word_part, sp_part, name_part, level_part, fix_part, span_part, items_part, perhaps_part, nothing_part, bind_part}
use Rattle.cube_query.proofs.Languages.{Lang, Then, Same, head, Stands, IsAlive, Avoids, Stops, Goes, IsPassed, then_bind, then_nothing, then_along, same_over, alive_then, narrow, stands_same, stop, goes_on}
use Rattle.cube_query.proofs.Runs.{cons_same, no_head_from, Begins, begins_byte, begins_bind, begins_word, avoids_begins, nothing_avoided, apart_from, word_passed}
use Rattle.cube_query.proofs.Blanks.{then_run, taken_of, left_of, run_goes, gap_passed}
use Rattle.cube_query.proofs.Names.{begins_a_name, begins_name, name_read}
use Rattle.cube_query.proofs.Picks.{level_read, fix_read, span_read, begins_level, begins_fix, begins_span, short_level, short_pick, blank_name, bare_blank}
use Rattle.cube_query.proofs.Lists.{Fin, Done, Finishes, finishes_on, done_at, fin_alive, no_cons, ends_alive, After, after_fin, after_cases, perhaps_tail, Never, no_tail, IsListed, More, comma_then, has, has_taken, match_onto, AtWhere, Listed, items_goes}

-- ---- items from the first on

items_same : {A : Type 0} (f : ℕ → Part A) (K : List A → Lang) → Same (Then (λ n. items (f n)) K) (Then f (λ y. More f K (y ∷ [])))
items_same f K = same_over (then_bind f (λ n x. many (comma_then f n) >>= λ xs. nothing (x ∷ xs)) K)
    (then_along f (λ x. Then (λ n. many (comma_then f n) >>= λ xs. nothing (x ∷ xs)) K) (λ y. More f K (y ∷ []))
    (λ x. same_over (then_bind (λ n. many (comma_then f n)) (λ n xs. nothing (x ∷ xs)) K)
    (then_along (λ n. many (comma_then f n)) (λ xs. Then (λ n. nothing (x ∷ xs)) K) (λ ys. K (x ∷ ys)) (λ xs. then_nothing (x ∷ xs) K))))

abbrev pub Ending : {A : Type 0} → (List A → Query) → List A → Lang
Ending made ps = Then (λ n. ws) (λ _. Fin (made ps))

abbrev pub pick_part : Bool → ℕ → Part PickName
pick_part true n = span n
pick_part false n = fix n

picks_listed : (is_span : Bool) (made : List PickName → Query) → IsListed (pick_part is_span) (pick_in is_span) (Ending made) (λ _. Never) made
picks_listed true made = record { read = span_read; part = span_part; begins = begins_span; short = λ n r. short_pick true n r; tail = λ xs. no_tail (made xs); first = λ xs n b u q h. absurd h; some = λ xs n q h. h }
picks_listed false made = record { read = fix_read; part = fix_part; begins = begins_fix; short = λ n r. short_pick false n r; tail = λ xs. no_tail (made xs); first = λ xs n b u q h. absurd h; some = λ xs n q h. h }

-- picks to the end of the text
picks_finish : (is_span : Bool) (made : List PickName → Query) (T s r : List ℕ) → Stands T s r (Then (λ n. items (pick_part is_span n)) (Ending made)) → Finishes T made (picks_in is_span (length T) r)
unfolding picks_in
picks_finish is_span made T s r h =
    match_onto (λ y. Listed T made (λ _. Never) y.0.0 y.0.1 y.1) (λ y. Done T (made y.0)) (λ e. Stops T e) (items_in (pick_in is_span (length T)) (length T) (length r) [] r) (to_end (length T))
    (items_goes (pick_part is_span) (pick_in is_span) (Ending made) (λ _. Never) made (picks_listed is_span made) (length r) T s r [] (omega arith)
    (stands_same T s r (Then (λ n. items (pick_part is_span n)) (Ending made)) (Then (pick_part is_span) (λ y. More (pick_part is_span) (Ending made) (y ∷ []))) (items_same (pick_part is_span) (Ending made)) h))
    (λ y e l. go y.0.0 y.0.1 y.1 l)
  where
    none : (xs : List PickName) (b : ℕ) (n : ℕ) (u : List ℕ) (q : Query) → head u ≡ Some b → Fin (made xs) n u q ⊎ Never n u q → ⊥
    none xs b n [] q i k = no_head_from b i
    none xs b n (c ∷ u) q i (inl k) = no_cons c u k.0
    none xs b n (c ∷ u) q i (inr k) = k

    go : (xs : List PickName) (flag : Bool) (t : List ℕ) → Listed T made (λ _. Never) xs flag t → Finishes T made (to_end (length T) (xs, flag) t)
    go xs true t l = stop T l.before t (λ n u p. Fin (made xs) n u p ⊎ Never n u p) (λ m. let a = fin_alive (made xs) m in record { more = a.more; query = a.query; holds = inl a.holds }) (λ u q i k. none xs 119 (length l.before + length u) u q (i ∙ ap head l.is) k) l.stands
    go xs false t l = l

finish_map : {A : Type 0} (T : List ℕ) (made : A → Query) (step : Step A) → Finishes T made step → Finishes T (λ q. q) (onto step (λ x r. Ok (made x, r)))
finish_map T made (Ok y) h = h
finish_map T made (Err e) h = h

-- past a part of which nothing is kept
pass_finish : {A B C : Type 0} (E : ℕ → Bool) (f : ℕ → Part A) (d : ℕ → List ℕ → Step (Unit {0})) (g : ℕ → Part B) (K : B → Lang) (made : C → Query) (next : List ℕ → Step C) (T s r : List ℕ) → IsPassed E f d → IsPart g → ((x : B) → IsAlive (K x)) → Avoids E (Then g K) → Stands T s r (Then (λ n. f n >>= λ _. g n) K) → ((s r : List ℕ) → Stands T s r (Then g K) → Finishes T made (next r)) → Finishes T made (onto (d (length T) r) (λ _ r. next r))
pass_finish E f d g K made next T s r F P alive avoids h k = finishes_on T (λ _. Then g K) made (d (length T) r) (λ _ r. next r)
    (F.goes T s r (Then g K) (alive_then g K P alive) avoids (stands_same T s r (Then (λ n. f n >>= λ _. g n) K) (Then f (λ _. Then g K)) (then_bind f (λ n _. g n) K) h))
    (λ _ s r i. k s r i)

pass_goes : {A B C : Type 0} (E : ℕ → Bool) (f : ℕ → Part A) (d : ℕ → List ℕ → Step (Unit {0})) (g : ℕ → Part B) (K : B → Lang) (L : C → Lang) (next : List ℕ → Step C) (T s r : List ℕ) → IsPassed E f d → IsPart g → ((x : B) → IsAlive (K x)) → Avoids E (Then g K) → Stands T s r (Then (λ n. f n >>= λ _. g n) K) → ((s r : List ℕ) → Stands T s r (Then g K) → Goes T L (next r)) → Goes T L (onto (d (length T) r) (λ _ r. next r))
pass_goes E f d g K L next T s r F P alive avoids h k = goes_on T (λ _. Then g K) L (d (length T) r) (λ _ r. next r)
    (F.goes T s r (Then g K) (alive_then g K P alive) avoids (stands_same T s r (Then (λ n. f n >>= λ _. g n) K) (Then f (λ _. Then g K)) (then_bind f (λ n _. g n) K) h))
    (λ _ s r i. k s r i)

begins_gap : {A : Type 0} (g : ℕ → Part A) → Begins is_blank (λ n. sp >>= λ _. g n)
begins_gap g = begins_bind is_blank (λ n. sp) (λ n _. g n) (begins_bind is_blank (λ n. byte is_blank) (λ n x. many (byte is_blank) >>= λ xs. nothing (x ∷ xs)) (begins_byte is_blank))

-- the word of a form, and what is asked
measure_goes : (w T s r : List ℕ) (g : ℕ → Name → Part Query) (K : Query → Lang) → ((m : Name) → IsPart (λ n. g n m)) → ((q : Query) → IsAlive (K q)) → ((m : Name) → Avoids is_bare (Then (λ n. g n m) K)) → Stands T s r (Then (λ n. word w >>= λ _. sp >>= λ _. name n >>= λ m. g n m) K) → Goes T (λ m. Then (λ n. g n m) K) (measure_in w (length T) r)
unfolding measure_in
measure_goes w T s r g K P alive avoids h =
    let Q : IsPart (λ n. name n >>= λ m. g n m) = bind_part (λ n. name n) (λ n m. g n m) name_part P in
    pass_goes (λ _. false) (λ n. word w) (λ n r. word_in n w r) (λ n. sp >>= λ _. name n >>= λ m. g n m) K (λ m. Then (λ n. g n m) K) (λ r. onto (gap_in (length T) r) (λ _ r. name_in (length T) r)) T s r
    (word_passed w) (bind_part (λ n. sp) (λ n _. name n >>= λ m. g n m) sp_part (λ _. Q)) alive (nothing_avoided (Then (λ n. sp >>= λ _. name n >>= λ m. g n m) K)) h
    (λ s r i. pass_goes is_blank (λ n. sp) (λ n r. gap_in n r) (λ n. name n >>= λ m. g n m) K (λ m. Then (λ n. g n m) K) (λ r. name_in (length T) r) T s r gap_passed Q alive
    (avoids_begins is_blank begins_a_name (λ n. name n >>= λ m. g n m) K (begins_bind begins_a_name (λ n. name n) (λ n m. g n m) begins_name) blank_name) i
    (λ s r i. name_read.goes T s r (λ m. Then (λ n. g n m) K) (λ m. alive_then (λ n. g n m) K (P m) alive) avoids (stands_same T s r (Then (λ n. name n >>= λ m. g n m) K) (Then (λ n. name n) (λ m. Then (λ n. g n m) K)) (then_bind (λ n. name n) (λ n m. g n m) K) i)))

-- ---- cells

abbrev pub Whole : Query → Lang
Whole q = Then (λ n. ws) (λ _. Fin q)

made_same : {A : Type 0} (f : ℕ → Part (List A)) (made : List A → Query) → Same (Then (λ n. f n >>= λ ps. nothing (made ps)) Whole) (Then f (Ending made))
made_same f made = same_over (then_bind f (λ n ps. nothing (made ps)) Whole) (then_along f (λ ps. Then (λ n. nothing (made ps)) Whole) (Ending made) (λ ps. then_nothing (made ps) Whole))

pub whole_alive : (q : Query) → IsAlive (Whole q)
whole_alive q = ends_alive q

-- blanks and the end, or blanks and what may follow: no bare byte comes
tail_avoids : (q : Query) (W : Lang) → Avoids is_bare (Then (λ n. ws) (After q W))
tail_avoids q W n b u r e h = let k = (then_run is_blank (After q W)).to n (b ∷ u) r h in go k.taken k.rest k.run.is k.run.all k.holds
  where
    go : (taken rest : List ℕ) → b ∷ u ≡ taken ++ rest → list_all is_blank taken ≡ true → After q W taken n rest r → ⊥
    go [] rest i a k = no_cons b u (i ∙ k.0)
    go (c ∷ taken) rest i a k = let z : b ≡ c = (cons_same b c u (taken ++ rest) i).0 in false≢true (sym (bare_blank b e) ∙ ap is_blank z ∙ (and_parts (is_blank c) (list_all is_blank taken) a).0)

pub avoids_same : (C : ℕ → Bool) (K L : Lang) → Same K L → Avoids C L → Avoids C K
avoids_same C K L e a n b u q c h = a n b u q c (e.to n (b ∷ u) q h)

begins_fixes : Begins begins_a_name (λ n. items (fix n))
begins_fixes = begins_bind begins_a_name (λ n. fix n) (λ n x. many (comma_then fix n) >>= λ xs. nothing (x ∷ xs)) begins_fix

abbrev Fixes : (List PickName → Query) → Lang
Fixes made = Then (λ n. items (fix n)) (Ending made)

cell_picks_finish : (made : List PickName → Query) (bs T s r : List ℕ) → Stands T s r (After (made []) (Fixes made) bs) → Finishes T made (cell_picks_here (length T) (has bs) r)
cell_picks_finish made bs T s [] h = done_at T s (After (made []) (Fixes made) bs) (made []) (λ n. after_fin (made []) (Fixes made) bs n [] (made []) (refl, refl)) (λ n q k. only n q (after_cases (made []) (Fixes made) bs n [] q k)) h
  where
    only : (n : ℕ) (q : Query) → Fin (made []) n [] q ⊎ Fixes made n [] q → q ≡ made []
    only n q (inl k) = k.1
    only n q (inr k) = absurd (begins_fixes.starts n [] k.value k.rest k.first)
cell_picks_finish made [] T s (b ∷ r) h = stop T s (b ∷ r) (Fin (made [])) (fin_alive (made [])) (λ u q i k. none u q i k) h
  where
    none : (u : List ℕ) (q : Query) → head u ≡ Some b → Fin (made []) (length s + length u) u q → ⊥
    none [] q i k = no_head_from b i
    none (c ∷ u) q i k = no_cons c u k.0
cell_picks_finish made (x ∷ bs) T s (b ∷ r) h = picks_finish false made T s (b ∷ r) (narrow T s (b ∷ r) (After (made []) (Fixes made) (x ∷ bs)) (Fixes made) (λ u q k. inr k) (λ u q i k. only u q i k) h)
  where
    only : (u : List ℕ) (q : Query) → head u ≡ Some b → Fin (made []) (length s + length u) u q ⊎ Fixes made (length s + length u) u q → Fixes made (length s + length u) u q
    only u q i (inr k) = k
    only [] q i (inl k) = absurd (no_head_from b i)
    only (c ∷ u) q i (inl k) = absurd (no_cons c u k.0)

perhaps_fixes : (made : List PickName → Query) → Same (Then (λ n. perhaps (sp >>= λ _. items (fix n)) >>= λ ps. nothing (made ps)) Whole) (Then (λ n. ws) (After (made []) (Fixes made)))
perhaps_fixes made = same_over (made_same (λ n. perhaps (sp >>= λ _. items (fix n))) made) (perhaps_tail (λ n. items (fix n)) made)

perhaps_fixes_part : (made : List PickName → Query) → IsPart (λ n. perhaps (sp >>= λ _. items (fix n)) >>= λ ps. nothing (made ps))
perhaps_fixes_part made = bind_part (λ n. perhaps (sp >>= λ _. items (fix n))) (λ n ps. nothing (made ps)) (perhaps_part (λ n. sp >>= λ _. items (fix n)) (bind_part (λ n. sp) (λ n _. items (fix n)) sp_part (λ _. items_part (λ n. fix n) fix_part))) (λ ps. nothing_part (made ps))

cell_tail : (made : List PickName → Query) (T s r : List ℕ) → Stands T s r (Then (λ n. perhaps (sp >>= λ _. items (fix n)) >>= λ ps. nothing (made ps)) Whole) → Finishes T made (cell_picks_in (length T) r)
unfolding cell_picks_in behind_blanks
cell_tail made T s r h = rw (has_taken r) (cell_picks_finish made (taken_of is_blank r) T (s ++ taken_of is_blank r) (left_of is_blank r)
    (run_goes is_blank T s r (After (made []) (Fixes made)) (λ bs. avoids bs)
    (stands_same T s r (Then (λ n. perhaps (sp >>= λ _. items (fix n)) >>= λ ps. nothing (made ps)) Whole) (Then (λ n. ws) (After (made []) (Fixes made))) (perhaps_fixes made) h)))
  where
    fixes : Avoids is_blank (Fixes made)
    fixes = avoids_begins is_blank begins_a_name (λ n. items (fix n)) (Ending made) begins_fixes blank_name

    avoids : (bs : List ℕ) → Avoids is_blank (After (made []) (Fixes made) bs)
    avoids [] n b u q e k = no_cons b u k.0
    avoids (x ∷ bs) n b u q e (inl k) = no_cons b u k.0
    avoids (x ∷ bs) n b u q e (inr k) = fixes n b u q e k

abbrev cell_made : Name → List PickName → Query
cell_made m ps = record { what = m; by = []; picks = ps }

pub cell_goes : (T s r : List ℕ) → Stands T s r (Then (λ n. cell n) Whole) → Finishes T (λ q. q) (cell_in (length T) r)
unfolding cell_in
cell_goes T s r h = finishes_on T (λ m. Then (λ n. perhaps (sp >>= λ _. items (fix n)) >>= λ ps. nothing (cell_made m ps)) Whole) (λ q. q) (measure_in (codes "cell") (length T) r) (λ m r. onto (cell_picks_in (length T) r) (λ ps r. Ok (cell_made m ps, r)))
    (measure_goes (codes "cell") T s r (λ n m. perhaps (sp >>= λ _. items (fix n)) >>= λ ps. nothing (cell_made m ps)) Whole (λ m. perhaps_fixes_part (cell_made m)) whole_alive
    (λ m. avoids_same is_bare (Then (λ n. perhaps (sp >>= λ _. items (fix n)) >>= λ ps. nothing (cell_made m ps)) Whole) (Then (λ n. ws) (After (cell_made m []) (Fixes (cell_made m)))) (perhaps_fixes (cell_made m)) (tail_avoids (cell_made m []) (Fixes (cell_made m)))) h)
    (λ m s r i. finish_map T (cell_made m) (cell_picks_in (length T) r) (cell_tail (cell_made m) T s r i))

-- ---- ranges

abbrev range_behind : Name → ℕ → Part Query
range_behind m n = sp >>= λ _. items (span n) >>= λ ps. nothing (cell_made m ps)

pub range_goes : (T s r : List ℕ) → Stands T s r (Then (λ n. range n) Whole) → Finishes T (λ q. q) (range_in (length T) r)
unfolding range_in
range_goes T s r h = finishes_on T (λ m. Then (λ n. range_behind m n) Whole) (λ q. q) (measure_in (codes "range") (length T) r) (λ m r. onto (gap_in (length T) r) (λ _ r. onto (picks_in true (length T) r) (λ ps r. Ok (cell_made m ps, r))))
    (measure_goes (codes "range") T s r (λ n m. range_behind m n) Whole (λ m. part m) whole_alive
    (λ m. avoids_begins is_bare is_blank (λ n. range_behind m n) Whole (begins_gap (λ n. items (span n) >>= λ ps. nothing (cell_made m ps))) bare_blank) h)
    (λ m s r i. pass_finish is_blank (λ n. sp) (λ n r. gap_in n r) (λ n. items (span n) >>= λ ps. nothing (cell_made m ps)) Whole (λ q. q) (λ r. onto (picks_in true (length T) r) (λ ps r. Ok (cell_made m ps, r))) T s r
    gap_passed (spans_part m) whole_alive
    (avoids_begins is_blank begins_a_name (λ n. items (span n) >>= λ ps. nothing (cell_made m ps)) Whole
    (begins_bind begins_a_name (λ n. items (span n)) (λ n ps. nothing (cell_made m ps)) (begins_bind begins_a_name (λ n. span n) (λ n x. many (comma_then span n) >>= λ xs. nothing (x ∷ xs)) begins_span)) blank_name) i
    (λ s r i. finish_map T (cell_made m) (picks_in true (length T) r) (picks_finish true (cell_made m) T s r
    (stands_same T s r (Then (λ n. items (span n) >>= λ ps. nothing (cell_made m ps)) Whole) (Then (λ n. items (span n)) (Ending (cell_made m))) (made_same (λ n. items (span n)) (cell_made m)) i))))
  where
    spans_part : (m : Name) → IsPart (λ n. items (span n) >>= λ ps. nothing (cell_made m ps))
    spans_part m = bind_part (λ n. items (span n)) (λ n ps. nothing (cell_made m ps)) (items_part (λ n. span n) span_part) (λ ps. nothing_part (cell_made m ps))

    part : (m : Name) → IsPart (λ n. range_behind m n)
    part m = bind_part (λ n. sp) (λ n _. items (span n) >>= λ ps. nothing (cell_made m ps)) sp_part (λ _. spans_part m)

-- ---- slices

abbrev slice_made : Name → List LevelName → List PickName → Query
slice_made m ls ps = record { what = m; by = ls; picks = ps }

abbrev where_then : ℕ → Part (List PickName)
where_then n = word (codes "where") >>= λ _. sp >>= λ _. items (fix n)

abbrev LevelsTail : Name → List LevelName → Lang
LevelsTail m ls = Then (λ n. perhaps (sp >>= λ _. where_then n)) (Ending (slice_made m ls))

abbrev WhereTail : Name → List LevelName → Lang
WhereTail m ls = Then (λ n. where_then n) (Ending (slice_made m ls))

begins_where : Begins (λ b. eqb b 119) (λ n. where_then n)
begins_where = begins_bind (λ b. eqb b 119) (λ n. word (codes "where")) (λ n _. sp >>= λ _. items (fix n)) (begins_word 119 (104 ∷ 101 ∷ 114 ∷ 101 ∷ []))

levels_listed : (m : Name) → IsListed (λ n. level n) (λ n r. level_in n r) (LevelsTail m) (WhereTail m) (λ ls. slice_made m ls [])
levels_listed m = record {
  read = level_read;
  part = level_part;
  begins = begins_level;
  short = λ n r. short_level n r;
  tail = λ ls. perhaps_tail (λ n. where_then n) (slice_made m ls);
  first = λ ls n b u q h. eqb-true b 119 (begins_where.starts n (b ∷ u) h.value h.rest h.first);
  some = λ ls n q h. begins_where.starts n [] h.value h.rest h.first;
}

fixes_part : IsPart (λ n. items (fix n))
fixes_part = items_part (λ n. fix n) fix_part

gap_fixes_part : IsPart (λ n. sp >>= λ _. items (fix n))
gap_fixes_part = bind_part (λ n. sp) (λ n _. items (fix n)) sp_part (λ _. fixes_part)

where_goes : (made : List PickName → Query) (T s r : List ℕ) → Stands T s r (Then (λ n. where_then n) (Ending made)) → Finishes T made (where_in true (length T) r)
unfolding where_in
where_goes made T s r h = pass_finish (λ _. false) (λ n. word (codes "where")) (λ n r. word_in n (codes "where") r) (λ n. sp >>= λ _. items (fix n)) (Ending made) made (λ r. onto (gap_in (length T) r) (λ _ r. picks_in false (length T) r)) T s r
    (word_passed (codes "where")) gap_fixes_part (λ ps. ends_alive (made ps)) (nothing_avoided (Then (λ n. sp >>= λ _. items (fix n)) (Ending made))) h
    (λ s r i. pass_finish is_blank (λ n. sp) (λ n r. gap_in n r) (λ n. items (fix n)) (Ending made) made (λ r. picks_in false (length T) r) T s r
    gap_passed fixes_part (λ ps. ends_alive (made ps)) (avoids_begins is_blank begins_a_name (λ n. items (fix n)) (Ending made) begins_fixes blank_name) i
    (λ s r i. picks_finish false made T s r i))

at_where : (made : List PickName → Query) (T : List ℕ) (t : List ℕ) → AtWhere T (made []) (Then (λ n. where_then n) (Ending made)) t → Finishes T made (where_in true (length T) t)
at_where made T t h = where_goes made T h.before t (narrow T h.before t (λ n u p. Fin (made []) n u p ⊎ Then (λ n. where_then n) (Ending made) n u p) (Then (λ n. where_then n) (Ending made)) (λ u q k. inr k) (λ u q i k. only u q (i ∙ ap head h.is) k) h.stands)
  where
    only : (u : List ℕ) (q : Query) → head u ≡ Some 119 → Fin (made []) (length h.before + length u) u q ⊎ Then (λ n. where_then n) (Ending made) (length h.before + length u) u q → Then (λ n. where_then n) (Ending made) (length h.before + length u) u q
    only u q i (inr k) = k
    only [] q i (inl k) = absurd (no_head_from 119 i)
    only (c ∷ u) q i (inl k) = absurd (no_cons c u k.0)

abbrev levels_behind : Name → ℕ → Part Query
levels_behind m n = items (level n) >>= λ ls. perhaps (sp >>= λ _. where_then n) >>= λ ps. nothing (slice_made m ls ps)

levels_behind_part : (m : Name) → IsPart (λ n. levels_behind m n)
levels_behind_part m = bind_part (λ n. items (level n)) (λ n ls. perhaps (sp >>= λ _. where_then n) >>= λ ps. nothing (slice_made m ls ps)) (items_part (λ n. level n) level_part)
    (λ ls. bind_part (λ n. perhaps (sp >>= λ _. where_then n)) (λ n ps. nothing (slice_made m ls ps))
    (perhaps_part (λ n. sp >>= λ _. where_then n) (bind_part (λ n. sp) (λ n _. where_then n) sp_part (λ _. bind_part (λ n. word (codes "where")) (λ n _. sp >>= λ _. items (fix n)) (word_part (codes "where")) (λ _. gap_fixes_part))))
    (λ ps. nothing_part (slice_made m ls ps)))

levels_same : (m : Name) → Same (Then (λ n. levels_behind m n) Whole) (Then (λ n. items (level n)) (LevelsTail m))
levels_same m = same_over (then_bind (λ n. items (level n)) (λ n ls. perhaps (sp >>= λ _. where_then n) >>= λ ps. nothing (slice_made m ls ps)) Whole)
    (then_along (λ n. items (level n)) (λ ls. Then (λ n. perhaps (sp >>= λ _. where_then n) >>= λ ps. nothing (slice_made m ls ps)) Whole) (LevelsTail m) (λ ls. made_same (λ n. perhaps (sp >>= λ _. where_then n)) (slice_made m ls)))

levels_goes : (m : Name) (T s r : List ℕ) → Stands T s r (Then (λ n. levels_behind m n) Whole) → Finishes T (λ q. q) (onto (levels_in (length T) r) (λ ls r. onto (where_in ls.1 (length T) r) (λ ps r. Ok (slice_made m ls.0 ps, r))))
unfolding levels_in where_in
levels_goes m T s r h =
    match_onto (λ y. Listed T (λ ls. slice_made m ls []) (WhereTail m) y.0.0 y.0.1 y.1) (λ y. Done T y.0) (λ e. Stops T e) (items_in (level_in (length T)) (length T) (length r) [] r) (λ ls r. onto (where_in ls.1 (length T) r) (λ ps r. Ok (slice_made m ls.0 ps, r)))
    (items_goes (λ n. level n) (λ n r. level_in n r) (LevelsTail m) (WhereTail m) (λ ls. slice_made m ls []) (levels_listed m) (length r) T s r [] (omega arith)
    (stands_same T s r (Then (λ n. items (level n)) (LevelsTail m)) (Then (λ n. level n) (λ y. More (λ n. level n) (LevelsTail m) (y ∷ []))) (items_same (λ n. level n) (LevelsTail m))
    (stands_same T s r (Then (λ n. levels_behind m n) Whole) (Then (λ n. items (level n)) (LevelsTail m)) (levels_same m) h)))
    (λ y e l. go y.0.0 y.0.1 y.1 l)
  where
    go : (ls : List LevelName) (flag : Bool) (t : List ℕ) → Listed T (λ ls. slice_made m ls []) (WhereTail m) ls flag t → Finishes T (λ q. q) (onto (where_in flag (length T) t) (λ ps r. Ok (slice_made m ls ps, r)))
    go ls true t l = finish_map T (slice_made m ls) (where_in true (length T) t) (at_where (slice_made m ls) T t l)
    go ls false t l = l

abbrev by_behind : Name → ℕ → Part Query
by_behind m n = word (codes "by") >>= λ _. sp >>= λ _. levels_behind m n

abbrev slice_behind : Name → ℕ → Part Query
slice_behind m n = sp >>= λ _. by_behind m n

pub slice_goes : (T s r : List ℕ) → Stands T s r (Then (λ n. slice n) Whole) → Finishes T (λ q. q) (slice_in (length T) r)
unfolding slice_in
slice_goes T s r h = finishes_on T (λ m. Then (λ n. slice_behind m n) Whole) (λ q. q) (measure_in (codes "slice") (length T) r)
    (λ m r. onto (gap_in (length T) r) (λ _ r. onto (word_in (length T) (codes "by") r) (λ _ r. onto (gap_in (length T) r) (λ _ r. onto (levels_in (length T) r) (λ ls r. onto (where_in ls.1 (length T) r) (λ ps r. Ok (slice_made m ls.0 ps, r)))))))
    (measure_goes (codes "slice") T s r (λ n m. slice_behind m n) Whole (λ m. bind_part (λ n. sp) (λ n _. by_behind m n) sp_part (λ _. by_part m)) whole_alive
    (λ m. avoids_begins is_bare is_blank (λ n. slice_behind m n) Whole (begins_gap (λ n. by_behind m n)) bare_blank) h)
    (λ m s r i. pass_finish is_blank (λ n. sp) (λ n r. gap_in n r) (λ n. by_behind m n) Whole (λ q. q) (λ r. onto (word_in (length T) (codes "by") r) (λ _ r. onto (gap_in (length T) r) (λ _ r. onto (levels_in (length T) r) (λ ls r. onto (where_in ls.1 (length T) r) (λ ps r. Ok (slice_made m ls.0 ps, r)))))) T s r
    gap_passed (by_part m) whole_alive
    (avoids_begins is_blank (λ b. eqb b 98) (λ n. by_behind m n) Whole (begins_bind (λ b. eqb b 98) (λ n. word (codes "by")) (λ n _. sp >>= λ _. levels_behind m n) (begins_word 98 (121 ∷ []))) (apart_from is_blank 98 refl)) i
    (λ s r i. pass_finish (λ _. false) (λ n. word (codes "by")) (λ n r. word_in n (codes "by") r) (λ n. sp >>= λ _. levels_behind m n) Whole (λ q. q) (λ r. onto (gap_in (length T) r) (λ _ r. onto (levels_in (length T) r) (λ ls r. onto (where_in ls.1 (length T) r) (λ ps r. Ok (slice_made m ls.0 ps, r))))) T s r
    (word_passed (codes "by")) (gap_part m) whole_alive (nothing_avoided (Then (λ n. sp >>= λ _. levels_behind m n) Whole)) i
    (λ s r i. pass_finish is_blank (λ n. sp) (λ n r. gap_in n r) (λ n. levels_behind m n) Whole (λ q. q) (λ r. onto (levels_in (length T) r) (λ ls r. onto (where_in ls.1 (length T) r) (λ ps r. Ok (slice_made m ls.0 ps, r)))) T s r
    gap_passed (levels_behind_part m) whole_alive
    (avoids_begins is_blank begins_a_name (λ n. levels_behind m n) Whole
    (begins_bind begins_a_name (λ n. items (level n)) (λ n ls. perhaps (sp >>= λ _. where_then n) >>= λ ps. nothing (slice_made m ls ps)) (begins_bind begins_a_name (λ n. level n) (λ n x. many (comma_then level n) >>= λ xs. nothing (x ∷ xs)) begins_level)) blank_name) i
    (λ s r i. levels_goes m T s r i))))
  where
    gap_part : (m : Name) → IsPart (λ n. sp >>= λ _. levels_behind m n)
    gap_part m = bind_part (λ n. sp) (λ n _. levels_behind m n) sp_part (λ _. levels_behind_part m)

    by_part : (m : Name) → IsPart (λ n. by_behind m n)
    by_part m = bind_part (λ n. word (codes "by")) (λ n _. sp >>= λ _. levels_behind m n) (word_part (codes "by")) (λ _. gap_part m)
