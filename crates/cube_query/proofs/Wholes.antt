-- The reader finds the query that the grammar finds, or the same place.
use Rattle.std.proofs.Common.{◌≡◌, inl, ℕ, suc, ◌+◌, ◌-◌, ◌≤◌, Bool, true, false, ltb, eqb, eqb-true, List, [], ◌∷◌, ◌++◌, length, take, refl, sym, ap, ◌∙◌, arith, zero-add, append_assoc, length-append, Ok, Err}
use Rattle.std.specs.Prelude.{codes, ◌||◌}
use Rattle.std.proofs.lemmas.Bool.{false≢true, ltb-true, ltb-false}
use Rattle.cube_model.specs.Cubes.{IsIn}
use Rattle.cube_model.proofs.Members.{tested, IsIn-flat_map}
use Rattle.cube_query.specs.declared.query.Query.{Query}
use Rattle.cube_query.specs.declared.query.QueryFault.{QueryFault}
use Rattle.cube_query.specs.declared.query.QueryFault.TheVariants as fault
use Rattle.cube_query.specs.Grammar.{Part, nothing, ◌>>=◌, either, word, is_blank, ws, sp, items, perhaps, name, level, fix, span, cell, slice, range, query, whole, queries, is_begun, syntax_at, read_or, query_of}
use Rattle.cube_query.specs.Grammar.Reading.{Reads}
use Rattle.cube_query.specs.Laws.{AtMostOne, ReadsAsSaid, IsLongest}
use Rattle.cube_query.specs.Reading.{Step, behind_blanks, form_in, only_value, read_in}
use Rattle.cube_query.proofs.Parts.{IsPart, either_part, cell_part, slice_part, range_part, whole_is, whole_has, taken_as, begun_is_prefix}
use Rattle.cube_query.proofs.Fronts.{longest_front}
use Rattle.cube_query.proofs.Languages.{Then, Same, head, Stands, IsAlive, Stops, then_bind, then_nothing, then_along, same_over, alive_then, stands_same}
use Rattle.cube_query.proofs.Runs.{some_same, no_head_from, Begins, begins_bind, begins_word, begins_either, avoids_begins, apart_from, stop_begins, either_left, either_right}
use Rattle.cube_query.proofs.Blanks.{ws_passed}
use Rattle.cube_query.proofs.Lists.{Fin, Finishes}
use Rattle.cube_query.proofs.Forms.{Whole, whole_alive, cell_goes, slice_goes, range_goes}

abbrev form : ℕ → Part Query
form n = either (cell n) (either (slice n) (range n))

form_part : IsPart (λ n. form n)
form_part = either_part (λ n. cell n) (λ n. either (slice n) (range n)) cell_part (either_part (λ n. slice n) (λ n. range n) slice_part range_part)

begins_cell : Begins (λ b. eqb b 99) (λ n. cell n)
begins_cell = begins_bind (λ b. eqb b 99) (λ n. word (codes "cell")) (λ n _. sp >>= λ _. name n >>= λ m. perhaps (sp >>= λ _. items (fix n)) >>= λ ps. nothing (record { what = m; by = []; picks = ps })) (begins_word 99 (101 ∷ 108 ∷ 108 ∷ []))

begins_slice : Begins (λ b. eqb b 115) (λ n. slice n)
begins_slice = begins_bind (λ b. eqb b 115) (λ n. word (codes "slice")) (λ n _. sp >>= λ _. name n >>= λ m. sp >>= λ _. word (codes "by") >>= λ _. sp >>= λ _. items (level n) >>= λ ls.
    perhaps (sp >>= λ _. word (codes "where") >>= λ _. sp >>= λ _. items (fix n)) >>= λ ps. nothing (record { what = m; by = ls; picks = ps })) (begins_word 115 (108 ∷ 105 ∷ 99 ∷ 101 ∷ []))

begins_range : Begins (λ b. eqb b 114) (λ n. range n)
begins_range = begins_bind (λ b. eqb b 114) (λ n. word (codes "range")) (λ n _. sp >>= λ _. name n >>= λ m. sp >>= λ _. items (span n) >>= λ ps. nothing (record { what = m; by = []; picks = ps })) (begins_word 114 (97 ∷ 110 ∷ 103 ∷ 101 ∷ []))

abbrev slice_or_range : ℕ → Bool
slice_or_range b = eqb b 115 || eqb b 114

abbrev any_form : ℕ → Bool
any_form b = eqb b 99 || slice_or_range b

or_first : (x y : Bool) → x ≡ true → x || y ≡ true
or_first true y e = refl
or_first false y e = absurd (false≢true e)

or_second : (x y : Bool) → y ≡ true → x || y ≡ true
or_second true y e = refl
or_second false y e = e

begins_slice_or_range : Begins slice_or_range (λ n. either (slice n) (range n))
begins_slice_or_range = begins_either (λ b. eqb b 115) (λ b. eqb b 114) slice_or_range (λ n. slice n) (λ n. range n) (λ b e. or_first (eqb b 115) (eqb b 114) e) (λ b e. or_second (eqb b 115) (eqb b 114) e) begins_slice begins_range

begins_form : Begins any_form (λ n. form n)
begins_form = begins_either (λ b. eqb b 99) slice_or_range any_form (λ n. cell n) (λ n. either (slice n) (range n)) (λ b e. or_first (eqb b 99) (slice_or_range b) e) (λ b e. or_second (eqb b 99) (slice_or_range b) e) begins_cell begins_slice_or_range

form_alive : IsAlive (Then (λ n. form n) Whole)
form_alive = alive_then (λ n. form n) Whole form_part whole_alive

form_goes : (T s r : List ℕ) → Stands T s r (Then (λ n. form n) Whole) → Finishes T (λ q. q) (form_in (length T) r)
unfolding form_in
form_goes T s [] h = stop_begins T s [] any_form (λ n. form n) Whole begins_form form_alive (λ b e. absurd (no_head_from b e)) h
form_goes T s (b ∷ r) h = tested (eqb b 99)
    (λ e. rw e (cell_goes T s (b ∷ r) (either_left T s r b slice_or_range (λ n. cell n) (λ n. either (slice n) (range n)) Whole begins_slice_or_range (rw (eqb-true b 99 e) refl) h)))
    (λ e. let others = either_right T s r b (λ c. eqb c 99) (λ n. cell n) (λ n. either (slice n) (range n)) Whole begins_cell e h in
    tested (eqb b 115)
    (λ f. rw (e, f) (slice_goes T s (b ∷ r) (either_left T s r b (λ c. eqb c 114) (λ n. slice n) (λ n. range n) Whole begins_range (rw (eqb-true b 115 f) refl) others)))
    (λ f. tested (eqb b 114)
    (λ g. rw (e, f, g) (range_goes T s (b ∷ r) (either_right T s r b (λ c. eqb c 115) (λ n. slice n) (λ n. range n) Whole begins_slice f others)))
    (λ g. rw (e, f, g) (stop_begins T s (b ∷ r) any_form (λ n. form n) Whole begins_form form_alive (λ d i. rw (sym (some_same b d i)) (rw (e, f, g) refl)) h))))

-- the whole text
query_same : Same (Then (λ n. query n) Fin) (Then (λ n. ws) (λ _. Then (λ n. form n) Whole))
query_same = same_over (then_bind (λ n. ws) (λ n _. form n >>= λ q. ws >>= λ _. nothing q) Fin)
    (then_along (λ n. ws) (λ _. Then (λ n. form n >>= λ q. ws >>= λ _. nothing q) Fin) (λ _. Then (λ n. form n) Whole)
    (λ _. same_over (then_bind (λ n. form n) (λ n q. ws >>= λ _. nothing q) Fin)
    (then_along (λ n. form n) (λ q. Then (λ n. ws >>= λ _. nothing q) Fin) Whole
    (λ q. same_over (then_bind (λ n. ws) (λ n _. nothing q) Fin) (then_along (λ n. ws) (λ _. Then (λ n. nothing q) Fin) (λ _. Fin q) (λ _. then_nothing q Fin))))))

-- a reading of the whole
whole_reading : (f : ℕ → Part Query) (n : ℕ) (u : List ℕ) (q : Query) → Then f Fin n u q → IsIn (Reads q []) (f n u)
whole_reading f n u q k = rw (k.second.1, sym k.second.0) k.first

reading_whole : (f : ℕ → Part Query) (n m : ℕ) (u : List ℕ) (q : Query) → m ≡ n → IsIn (Reads q []) (f n u) → Then f Fin m u q
reading_whole f n m u q e i = rw e (record { value = q; rest = []; first = i; second = (refl, refl) })

reading_at : (f : ℕ → Part Query) (n m : ℕ) (u : List ℕ) (q : Query) → m ≡ n → IsIn (Reads q []) (f m u) → IsIn (Reads q []) (f n u)
reading_at f n m u q e i = rw (sym e) i

stands_first : (T : List ℕ) → Stands T [] T (Then (λ n. query n) Fin)
unfolding queries
stands_first T = record {
  whole = refl;
  sound = λ u q k. whole_has q (query (length u) u) (reading_at query (length u) (0 + length u) u q (zero-add (length u)) (whole_reading query (0 + length u) u q k));
  complete = λ u q e i. let m = IsIn-flat_map whole q (query (length u) u) i in
      reading_whole query (length u) (0 + length u) u q (zero-add (length u)) (taken_as m.0 (Reads q []) (query (length u) u) (whole_is q m.0 m.2) m.1);
}

read_finishes : (T : List ℕ) → Finishes T (λ q. q) (form_in (length T) (behind_blanks T))
read_finishes T =
    let p = ws_passed.goes T [] T (Then (λ n. form n) Whole) form_alive (avoids_begins is_blank any_form (λ n. form n) Whole begins_form apart) (stands_same T [] T (Then (λ n. query n) Fin) (Then (λ n. ws) (λ _. Then (λ n. form n) Whole)) query_same (stands_first T)) in
    form_goes T p.before (behind_blanks T) p.stands
  where
    apart : (b : ℕ) → is_blank b ≡ true → any_form b ≡ false
    apart b e = rw (apart_from is_blank 99 refl b e, apart_from is_blank 115 refl b e, apart_from is_blank 114 refl b e) refl

-- ---- the place of a fault

pub first_of : (at : ℕ) (q : Query) (qs : List Query) → IsIn q qs → ((r : Query) → IsIn r qs → r ≡ q) → read_or at qs ≡ Ok q
first_of at q [] i only = absurd i
first_of at q (r ∷ qs) i only = ap (λ z. Ok z) (only r (inl refl))

none_of : (at : ℕ) (qs : List Query) → ((r : Query) → IsIn r qs → ⊥) → read_or at qs ≡ Err (fault.Syntax at)
none_of at [] none = refl
none_of at (r ∷ qs) none = absurd (none r (inl refl))

begun_here : (text more : List ℕ) (q : Query) → IsIn q (queries (text ++ more)) → is_begun text ≡ true
begun_here text more q i = (begun_is_prefix text).1 (more, q, i)

not_begun : (text : List ℕ) → ((more : List ℕ) (q : Query) → IsIn q (queries (text ++ more)) → ⊥) → is_begun text ≡ false
not_begun text none = tested (is_begun text) (λ e. let b = (begun_is_prefix text).0 e in absurd (none b.0 b.1 b.2)) (λ e. e)

take_front : (s r : List ℕ) → take (length s) (s ++ r) ≡ s
take_front [] r = refl
take_front (b ∷ s) r = ap (λ z. b ∷ z) (take_front s r)

take_more : (k : ℕ) (s r : List ℕ) → take (length s + k) (s ++ r) ≡ s ++ take k r
take_more k [] r = rw (zero-add k) refl
take_more k (b ∷ s) r = let e : length (b ∷ s) + k ≡ suc (length s + k) = omega arith in rw e (ap (λ z. b ∷ z) (take_more k s r))

head_take : (k : ℕ) (r more : List ℕ) → suc k ≤ length r → head (take (suc k) r ++ more) ≡ head r
head_take k [] more l = absurd (omega (arith, l))
head_take k (b ∷ r) more l = refl

-- the longest front that is begun is as long as what was read
longest_is : (text : List ℕ) (at : ℕ) → IsLongest text at → (s r : List ℕ) → text ≡ s ++ r → is_begun s ≡ true → ((k : ℕ) → suc k ≤ length r → is_begun (s ++ take (suc k) r) ≡ false) → at ≡ length s
longest_is text at h s r e begun no_more = tested (ltb at (length s))
    (λ t. let l = ltb-true at (length s) t in
    let f = h.no_longer (length s) l (omega (arith, ap length e, length-append s r)) in
    absurd (false≢true (sym f ∙ ap is_begun (ap (λ z. take (length s) z) e ∙ take_front s r) ∙ begun)))
    (λ t. let l = ltb-false at (length s) t in tested (ltb (length s) at)
    (λ t2. let l2 = ltb-true (length s) at t2 in
    let k : at ≡ length s + suc (at - suc (length s)) = omega (arith, l2) in
    let within : suc (at - suc (length s)) ≤ length r = omega (arith, l2, h.within, ap length e, length-append s r) in
    let same : take at text ≡ s ++ take (suc (at - suc (length s))) r = ap (λ z. take at z) e ∙ ap (λ z. take z (s ++ r)) k ∙ take_more (suc (at - suc (length s))) s r in
    absurd (false≢true (sym (no_more (at - suc (length s)) within) ∙ ap is_begun (sym same) ∙ h.begins)))
    (λ t2. let l2 = ltb-false (length s) at t2 in omega (arith, l, l2)))

stops_at : (T : List ℕ) (e : QueryFault) → Stops T e → e ≡ fault.Syntax (syntax_at T)
stops_at T e h =
    let long = longest_is T (syntax_at T) (longest_front T) h.before h.rest h.whole (begun_here h.before h.more h.query h.begun)
    (λ k l. not_begun (h.before ++ take (suc k) h.rest) (λ more q i. h.none (take (suc k) h.rest ++ more) q (head_take k h.rest more l) (rw (append_assoc h.before (take (suc k) h.rest) more) at i))) in
    let n : length T - length h.rest ≡ syntax_at T = omega (arith, long, ap length h.whole, length-append h.before h.rest) in
    h.is ∙ ap (λ z. fault.Syntax z) n

stops_none : (T : List ℕ) (e : QueryFault) → Stops T e → (q : Query) → IsIn q (queries T) → ⊥
stops_none T e h q i = h.none h.rest q refl (rw h.whole at i)

decide : (T : List ℕ) (step : Step Query) → Finishes T (λ q. q) step → query_of T ≡ only_value step
unfolding query_of
decide T (Ok y) h = first_of (syntax_at T) y.0 (queries T) h.is h.only
decide T (Err e) h = none_of (syntax_at T) (queries T) (λ q i. stops_none T e h q i) ∙ ap (λ z. Err z) (sym (stops_at T e h))

pub reads_as_said : ReadsAsSaid
unfolding read_in
reads_as_said T = decide T (form_in (length T) (behind_blanks T)) (read_finishes T)

one : (T : List ℕ) (step : Step Query) → Finishes T (λ q. q) step → (q r : Query) → IsIn q (queries T) → IsIn r (queries T) → q ≡ r
one T (Ok y) h q r i j = h.only q i ∙ sym (h.only r j)
one T (Err e) h q r i j = absurd (stops_none T e h q i)

pub at_most_one : AtMostOne
at_most_one T = one T (form_in (length T) (behind_blanks T)) (read_finishes T)
