-- Runs of bytes of one kind: as many as there are.
use Rattle.std.proofs.Common.{◌≡◌, inl, inr, ℕ, zero, suc, ◌+◌, ◌-◌, ◌≤◌, Bool, true, false, ltb, eqb, List, [], ◌∷◌, ◌++◌, length, take, drop, refl, sym, ap, subst, ◌∙◌, arith, append_assoc, append-nil, length-append, Ok}
use Rattle.std.specs.Prelude.{Some, None, ◌||◌}
use Rattle.std.specs.List.{list_all, prefix_len}
use Rattle.std.proofs.lemmas.Bool.{false≢true, and_parts}
use Rattle.cube_model.specs.Cubes.{IsIn}
use Rattle.cube_model.proofs.Members.{tested, IsIn-append, append_right}
use Rattle.cube_query.specs.declared.query.Query.{Query}
use Rattle.cube_query.specs.declared.query.QueryFault.TheVariants as fault
use Rattle.cube_query.specs.Grammar.{byte, nothing, ◌>>=◌, up_to, many, some, word, is_blank, ws, sp, sign}
use Rattle.cube_query.specs.Grammar.Reading.{Ends, Reads}
use Rattle.cube_query.specs.Reading.{onto, word_in, gap_in, sign_in, behind_blanks, has_blank}
use Rattle.cube_query.proofs.Parts.{through, bind_has, one_reading, no_reads, byte_is, byte_has, word_part, sp_part, ws_part, bind_part}
use Rattle.cube_query.proofs.Languages.{Lang, Then, Same, head, Stands, IsAlive, Avoids, Stops, Goes, IsPassed, passed_bind, then_bind, then_nothing, then_along, same_over, alive_then, alive_same, narrow, stands_same, shift}
use Rattle.cube_query.proofs.Runs.{reads_same, cons_same, some_same, no_head, no_head_from, shift_byte, stop_byte, word_passed, HeadPasses, Begins, begins_bind, begins_word, avoids_begins, nothing_avoided, apart_from}

-- some bytes of a kind, and what is left
pub record IsRun (p : ℕ → Bool) (xs rest t : List ℕ) : Type 0 where
  pub is : t ≡ xs ++ rest
  pub all : list_all p xs ≡ true

run_more : (p : ℕ → Bool) (x : ℕ) (xs rest t : List ℕ) → p x ≡ true → IsRun p xs rest t → IsRun p (x ∷ xs) rest (x ∷ t)
run_more p x xs rest t e h = record { is = ap (λ u. x ∷ u) h.is; all = rw e h.all }

run_as : (p : ℕ → Bool) (xs ys rest left t : List ℕ) → xs ≡ ys → rest ≡ left → IsRun p xs rest t → IsRun p ys left t
run_as p xs ys rest left t a b h = record { is = rw (sym a, sym b) h.is; all = rw (sym a) h.all }

run_front : (p : ℕ → Bool) (x : ℕ) (xs rest tail t : List ℕ) → p x ≡ true → t ≡ x ∷ tail → IsRun p xs rest tail → IsRun p (x ∷ xs) rest t
run_front p x xs rest tail t e s h = record { is = s ∙ ap (λ u. x ∷ u) h.is; all = rw e h.all }

byte_of : (p : ℕ → Bool) (x : ℕ) (rest t : List ℕ) → IsIn (Reads x rest) (byte p t) → (p x ≡ true) × (t ≡ x ∷ rest)
byte_of p x rest [] h = absurd (no_reads x rest (one_reading (Reads x rest) Ends h))
byte_of p x rest (b ∷ t) h = let e = byte_is p b t (Reads x rest) h in let s = reads_same b x t rest e.1 in (ap p (sym s.0) ∙ e.0, cc)

pub up_to_run : (k : ℕ) (p : ℕ → Bool) (xs rest t : List ℕ) → IsIn (Reads xs rest) (up_to k (byte p) t) → IsRun p xs rest t
up_to_run zero p xs rest t h = let s = reads_same [] xs t rest (one_reading (Reads xs rest) (Reads [] t) h) in record { is = rw (sym s.0) s.1; all = rw (sym s.0) refl }
up_to_run (suc k) p xs rest t h = elim (IsIn-append (Reads xs rest) (nothing [] t) ((byte p >>= λ x. up_to k (byte p) >>= λ ys. nothing (x ∷ ys)) t) h) [
  | inl e ↦ let s = reads_same [] xs t rest (one_reading (Reads xs rest) (Reads [] t) e) in record { is = rw (sym s.0) s.1; all = rw (sym s.0) refl }
  | inr e ↦
      let a = through (byte p) (λ x. up_to k (byte p) >>= λ ys. nothing (x ∷ ys)) xs rest t e in
      let b = through (up_to k (byte p)) (λ ys. nothing (a.value ∷ ys)) xs rest a.rest a.second in
      let s = reads_same (a.value ∷ b.value) xs b.rest rest (one_reading (Reads xs rest) (Reads (a.value ∷ b.value) b.rest) b.second) in
      let first = byte_of p a.value a.rest t a.first in
      run_as p (a.value ∷ b.value) xs b.rest rest t s.0 s.1 (run_front p a.value b.value b.rest a.rest t first.0 first.1 (up_to_run k p b.value b.rest a.rest b.first))
]

pub up_to_has : (k : ℕ) (p : ℕ → Bool) (xs rest : List ℕ) → list_all p xs ≡ true → length xs ≤ k → IsIn (Reads xs rest) (up_to k (byte p) (xs ++ rest))
up_to_has zero p [] rest h l = inl refl
up_to_has zero p (x ∷ xs) rest h l = absurd (omega (arith, l))
up_to_has (suc k) p [] rest h l = inl refl
up_to_has (suc k) p (x ∷ xs) rest h l =
    let e = and_parts (p x) (list_all p xs) h in
    append_right (Reads (x ∷ xs) rest) (nothing [] ((x ∷ xs) ++ rest)) ((byte p >>= λ x. up_to k (byte p) >>= λ ys. nothing (x ∷ ys)) ((x ∷ xs) ++ rest))
    (bind_has (byte p) (λ x. up_to k (byte p) >>= λ ys. nothing (x ∷ ys)) (Reads (x ∷ xs) rest) ((x ∷ xs) ++ rest) x (xs ++ rest) (byte_has p x (xs ++ rest) e.0)
    (bind_has (up_to k (byte p)) (λ ys. nothing (x ∷ ys)) (Reads (x ∷ xs) rest) (xs ++ rest) xs rest (up_to_has k p xs rest e.1 (omega (arith, l))) (inl refl)))

pub many_has : (p : ℕ → Bool) (xs rest u : List ℕ) → IsRun p xs rest u → IsIn (Reads xs rest) (many (byte p) u)
many_has p xs rest u h =
    let P : List ℕ → Type 0 = λ t. IsIn (Reads xs rest) (many (byte p) t) in
    subst P (sym h.is) (up_to_has (suc (length (xs ++ rest))) p xs rest h.all (omega (arith, length-append xs rest)))

-- a run, and behind it what may stand behind its bytes
pub record Behind (p : ℕ → Bool) (K : List ℕ → Lang) (n : ℕ) (u : List ℕ) (q : Query) : Type 0 where
  pub taken : List ℕ
  pub rest : List ℕ
  pub run : IsRun p taken rest u
  pub holds : K taken n rest q

pub then_run : (p : ℕ → Bool) (K : List ℕ → Lang) → Same (Then (λ n. many (byte p)) K) (Behind p K)
then_run p K = record {
  to = λ n u q h. record { taken = h.value; rest = h.rest; run = up_to_run (suc (length u)) p h.value h.rest u h.first; holds = h.second };
  from = λ n u q h. record {
    value = h.taken;
    rest = h.rest;
    first = many_has p h.taken h.rest u h.run;
    second = h.holds;
  };
}

no_cons : (b : ℕ) (xs : List ℕ) → [] ≡ b ∷ xs → ⊥
no_cons b xs e = cc

-- what stands behind no byte of a run at all
behind_none : (p : ℕ → Bool) (K : List ℕ → Lang) (n : ℕ) (u : List ℕ) (q : Query) → K [] n u q → Behind p K n u q
behind_none p K n u q h = record { taken = []; rest = u; run = record { is = refl; all = refl }; holds = h }

behind_nil : (p : ℕ → Bool) (K : List ℕ → Lang) (n : ℕ) (q : Query) → Behind p K n [] q → K [] n [] q
behind_nil p K n q h = go h.taken h.rest h.run.is h.holds
  where
    go : (taken rest : List ℕ) → [] ≡ taken ++ rest → K taken n rest q → K [] n [] q
    go [] rest e h = let P : List ℕ → Type 0 = λ t. K [] n t q in subst P (sym e) h
    go (b ∷ taken) rest e h = absurd (no_cons b (taken ++ rest) e)

behind_other : (p : ℕ → Bool) (K : List ℕ → Lang) (n b : ℕ) (u : List ℕ) (q : Query) → p b ≡ false → Behind p K n (b ∷ u) q → K [] n (b ∷ u) q
behind_other p K n b u q f h = go h.taken h.rest h.run.is h.run.all h.holds
  where
    go : (taken rest : List ℕ) → b ∷ u ≡ taken ++ rest → list_all p taken ≡ true → K taken n rest q → K [] n (b ∷ u) q
    go [] rest e a h = rw e h
    go (c ∷ taken) rest e a h = absurd (false≢true (sym f ∙ ap p (cons_same b c u (taken ++ rest) e).0 ∙ (and_parts (p c) (list_all p taken) a).0))

behind_one : (p : ℕ → Bool) (K : List ℕ → Lang) (n b : ℕ) (u : List ℕ) (q : Query) → p b ≡ true → ((xs : List ℕ) → Avoids p (K xs)) → Behind p K n (b ∷ u) q → Behind p (λ xs. K (b ∷ xs)) n u q
behind_one p K n b u q t avoids h = go h.taken h.rest h.run.is h.run.all h.holds
  where
    go : (taken rest : List ℕ) → b ∷ u ≡ taken ++ rest → list_all p taken ≡ true → K taken n rest q → Behind p (λ xs. K (b ∷ xs)) n u q
    go [] rest e a h = absurd (avoids [] n b u q t (rw e h))
    go (c ∷ taken) rest e a h = let s = cons_same b c u (taken ++ rest) e in record {
      taken = taken;
      rest = rest;
      run = record { is = s.1; all = (and_parts (p c) (list_all p taken) a).1 };
      holds = rw s.0 h;
    }

behind_more : (p : ℕ → Bool) (K : List ℕ → Lang) (n b : ℕ) (u : List ℕ) (q : Query) → p b ≡ true → Behind p (λ xs. K (b ∷ xs)) n u q → Behind p K n (b ∷ u) q
behind_more p K n b u q t h = record { taken = b ∷ h.taken; rest = h.rest; run = run_more p b h.taken h.rest u t h.run; holds = h.holds }

-- as many bytes of the kind as there are
abbrev pub taken_of : (ℕ → Bool) → List ℕ → List ℕ
taken_of p r = take (prefix_len p r) r

abbrev pub left_of : (ℕ → Bool) → List ℕ → List ℕ
left_of p r = drop (prefix_len p r) r

pub taken_more : (p : ℕ → Bool) (b : ℕ) (r : List ℕ) → p b ≡ true → (taken_of p (b ∷ r) ≡ b ∷ taken_of p r) × (left_of p (b ∷ r) ≡ left_of p r)
taken_more p b r e = let s : 1 + prefix_len p r ≡ suc (prefix_len p r) = omega arith in (rw (e, s) refl, rw (e, s) refl)

pub taken_none : (p : ℕ → Bool) (b : ℕ) (r : List ℕ) → p b ≡ false → (taken_of p (b ∷ r) ≡ []) × (left_of p (b ∷ r) ≡ b ∷ r)
taken_none p b r e = (rw e refl, rw e refl)

behind_goes : (p : ℕ → Bool) (T s r : List ℕ) (K : List ℕ → Lang) → ((xs : List ℕ) → Avoids p (K xs)) → Stands T s r (Behind p K) → Stands T (s ++ taken_of p r) (left_of p r) (K (taken_of p r))
behind_goes p T s [] K avoids h = rw (append-nil s) (narrow T s [] (Behind p K) (K []) (λ u q k. behind_none p K (length s + length u) u q k) (λ u q e k. nil u q e k) h)
  where
    nil : (u : List ℕ) (q : Query) → head u ≡ None → Behind p K (length s + length u) u q → K [] (length s + length u) u q
    nil [] q e k = behind_nil p K (length s + length {A = ℕ} []) q k
    nil (b ∷ u) q e k = absurd (no_head b e)
behind_goes p T s (b ∷ r) K avoids h = tested (p b)
    (λ t. let m = taken_more p b r t in
    rw (m.0, m.1, sym (append_assoc s (b ∷ []) (taken_of p r)))
    (behind_goes p T (s ++ b ∷ []) r (λ xs. K (b ∷ xs)) (λ xs. avoids (b ∷ xs))
    (shift T s r b (Behind p K) (Behind p (λ xs. K (b ∷ xs))) (λ n u q k. behind_more p K n b u q t k) (λ n u q k. behind_one p K n b u q t avoids k) h)))
    (λ f. let m = taken_none p b r f in
    rw (m.0, m.1, append-nil s) (narrow T s (b ∷ r) (Behind p K) (K []) (λ u q k. behind_none p K (length s + length u) u q k) (λ u q e k. other f u q e k) h))
  where
    other : p b ≡ false → (u : List ℕ) (q : Query) → head u ≡ Some b → Behind p K (length s + length u) u q → K [] (length s + length u) u q
    other f [] q e k = absurd (no_head_from b e)
    other f (c ∷ u) q e k = behind_other p K (length s + length (c ∷ u)) c u q (ap p (some_same c b e) ∙ f) k

pub run_goes : (p : ℕ → Bool) (T s r : List ℕ) (K : List ℕ → Lang) → ((xs : List ℕ) → Avoids p (K xs)) → Stands T s r (Then (λ n. many (byte p)) K) → Stands T (s ++ taken_of p r) (left_of p r) (K (taken_of p r))
run_goes p T s r K avoids h = behind_goes p T s r K avoids (stands_same T s r (Then (λ n. many (byte p)) K) (Behind p K) (then_run p K) h)

-- ---- blanks

pub ws_passed : IsPassed is_blank (λ n. ws) (λ n r. Ok (tt, behind_blanks r))
unfolding behind_blanks
ws_passed = record { goes = λ T s r K alive avoids h. record { before = s ++ taken_of is_blank r; stands = run_goes is_blank T s r (λ _. K) (λ _. avoids) h } }

-- a run of one byte or more
pub some_goes : (p : ℕ → Bool) (T s r : List ℕ) (b : ℕ) (K : List ℕ → Lang) → ((xs : List ℕ) → Avoids p (K xs)) → p b ≡ true → Stands T s (b ∷ r) (Then (λ n. some (byte p)) K) → Stands T ((s ++ b ∷ []) ++ taken_of p r) (left_of p r) (K (b ∷ taken_of p r))
some_goes p T s r b K avoids e h =
    let one = shift_byte T s r p b (λ x. Then (λ n. many (byte p) >>= λ xs. nothing (x ∷ xs)) K) e
    (stands_same T s (b ∷ r) (Then (λ n. some (byte p)) K) (Then (λ n. byte p) (λ x. Then (λ n. many (byte p) >>= λ xs. nothing (x ∷ xs)) K)) (then_bind (λ n. byte p) (λ n x. many (byte p) >>= λ xs. nothing (x ∷ xs)) K) h) in
    let two = stands_same T (s ++ b ∷ []) r (Then (λ n. many (byte p) >>= λ xs. nothing (b ∷ xs)) K) (Then (λ n. many (byte p)) (λ xs. K (b ∷ xs)))
    (same_over (then_bind (λ n. many (byte p)) (λ n xs. nothing (b ∷ xs)) K) (then_along (λ n. many (byte p)) (λ xs. Then (λ n. nothing (b ∷ xs)) K) (λ xs. K (b ∷ xs)) (λ xs. then_nothing (b ∷ xs) K))) one in
    run_goes p T (s ++ b ∷ []) r (λ xs. K (b ∷ xs)) (λ xs. avoids (b ∷ xs)) two

-- none comes
pub some_stops : (p : ℕ → Bool) (T s r : List ℕ) (K : List ℕ → Lang) → IsAlive (Then (λ n. some (byte p)) K) → ((b : ℕ) → head r ≡ Some b → p b ≡ false) → Stands T s r (Then (λ n. some (byte p)) K) → Stops T (fault.Syntax (length T - length r))
some_stops p T s r K alive not_one h =
    let e = then_bind (λ n. byte p) (λ n x. many (byte p) >>= λ xs. nothing (x ∷ xs)) K in
    stop_byte T s r p (λ x. Then (λ n. many (byte p) >>= λ xs. nothing (x ∷ xs)) K)
    (alive_same (Then (λ n. some (byte p)) K) (Then (λ n. byte p) (λ x. Then (λ n. many (byte p) >>= λ xs. nothing (x ∷ xs)) K)) e alive) not_one
    (stands_same T s r (Then (λ n. some (byte p)) K) (Then (λ n. byte p) (λ x. Then (λ n. many (byte p) >>= λ xs. nothing (x ∷ xs)) K)) e h)

pub gap_passed : IsPassed is_blank (λ n. sp) (λ n r. gap_in n r)
unfolding gap_in has_blank behind_blanks
gap_passed = record { goes = λ T s r K alive avoids h. go T s r K (alive_then (λ n. sp) (λ _. K) sp_part (λ _. alive)) avoids h }
  where
    go : (T s r : List ℕ) (K : Lang) → IsAlive (Then (λ n. sp) (λ _. K)) → Avoids is_blank K → Stands T s r (Then (λ n. sp) (λ _. K)) → Goes T (λ _. K) (gap_in (length T) r)
    go T s [] K alive avoids h = some_stops is_blank T s [] (λ _. K) alive (λ b e. absurd (no_head_from b e)) h
    go T s (b ∷ r) K alive avoids h = tested (is_blank b)
        (λ e. let m = taken_more is_blank b r e in let l : ltb 0 (1 + prefix_len is_blank r) ≡ true = grind arith in
        rw (m.1, e, l) (record { before = (s ++ b ∷ []) ++ taken_of is_blank r; stands = some_goes is_blank T s r b (λ _. K) (λ _. avoids) e h }))
        (λ e. rw e (some_stops is_blank T s (b ∷ r) (λ _. K) alive (λ d f. rw (sym (some_same b d f)) e) h))

-- a word with blanks around it or not
pub sign_passed : (c : ℕ) (cs : List ℕ) → is_blank c ≡ false → IsPassed is_blank (λ n. sign (c ∷ cs)) (λ n r. sign_in n (c ∷ cs) r)
unfolding sign_in
sign_passed c cs e = passed_bind is_blank is_blank (λ n. ws) (λ n. word (c ∷ cs) >>= λ _. ws) (λ n r. Ok (tt, behind_blanks r)) (λ n r. onto (word_in n (c ∷ cs) r) (λ _ r. Ok (tt, behind_blanks r)))
    ws_passed
    (passed_bind (λ _. false) is_blank (λ n. word (c ∷ cs)) (λ n. ws) (λ n r. word_in n (c ∷ cs) r) (λ n r. Ok (tt, behind_blanks r)) (word_passed (c ∷ cs)) ws_passed ws_part (λ K a. nothing_avoided (Then (λ n. ws) (λ _. K))))
    (bind_part (λ n. word (c ∷ cs)) (λ n _. ws) (word_part (c ∷ cs)) (λ _. ws_part))
    (λ K a. avoids_begins is_blank (λ b. eqb b c) (λ n. word (c ∷ cs) >>= λ _. ws) (λ _. K) (begins_bind (λ b. eqb b c) (λ n. word (c ∷ cs)) (λ n _. ws) (begins_word c cs)) (apart_from is_blank c e))

-- a word with blanks before it or not begins with a blank or as the word
abbrev pub begins_blank : ℕ → ℕ → Bool
begins_blank c b = is_blank b || eqb b c

or_second : (x y : Bool) → y ≡ true → x || y ≡ true
or_second true y e = refl
or_second false y e = e

or_first : (x y : Bool) → x ≡ true → x || y ≡ true
or_first true y e = refl
or_first false y e = absurd (false≢true e)

pub begins_sign : (c : ℕ) (cs : List ℕ) → Begins (begins_blank c) (λ n. sign (c ∷ cs))
begins_sign c cs = record { starts = λ n t x rest h. let e = through ws (λ _. word (c ∷ cs) >>= λ _. ws) x rest t h in go n t e.value e.rest x rest (up_to_run (suc (length t)) is_blank e.value e.rest t e.first) e.second }
  where
    go : (n : ℕ) (t taken left x rest : List ℕ) → IsRun is_blank taken left t → IsIn (Reads x rest) ((word (c ∷ cs) >>= λ _. ws) left) → HeadPasses (begins_blank c) t
    go n [] [] [] x rest run h = (begins_bind (λ b. eqb b c) (λ n. word (c ∷ cs)) (λ n _. ws) (begins_word c cs)).starts n [] x rest h
    go n [] [] (d ∷ left) x rest run h = absurd (no_cons d left run.is)
    go n [] (d ∷ taken) left x rest run h = absurd (no_cons d (taken ++ left) run.is)
    go n (b ∷ t) [] [] x rest run h = absurd (cc (run.is))
    go n (b ∷ t) [] (d ∷ left) x rest run h =
        let e = (begins_bind (λ b. eqb b c) (λ n. word (c ∷ cs)) (λ n _. ws) (begins_word c cs)).starts n (d ∷ left) x rest h in
        let s : b ≡ d = (cons_same b d t left run.is).0 in or_second (is_blank b) (eqb b c) (ap (λ z. eqb z c) s ∙ e)
    go n (b ∷ t) (d ∷ taken) left x rest run h =
        let s : b ≡ d = (cons_same b d t (taken ++ left) run.is).0 in
        let a = (and_parts (is_blank d) (list_all is_blank taken) run.all).0 in or_first (is_blank b) (eqb b c) (ap is_blank s ∙ a)
