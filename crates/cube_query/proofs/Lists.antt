-- Items with commas between, and what stands behind them.
use Rattle.std.proofs.Common.{◌≡◌, ◌⊎◌, inl, inr, ℕ, zero, suc, ◌+◌, ◌-◌, ◌<◌, ◌≤◌, Bool, true, false, ltb, eqb, eqb-true, List, [], ◌∷◌, ◌++◌, length, refl, sym, ap, ◌∙◌, arith, append_assoc, append-nil, Ok, Err, MatchResult}
use Rattle.std.specs.Prelude.{Some, codes, if◌then◌else◌}
use Rattle.std.specs.List.{prefix_len, list_all}
use Rattle.std.proofs.lemmas.Bool.{false≢true, and_parts}
use Rattle.cube_model.specs.Cubes.{IsIn}
use Rattle.cube_model.proofs.Members.{tested, IsIn-append, append_right}
use Rattle.cube_query.specs.declared.query.Query.{Query}
use Rattle.cube_query.specs.declared.query.QueryFault.{QueryFault}
use Rattle.cube_query.specs.declared.query.QueryFault.TheVariants as fault
use Rattle.cube_query.specs.declared.cursor.Next.{Next}
use Rattle.cube_query.specs.declared.cursor.Next.TheVariants as next
use Rattle.cube_query.specs.Grammar.{Part, byte, nothing, ◌>>=◌, up_to, many, word, is_blank, ws, sp, sign, perhaps, queries}
use Rattle.cube_query.specs.Grammar.Reading.{Reads}
use Rattle.cube_text.specs.Quoting.{is_bare}
use Rattle.cube_query.specs.Reading.{Step, stuck, onto, behind_blanks, has_blank, next_here, next_in, by_next, items_in}
use Rattle.cube_query.proofs.Parts.{IsPart, Eats, through, bind_has, fuel, one_reading, ws_part, sign_part, sign_eats, many_part, bind_part, eats_first}
use Rattle.cube_query.proofs.Languages.{Lang, Then, Same, head, Stands, IsAlive, Avoids, Stops, Passes, Goes, IsRead, then_bind, then_nothing, then_either, then_along, same_over, same_back, same_self, alive_then, alive_same, narrow, stands_same, stop}
use Rattle.cube_query.proofs.Runs.{reads_same, cons_same, some_same, no_head_from, then_byte_has, then_byte_is, then_byte_nil, shift_byte, HeadPasses, Begins, begins_word, apart_from, stop_begins, avoids_begins}
use Rattle.cube_query.proofs.Blanks.{Behind, then_run, taken_of, left_of, run_goes, taken_more, ws_passed}
use Rattle.cube_query.proofs.Names.{begins_a_name}
use Rattle.cube_query.proofs.Picks.{Shortens, short_blanks, blank_name, bare_blank}

-- ---- the end of the text

-- nothing stands here, and this is the query
abbrev pub Fin : Query → Lang
Fin q n u r = (u ≡ []) × (r ≡ q)

-- the text is this query, and no other
pub record Done (T : List ℕ) (q : Query) : Type 0 where
  pub is : IsIn q (queries T)
  pub only : (r : Query) → IsIn r (queries T) → r ≡ q

abbrev pub Finishes : {A : Type 0} → List ℕ → (A → Query) → Step A → Type 0
Finishes T made step = MatchResult step (λ y. Done T (made y.0)) (λ e. Stops T e)

pub finishes_on : {A B : Type 0} (T : List ℕ) (K : A → Lang) (made : B → Query) (step : Step A) (next : A → List ℕ → Step B) → Goes T K step → ((x : A) (s r : List ℕ) → Stands T s r (K x) → Finishes T made (next x r)) → Finishes T made (onto step next)
finishes_on T K made (Ok y) next h f = f y.0 h.before y.1 h.stands
finishes_on T K made (Err e) next h f = h

pub done_at : (T s : List ℕ) (K : Lang) (q : Query) → ((n : ℕ) → K n [] q) → ((n : ℕ) (r : Query) → K n [] r → r ≡ q) → Stands T s [] K → Done T q
done_at T s K q has only h =
    let e : T ≡ s = h.whole ∙ append-nil s in
    record {
      is = rw h.whole (h.sound [] q (has (length s + length {A = ℕ} [])));
      only = λ r i. only (length s + length {A = ℕ} []) r (h.complete [] r refl (rw h.whole at i));
    }

pub fin_alive : (q : Query) → IsAlive (Fin q)
fin_alive q m = record { more = []; query = q; holds = (refl, refl) }

pub no_cons : (b : ℕ) (u : List ℕ) → b ∷ u ≡ [] → ⊥
no_cons b u e = cc

pub fin_avoids : (C : ℕ → Bool) (q : Query) → Avoids C (Fin q)
fin_avoids C q n b u r e h = no_cons b u h.0

pub ends_alive : (q : Query) → IsAlive (Then (λ n. ws) (λ _. Fin q))
ends_alive q = alive_then (λ n. ws) (λ _. Fin q) ws_part (λ _. fin_alive q)

-- ---- blanks before what follows

-- nothing more; or behind some blanks what may follow
abbrev pub After : Query → Lang → List ℕ → Lang
After q W [] n u r = Fin q n u r
After q W (b ∷ bs) n u r = Fin q n u r ⊎ W n u r

pub after_fin : (q : Query) (W : Lang) (bs : List ℕ) (n : ℕ) (u : List ℕ) (r : Query) → Fin q n u r → After q W bs n u r
after_fin q W [] n u r h = h
after_fin q W (b ∷ bs) n u r h = inl h

pub after_cases : (q : Query) (W : Lang) (bs : List ℕ) (n : ℕ) (u : List ℕ) (r : Query) → After q W bs n u r → Fin q n u r ⊎ W n u r
after_cases q W [] n u r h = inl h
after_cases q W (b ∷ bs) n u r h = h

then_or : {A : Type 0} (f : ℕ → Part A) (K L : A → Lang) → Same (λ n u q. Then f K n u q ⊎ Then f L n u q) (Then f (λ x n u q. K x n u q ⊎ L x n u q))
then_or f K L = record {
  to = λ n u q h. elim h [
    | inl e ↦ record { value = e.value; rest = e.rest; first = e.first; second = inl e.second }
    | inr e ↦ record { value = e.value; rest = e.rest; first = e.first; second = inr e.second }
  ];
  from = λ n u q h. elim (h.second) [
    | inl e ↦ inl (record { value = h.value; rest = h.rest; first = h.first; second = e })
    | inr e ↦ inr (record { value = h.value; rest = h.rest; first = h.first; second = e })
  ];
}

pub same_or : {K L M N : Lang} → Same K M → Same L N → Same (λ n u q. K n u q ⊎ L n u q) (λ n u q. M n u q ⊎ N n u q)
same_or a b = record {
  to = λ n u q h. elim h [ inl e ↦ inl (a.to n u q e) | inr e ↦ inr (b.to n u q e) ];
  from = λ n u q h. elim h [ inl e ↦ inl (a.from n u q e) | inr e ↦ inr (b.from n u q e) ];
}

-- some blanks, or none
abbrev Needs : Lang → List ℕ → Lang
Needs K [] n u q = ⊥
Needs K (b ∷ bs) n u q = K n u q

then_gap : (K : Lang) → Same (Then (λ n. sp) (λ _. K)) (Then (λ n. ws) (Needs K))
then_gap K = record {
  to = λ n u q h. (then_run is_blank (Needs K)).from n u q (to n u q h);
  from = λ n u q h. from n u q ((then_run is_blank (Needs K)).to n u q h);
}
  where
    to : (n : ℕ) (u : List ℕ) (q : Query) → Then (λ n. sp) (λ _. K) n u q → Behind is_blank (Needs K) n u q
    to n [] q h = absurd (then_byte_nil is_blank (λ x. Then (λ n. many (byte is_blank) >>= λ xs. nothing (x ∷ xs)) (λ _. K)) n q ((then_bind (λ n. byte is_blank) (λ n x. many (byte is_blank) >>= λ xs. nothing (x ∷ xs)) (λ _. K)).to n [] q h))
    to n (b ∷ u) q h =
        let a = then_byte_is is_blank (λ x. Then (λ n. many (byte is_blank) >>= λ xs. nothing (x ∷ xs)) (λ _. K)) n b u q ((then_bind (λ n. byte is_blank) (λ n x. many (byte is_blank) >>= λ xs. nothing (x ∷ xs)) (λ _. K)).to n (b ∷ u) q h) in
        let c = (then_bind (λ n. many (byte is_blank)) (λ n xs. nothing (b ∷ xs)) (λ _. K)).to n u q a.1 in
        let d = (then_run is_blank (λ xs. Then (λ n. nothing (b ∷ xs)) (λ _. K))).to n u q c in
        record { taken = b ∷ d.taken; rest = d.rest; run = record { is = ap (λ z. b ∷ z) d.run.is; all = rw a.0 d.run.all }; holds = (then_nothing (b ∷ d.taken) (λ _. K)).to n d.rest q d.holds }

    from : (n : ℕ) (u : List ℕ) (q : Query) → Behind is_blank (Needs K) n u q → Then (λ n. sp) (λ _. K) n u q
    from n u q h = go h.taken h.rest h.run.is h.run.all h.holds
      where
        go : (taken rest : List ℕ) → u ≡ taken ++ rest → list_all is_blank taken ≡ true → Needs K taken n rest q → Then (λ n. sp) (λ _. K) n u q
        go [] rest e a k = absurd k
        go (b ∷ bs) rest e a k = rw e ((then_bind (λ n. byte is_blank) (λ n x. many (byte is_blank) >>= λ xs. nothing (x ∷ xs)) (λ _. K)).from n (b ∷ (bs ++ rest)) q
            (then_byte_has is_blank (λ x. Then (λ n. many (byte is_blank) >>= λ xs. nothing (x ∷ xs)) (λ _. K)) n b (bs ++ rest) q (and_parts (is_blank b) (list_all is_blank bs) a).0
            ((then_bind (λ n. many (byte is_blank)) (λ n xs. nothing (b ∷ xs)) (λ _. K)).from n (bs ++ rest) q
            ((then_run is_blank (λ xs. Then (λ n. nothing (b ∷ xs)) (λ _. K))).from n (bs ++ rest) q
            (record { taken = bs; rest = rest; run = record { is = refl; all = (and_parts (is_blank b) (list_all is_blank bs) a).1 }; holds = (then_nothing (b ∷ bs) (λ _. K)).from n rest q k })))))

-- perhaps blanks and a part, and then the end
pub perhaps_tail : {A : Type 0} (h : ℕ → Part (List A)) (made : List A → Query) → Same (Then (λ n. perhaps (sp >>= λ _. h n)) (λ ps. Then (λ n. ws) (λ _. Fin (made ps)))) (Then (λ n. ws) (After (made []) (Then h (λ ps. Then (λ n. ws) (λ _. Fin (made ps))))))
perhaps_tail {A} h made = same_over (then_either (λ n. nothing []) (λ n. sp >>= λ _. h n) X)
    (same_over (same_or (then_nothing [] X) (same_over (then_bind (λ n. sp) (λ n _. h n) X) (then_gap (Then h X))))
    (same_over (then_or (λ n. ws) (λ _. Fin (made [])) (Needs (Then h X))) (then_along (λ n. ws) (λ bs n u q. Fin (made []) n u q ⊎ Needs (Then h X) bs n u q) (After (made []) (Then h X)) (λ bs. each bs))))
  where
    X : List A → Lang
    X ps = Then (λ n. ws) (λ _. Fin (made ps))

    each : (bs : List ℕ) → Same (λ n u q. Fin (made []) n u q ⊎ Needs (Then h X) bs n u q) (After (made []) (Then h X) bs)
    each [] = record { to = λ n u q k. elim k [ inl e ↦ e | inr e ↦ absurd e ]; from = λ n u q k. inl k }
    each (b ∷ bs) = record { to = λ n u q k. k; from = λ n u q k. k }

-- nothing follows
abbrev pub Never : Lang
Never n u q = ⊥

pub no_tail : (q : Query) → Same (Then (λ n. ws) (λ _. Fin q)) (Then (λ n. ws) (After q Never))
no_tail q = then_along (λ n. ws) (λ _. Fin q) (After q Never) each
  where
    each : (bs : List ℕ) → Same (Fin q) (After q Never bs)
    each [] = record { to = λ n u r k. k; from = λ n u r k. k }
    each (b ∷ bs) = record { to = λ n u r k. inl k; from = λ n u r k. elim k [ inl e ↦ e | inr e ↦ absurd e ] }

-- ---- items

-- Items whose list K goes on from: behind them blanks and the end, or behind blanks what W says, which begins with a `w`.
pub record IsListed {A : Type 0} (f : ℕ → Part A) (item : ℕ → List ℕ → Step A) (K W : List A → Lang) (made : List A → Query) : Type 1 where
  pub read : IsRead is_bare f item
  pub part : IsPart f
  pub begins : Begins begins_a_name f
  pub short : (n : ℕ) (r : List ℕ) → Shortens (item n r) r
  pub tail : (xs : List A) → Same (K xs) (Then (λ n. ws) (After (made xs) (W xs)))
  pub first : (xs : List A) (n b : ℕ) (u : List ℕ) (q : Query) → W xs n (b ∷ u) q → b ≡ 119
  pub some : (xs : List A) (n : ℕ) (q : Query) → W xs n [] q → ⊥

abbrev pub comma_then : {A : Type 0} → (ℕ → Part A) → ℕ → Part A
comma_then f n = sign (codes ",") >>= λ _. f n

-- more items behind some
abbrev pub More : {A : Type 0} → (ℕ → Part A) → (List A → Lang) → List A → Lang
More f K xs = Then (λ n. many (comma_then f n)) (λ ys. K (xs ++ ys))

comma_part : {A : Type 0} (f : ℕ → Part A) → IsPart f → IsPart (λ n. comma_then f n)
comma_part f P = bind_part (λ n. sign (codes ",")) (λ n _. f n) (sign_part (codes ",")) (λ _. P)

pub comma_eats : {A : Type 0} (f : ℕ → Part A) → IsPart f → Eats (λ n. comma_then f n)
comma_eats f P = eats_first (λ n. sign (codes ",")) (λ n _. f n) (sign_eats 44 []) (λ _. P)

nothing_rest : {A : Type 0} (K : List A → Lang) (ys : List A) (n : ℕ) (u rest : List ℕ) (q : Query) → Reads [] u ≡ Reads ys rest → K ys n rest q → K [] n u q
nothing_rest K ys n u rest q e h = let s = reads_same [] ys u rest e in rw (s.0, s.1) h

many_unfold : {A : Type 0} (g : ℕ → Part A) (K : List A → Lang) → Eats g → Same (Then (λ n. many (g n)) K) (λ n u q. K [] n u q ⊎ Then g (λ y. Then (λ n. many (g n)) (λ ys. K (y ∷ ys))) n u q)
many_unfold g K E = record {
  to = λ n u q h. elim (IsIn-append (Reads h.value h.rest) (nothing [] u) ((g n >>= λ x. up_to (length u) (g n) >>= λ xs. nothing (x ∷ xs)) u) h.first) [
    | inl e ↦ inl (nothing_rest K h.value n u h.rest q (one_reading (Reads h.value h.rest) (Reads [] u) e) h.second)
    | inr e ↦
        let a = through (g n) (λ x. up_to (length u) (g n) >>= λ xs. nothing (x ∷ xs)) h.value h.rest u e in
        let b = through (up_to (length u) (g n)) (λ xs. nothing (a.value ∷ xs)) h.value h.rest a.rest a.second in
        let s = reads_same (a.value ∷ b.value) h.value b.rest h.rest (one_reading (Reads h.value h.rest) (Reads (a.value ∷ b.value) b.rest) b.second) in
        inr (record {
          value = a.value;
          rest = a.rest;
          first = a.first;
          second = record {
            value = b.value;
            rest = b.rest;
            first = fuel (g n) (λ t x r. E n t x r) (length u) (suc (length a.rest)) a.rest (Reads b.value b.rest) (omega arith) b.first;
            second = rw (s.0, s.1) h.second;
          };
        })
  ];
  from = λ n u q h. elim h [
    | inl e ↦ record { value = []; rest = u; first = inl refl; second = e }
    | inr e ↦ let l = E n u e.value e.rest e.first in record {
      value = e.value ∷ e.second.value;
      rest = e.second.rest;
      first = append_right (Reads (e.value ∷ e.second.value) e.second.rest) (nothing [] u) ((g n >>= λ x. up_to (length u) (g n) >>= λ xs. nothing (x ∷ xs)) u)
          (bind_has (g n) (λ x. up_to (length u) (g n) >>= λ xs. nothing (x ∷ xs)) (Reads (e.value ∷ e.second.value) e.second.rest) u e.value e.rest e.first
          (bind_has (up_to (length u) (g n)) (λ xs. nothing (e.value ∷ xs)) (Reads (e.value ∷ e.second.value) e.second.rest) e.rest e.second.value e.second.rest
          (fuel (g n) (λ t x r. E n t x r) (suc (length e.rest)) (length u) e.rest (Reads e.second.value e.second.rest) l e.second.first) (inl refl)));
      second = e.second.second;
    }
  ];
}

same_at : {A : Type 0} (K : List A → Lang) (xs ys : List A) → xs ≡ ys → Same (K xs) (K ys)
same_at K xs ys e = rw e (same_self (K ys))

-- a comma, blanks, and an item
abbrev pub Comma : {A : Type 0} → (ℕ → Part A) → (List A → Lang) → List A → Lang
Comma f K xs = Then (λ n. word (codes ",")) (λ _. Then (λ n. ws) (λ _. Then f (λ y. More f K (xs ++ y ∷ []))))

comma_same : {A : Type 0} (f : ℕ → Part A) (K : A → Lang) → Same (Then (λ n. comma_then f n) K) (Then (λ n. ws) (λ _. Then (λ n. word (codes ",")) (λ _. Then (λ n. ws) (λ _. Then f K))))
comma_same f K = same_over (then_bind (λ n. sign (codes ",")) (λ n _. f n) K)
    (same_over (then_bind (λ n. ws) (λ n _. word (codes ",") >>= λ _. ws) (λ _. Then f K))
    (then_along (λ n. ws) (λ _. Then (λ n. word (codes ",") >>= λ _. ws) (λ _. Then f K)) (λ _. Then (λ n. word (codes ",")) (λ _. Then (λ n. ws) (λ _. Then f K))) (λ _. then_bind (λ n. word (codes ",")) (λ n _. ws) (λ _. Then f K))))

abbrev Here : {A : Type 0} → (ℕ → Part A) → (List A → Lang) → (List A → Lang) → (List A → Query) → List A → List ℕ → Lang
Here f K W made xs bs n u q = After (made xs) (W xs) bs n u q ⊎ Comma f K xs n u q

more_same : {A : Type 0} (f : ℕ → Part A) (item : ℕ → List ℕ → Step A) (K W : List A → Lang) (made : List A → Query) → IsListed f item K W made → (xs : List A) → Same (More f K xs) (Then (λ n. ws) (Here f K W made xs))
more_same f item K W made L xs =
    same_over (many_unfold (λ n. comma_then f n) (λ ys. K (xs ++ ys)) (comma_eats f L.part))
    (same_over (same_or (same_over (same_at K (xs ++ []) xs (append-nil xs)) (L.tail xs))
    (same_over (then_along (λ n. comma_then f n) (λ y. Then (λ n. many (comma_then f n)) (λ ys. K (xs ++ (y ∷ ys)))) (λ y. More f K (xs ++ y ∷ []))
    (λ y. then_along (λ n. many (comma_then f n)) (λ ys. K (xs ++ (y ∷ ys))) (λ ys. K ((xs ++ y ∷ []) ++ ys)) (λ ys. same_at K (xs ++ (y ∷ ys)) ((xs ++ y ∷ []) ++ ys) (sym (append_assoc xs (y ∷ []) ys)))))
    (comma_same f (λ y. More f K (xs ++ y ∷ [])))))
    (then_or (λ n. ws) (After (made xs) (W xs)) (λ _. Comma f K xs)))

pub after_alive : (q : Query) (W : Lang) (bs : List ℕ) → IsAlive (After q W bs)
after_alive q W bs m = record { more = []; query = q; holds = after_fin q W bs (m + length {A = ℕ} []) [] q (refl, refl) }

pub tail_alive : {A : Type 0} (f : ℕ → Part A) (item : ℕ → List ℕ → Step A) (K W : List A → Lang) (made : List A → Query) → IsListed f item K W made → (xs : List A) → IsAlive (K xs)
tail_alive f item K W made L xs = alive_same (Then (λ n. ws) (After (made xs) (W xs))) (K xs) (same_back (L.tail xs)) (alive_then (λ n. ws) (After (made xs) (W xs)) ws_part (λ bs. after_alive (made xs) (W xs) bs))

pub more_alive : {A : Type 0} (f : ℕ → Part A) (item : ℕ → List ℕ → Step A) (K W : List A → Lang) (made : List A → Query) → IsListed f item K W made → (xs : List A) → IsAlive (More f K xs)
more_alive f item K W made L xs = alive_then (λ n. many (comma_then f n)) (λ ys. K (xs ++ ys)) (many_part (λ n. comma_then f n) (comma_part f L.part) (comma_eats f L.part)) (λ ys. tail_alive f item K W made L (xs ++ ys))

begins_comma : {A : Type 0} (f : ℕ → Part A) (K : List A → Lang) (xs : List A) (n : ℕ) (u : List ℕ) (q : Query) → Comma f K xs n u q → HeadPasses (λ b. eqb b 44) u
begins_comma f K xs n u q h = (begins_word 44 []).starts n u h.value h.rest h.first

-- what may stand behind an item begins with no byte of another kind
here_other : {A : Type 0} (f : ℕ → Part A) (item : ℕ → List ℕ → Step A) (K W : List A → Lang) (made : List A → Query) → IsListed f item K W made → (xs : List A) (bs : List ℕ) (n b : ℕ) (u : List ℕ) (q : Query) → eqb b 44 ≡ false → Here f K W made xs bs n (b ∷ u) q → W xs n (b ∷ u) q
here_other f item K W made L xs bs n b u q e (inl h) = go (after_cases (made xs) (W xs) bs n (b ∷ u) q h)
  where
    go : Fin (made xs) n (b ∷ u) q ⊎ W xs n (b ∷ u) q → W xs n (b ∷ u) q
    go (inl k) = absurd (no_cons b u k.0)
    go (inr k) = k
here_other f item K W made L xs bs n b u q e (inr h) = absurd (false≢true (sym e ∙ begins_comma f K xs n (b ∷ u) q h))

here_comma : {A : Type 0} (f : ℕ → Part A) (item : ℕ → List ℕ → Step A) (K W : List A → Lang) (made : List A → Query) → IsListed f item K W made → (xs : List A) (bs : List ℕ) (n b : ℕ) (u : List ℕ) (q : Query) → b ≡ 44 → Here f K W made xs bs n (b ∷ u) q → Comma f K xs n (b ∷ u) q
here_comma f item K W made L xs bs n b u q e (inl h) = go (after_cases (made xs) (W xs) bs n (b ∷ u) q h)
  where
    go : Fin (made xs) n (b ∷ u) q ⊎ W xs n (b ∷ u) q → Comma f K xs n (b ∷ u) q
    go (inl k) = absurd (no_cons b u k.0)
    go (inr k) = absurd (omega (arith, e, L.first xs n b u q k))
here_comma f item K W made L xs bs n b u q e (inr h) = h

here_nil : {A : Type 0} (f : ℕ → Part A) (item : ℕ → List ℕ → Step A) (K W : List A → Lang) (made : List A → Query) → IsListed f item K W made → (xs : List A) (bs : List ℕ) (n : ℕ) (q : Query) → Here f K W made xs bs n [] q → q ≡ made xs
here_nil f item K W made L xs bs n q (inl h) = go (after_cases (made xs) (W xs) bs n [] q h)
  where
    go : Fin (made xs) n [] q ⊎ W xs n [] q → q ≡ made xs
    go (inl k) = k.1
    go (inr k) = absurd (L.some xs n q k)
here_nil f item K W made L xs bs n q (inr h) = absurd (begins_comma f K xs n [] q h)

-- ---- what comes behind an item

-- the word `where` has to come, or nothing more
pub record AtWhere (T : List ℕ) (q : Query) (W : Lang) (r : List ℕ) : Type 0 where
  pub before : List ℕ
  pub left : List ℕ
  pub is : r ≡ 119 ∷ left
  pub stands : Stands T before r (λ n u p. Fin q n u p ⊎ W n u p)

abbrev pub ComesNext : {A : Type 0} → (ℕ → Part A) → (List A → Lang) → (List A → Lang) → (List A → Query) → List ℕ → List A → Next → List ℕ → Type 0
ComesNext f K W made T xs next.Item r = (s : List ℕ) × Stands T s r (Then f (λ y. More f K (xs ++ y ∷ [])))
ComesNext f K W made T xs next.Where r = AtWhere T (made xs) (W xs) r
ComesNext f K W made T xs next.End r = Done T (made xs)

blank_44 : (b : ℕ) → is_blank b ≡ true → eqb b 44 ≡ false
blank_44 b h = apart_from is_blank 44 refl b h

here_avoids : {A : Type 0} (f : ℕ → Part A) (item : ℕ → List ℕ → Step A) (K W : List A → Lang) (made : List A → Query) → IsListed f item K W made → (xs : List A) (bs : List ℕ) → Avoids is_blank (Here f K W made xs bs)
here_avoids f item K W made L xs bs n b u q e h = let w = L.first xs n b u q (here_other f item K W made L xs bs n b u q (blank_44 b e) h) in false≢true (sym (apart_from is_blank 119 refl b e) ∙ rw w refl)

abbrev pub has : List ℕ → Bool
has [] = false
has (b ∷ bs) = true

pub has_taken : (r : List ℕ) → has_blank r ≡ has (taken_of is_blank r)
unfolding has_blank
has_taken [] = refl
has_taken (b ∷ r) = tested (is_blank b)
    (λ e. let l : ltb 0 (1 + prefix_len is_blank r) ≡ true = grind arith in let m = taken_more is_blank b r e in rw (m.0, e, l) refl)
    (λ e. rw e refl)

-- a step, and behind it another
pub match_onto : {A B : Type 0} (P : A × List ℕ → Type 0) (Q : B × List ℕ → Type 0) (S : QueryFault → Type 0) (step : Step A) (next : A → List ℕ → Step B) → MatchResult step P S → ((y : A × List ℕ) → step ≡ Ok y → P y → MatchResult (next y.0 y.1) Q S) → MatchResult (onto step next) Q S
match_onto P Q S (Ok y) next h f = f y refl h
match_onto P Q S (Err e) next h f = h

-- past a comma and blanks
past_comma : (T s r : List ℕ) (b : ℕ) (X : Lang) → IsAlive X → Avoids is_blank X → eqb b 44 ≡ true → Stands T s (b ∷ r) (Then (λ n. word (codes ",")) (λ _. Then (λ n. ws) (λ _. X))) → (t : List ℕ) × Stands T t (behind_blanks r) X
past_comma T s r b X alive avoids e h =
    let Y : Lang = Then (λ n. ws) (λ _. X) in
    let one = stands_same T s (b ∷ r) (Then (λ n. word (codes ",")) (λ _. Y)) (Then (λ n. byte (λ c. eqb c 44)) (λ _. Then (λ n. nothing []) (λ (_ : List ℕ). Y))) (then_bind (λ n. byte (λ c. eqb c 44)) (λ n _. nothing []) (λ _. Y)) h in
    let two = shift_byte T s r (λ c. eqb c 44) b (λ _. Then (λ n. nothing []) (λ (_ : List ℕ). Y)) e one in
    let three = stands_same T (s ++ b ∷ []) r (Then (λ n. nothing []) (λ (_ : List ℕ). Y)) Y (then_nothing [] (λ (_ : List ℕ). Y)) two in
    let p = ws_passed.goes T (s ++ b ∷ []) r X alive avoids three in (p.before, p.stands)

next_here_goes : {A : Type 0} (f : ℕ → Part A) (item : ℕ → List ℕ → Step A) (K W : List A → Lang) (made : List A → Query) → IsListed f item K W made → (xs : List A) (bs T s r : List ℕ) → Stands T s r (Here f K W made xs bs) → MatchResult (next_here (length T) (has bs) r) (λ y. ComesNext f K W made T xs y.0 y.1) (λ e. Stops T e)
next_here_goes {A} f item K W made L xs bs T s [] h = done_at T s (Here f K W made xs bs) (made xs) (λ n. inl (after_fin (made xs) (W xs) bs n [] (made xs) (refl, refl))) (λ n q k. here_nil f item K W made L xs bs n q k) h
next_here_goes {A} f item K W made L xs bs T s (b ∷ r) h = tested (eqb b 44)
    (λ e. rw e (past_comma T s r b (Then f (λ y. More f K (xs ++ y ∷ []))) (alive_then f (λ y. More f K (xs ++ y ∷ [])) L.part (λ y. more_alive f item K W made L (xs ++ y ∷ [])))
    (avoids_begins is_blank begins_a_name f (λ y. More f K (xs ++ y ∷ [])) L.begins blank_name) e (comma e)))
    (λ e. tested (eqb b 119) (λ d. rw (e, d) (by_blank bs e d h)) (λ d. rw (e, d) (halt e (λ n u q c k. d_other d n u q c k))))
  where
    comma : eqb b 44 ≡ true → Stands T s (b ∷ r) (Comma f K xs)
    comma e = narrow T s (b ∷ r) (Here f K W made xs bs) (Comma f K xs) (λ u q k. inr k) (λ u q i k. only u q i k) h
      where
        only : (u : List ℕ) (q : Query) → head u ≡ Some b → Here f K W made xs bs (length s + length u) u q → Comma f K xs (length s + length u) u q
        only [] q i k = absurd (no_head_from b i)
        only (c ∷ u) q i k = here_comma f item K W made L xs bs (length s + length (c ∷ u)) c u q (some_same c b i ∙ eqb-true b 44 e) k

    d_other : eqb b 119 ≡ false → (n : ℕ) (u : List ℕ) (q : Query) (c : ℕ) → c ≡ b → W xs n (c ∷ u) q → ⊥
    d_other d n u q c i k = let w = L.first xs n c u q k in false≢true (sym d ∙ ap (λ z. eqb z 119) (sym i) ∙ rw w refl)

    halt : eqb b 44 ≡ false → ((n : ℕ) (u : List ℕ) (q : Query) (c : ℕ) → c ≡ b → W xs n (c ∷ u) q → ⊥) → Stops T (fault.Syntax (length T - length (b ∷ r)))
    halt e not_w = stop T s (b ∷ r) (Here f K W made xs bs) (λ m. let a = after_alive (made xs) (W xs) bs m in record { more = a.more; query = a.query; holds = inl a.holds }) (λ u q i k. none u q i k) h
      where
        none : (u : List ℕ) (q : Query) → head u ≡ Some b → Here f K W made xs bs (length s + length u) u q → ⊥
        none [] q i k = no_head_from b i
        none (c ∷ u) q i k = not_w (length s + length (c ∷ u)) u q c (some_same c b i) (here_other f item K W made L xs bs (length s + length (c ∷ u)) c u q (ap (λ z. eqb z 44) (some_same c b i) ∙ e) k)

    by_blank : (ds : List ℕ) → eqb b 44 ≡ false → eqb b 119 ≡ true → Stands T s (b ∷ r) (Here f K W made xs ds) → MatchResult (if has ds then Ok (next.Where, b ∷ r) else stuck (length T) (b ∷ r)) (λ y. ComesNext f K W made T xs y.0 y.1) (λ e. Stops T e)
    by_blank [] e d i = stop T s (b ∷ r) (Here f K W made xs []) (λ m. let a = after_alive (made xs) (W xs) [] m in record { more = a.more; query = a.query; holds = inl a.holds }) (λ u q j k. none u q j k) i
      where
        none : (u : List ℕ) (q : Query) → head u ≡ Some b → Here f K W made xs [] (length s + length u) u q → ⊥
        none [] q j k = no_head_from b j
        none (c ∷ u) q j (inl k) = no_cons c u k.0
        none (c ∷ u) q j (inr k) = false≢true (sym e ∙ ap (λ z. eqb z 44) (sym (some_same c b j)) ∙ begins_comma f K xs (length s + length (c ∷ u)) (c ∷ u) q k)
    by_blank (x ∷ ds) e d i = record {
      before = s;
      left = r;
      is = ap (λ z. z ∷ r) (eqb-true b 119 d);
      stands = narrow T s (b ∷ r) (Here f K W made xs (x ∷ ds)) (λ n u p. Fin (made xs) n u p ⊎ W xs n u p) (λ u q k. inl k) (λ u q j k. only u q j k) i;
    }
      where
        only : (u : List ℕ) (q : Query) → head u ≡ Some b → Here f K W made xs (x ∷ ds) (length s + length u) u q → Fin (made xs) (length s + length u) u q ⊎ W xs (length s + length u) u q
        only u q j (inl k) = k
        only [] q j (inr k) = absurd (no_head_from b j)
        only (c ∷ u) q j (inr k) = absurd (false≢true (sym e ∙ ap (λ z. eqb z 44) (sym (some_same c b j)) ∙ begins_comma f K xs (length s + length (c ∷ u)) (c ∷ u) q k))

pub next_goes : {A : Type 0} (f : ℕ → Part A) (item : ℕ → List ℕ → Step A) (K W : List A → Lang) (made : List A → Query) → IsListed f item K W made → (xs : List A) (T s r : List ℕ) → Stands T s r (More f K xs) → MatchResult (next_in (length T) r) (λ y. ComesNext f K W made T xs y.0 y.1) (λ e. Stops T e)
unfolding next_in behind_blanks
next_goes f item K W made L xs T s r h =
    rw (has_taken r) (next_here_goes f item K W made L xs (taken_of is_blank r) T (s ++ taken_of is_blank r) (left_of is_blank r)
    (run_goes is_blank T s r (Here f K W made xs) (λ bs. here_avoids f item K W made L xs bs)
    (stands_same T s r (More f K xs) (Then (λ n. ws) (Here f K W made xs)) (more_same f item K W made L xs) h)))

abbrev next_value : Step Next → Next
next_value (Ok y) = y.0
next_value (Err e) = next.End

abbrev left_value : Step Next → List ℕ
left_value (Ok y) = y.1
left_value (Err e) = []

not_item : (step : Step Next) (left : List ℕ) → (next_value step ≡ next.Item → ⊥) → step ≡ Ok (next.Item, left) → ⊥
not_item step left h e = h (ap next_value e)

end_not_item : next.End ≡ next.Item → ⊥
end_not_item e = cc

where_not_item : next.Where ≡ next.Item → ⊥
where_not_item e = cc

-- behind a comma less is left
item_here_short : (n : ℕ) (blank : Bool) (r left : List ℕ) → next_here n blank r ≡ Ok (next.Item, left) → length left < length r
item_here_short n blank [] left e = absurd (end_not_item (ap next_value e))
item_here_short n blank (b ∷ r) left e = tested (eqb b 44)
    (λ p. let k : Ok (next.Item, behind_blanks r) ≡ Ok (next.Item, left) = rw p at e in let l : behind_blanks r ≡ left = ap left_value k in let s = short_blanks r in omega (arith, ap length l, s))
    (λ p. absurd (none blank (ap next_value (rw p at e))))
  where
    none : (blank : Bool) → next_value (if eqb b 119 then (if blank then Ok (next.Where, b ∷ r) else stuck n (b ∷ r)) else stuck n (b ∷ r)) ≡ next.Item → ⊥
    none true e = tested (eqb b 119) (λ p. where_not_item (rw p at e)) (λ p. end_not_item (rw p at e))
    none false e = tested (eqb b 119) (λ p. end_not_item (rw p at e)) (λ p. end_not_item (rw p at e))

item_short : (n : ℕ) (r left : List ℕ) → next_in n r ≡ Ok (next.Item, left) → length left < length r
unfolding next_in
item_short n r left e = let a = item_here_short n (has_blank r) (behind_blanks r) left e in let b = short_blanks r in omega (arith, a, b)

bare_44 : is_bare 44 ≡ false
unfolding is_bare
bare_44 = refl

-- what stands behind an item begins with no bare byte
more_avoids : {A : Type 0} (f : ℕ → Part A) (item : ℕ → List ℕ → Step A) (K W : List A → Lang) (made : List A → Query) → IsListed f item K W made → (xs : List A) → Avoids is_bare (More f K xs)
more_avoids f item K W made L xs n b u q e h =
    let k = (then_run is_blank (Here f K W made xs)).to n (b ∷ u) q ((more_same f item K W made L xs).to n (b ∷ u) q h) in
    go k.taken k.rest k.run.is k.run.all k.holds
  where
    go : (taken rest : List ℕ) → b ∷ u ≡ taken ++ rest → list_all is_blank taken ≡ true → Here f K W made xs taken n rest q → ⊥
    go [] [] i a k = no_cons b u i
    go [] (c ∷ rest) i a (inl k) = no_cons c rest k.0
    go [] (c ∷ rest) i a (inr k) = let z : b ≡ c = (cons_same b c u rest i).0 in false≢true (sym (apart_from is_bare 44 bare_44 b e) ∙ ap (λ d. eqb d 44) z ∙ begins_comma f K xs n (c ∷ rest) q k)
    go (c ∷ taken) rest i a k = let z : b ≡ c = (cons_same b c u (taken ++ rest) i).0 in false≢true (sym (bare_blank b e) ∙ ap is_blank z ∙ (and_parts (is_blank c) (list_all is_blank taken) a).0)

abbrev pub Listed : {A : Type 0} → List ℕ → (List A → Query) → (List A → Lang) → List A → Bool → List ℕ → Type 0
Listed T made W xs true r = AtWhere T (made xs) (W xs) r
Listed T made W xs false r = Done T (made xs)

shortens : {A : Type 0} (step : Step A) (r : List ℕ) (y : A × List ℕ) → step ≡ Ok y → Shortens step r → length y.1 ≤ length r
shortens step r y e h = let k : Shortens (Ok y) r = rw e at h in k

abbrev ItemsGo : {A : Type 0} → (ℕ → Part A) → (ℕ → List ℕ → Step A) → (List A → Lang) → (List A → Lang) → (List A → Query) → ℕ → List ℕ → Type 0
ItemsGo {A} f item K W made k T = (s r : List ℕ) (xs : List A) → length r ≤ k → Stands T s r (Then f (λ y. More f K (xs ++ y ∷ []))) → MatchResult (items_in (item (length T)) (length T) k xs r) (λ y. Listed T made W y.0.0 y.0.1 y.1) (λ e. Stops T e)

items_behind : {A : Type 0} (f : ℕ → Part A) (item : ℕ → List ℕ → Step A) (K W : List A → Lang) (made : List A → Query) (k : ℕ) (T : List ℕ) → ItemsGo f item K W made k T → (xs : List A) (t : List ℕ) → length t ≤ suc k → (w : Next) (left : List ℕ) → next_in (length T) t ≡ Ok (w, left) → ComesNext f K W made T xs w left → MatchResult (by_next (λ ys r. items_in (item (length T)) (length T) k ys r) xs w left) (λ y. Listed T made W y.0.0 y.0.1 y.1) (λ e. Stops T e)
items_behind f item K W made k T again xs t l next.Item left i c = let m = item_short (length T) t left i in again c.0 left xs (omega (arith, l, m)) c.1
items_behind f item K W made k T again xs t l next.Where left i c = c
items_behind f item K W made k T again xs t l next.End left i c = c

pub items_goes : {A : Type 0} (f : ℕ → Part A) (item : ℕ → List ℕ → Step A) (K W : List A → Lang) (made : List A → Query) → IsListed f item K W made → (k : ℕ) (T s r : List ℕ) (xs : List A) → length r ≤ k → Stands T s r (Then f (λ y. More f K (xs ++ y ∷ []))) → MatchResult (items_in (item (length T)) (length T) k xs r) (λ y. Listed T made W y.0.0 y.0.1 y.1) (λ e. Stops T e)
unfolding items_in
items_goes f item K W made L zero T s [] xs l h = stop_begins T s [] begins_a_name f (λ y. More f K (xs ++ y ∷ [])) L.begins (alive_then f (λ y. More f K (xs ++ y ∷ [])) L.part (λ y. more_alive f item K W made L (xs ++ y ∷ []))) (λ b e. absurd (no_head_from b e)) h
items_goes f item K W made L zero T s (b ∷ r) xs l h = absurd (omega (arith, l))
items_goes f item K W made L (suc k) T s r xs l h =
    match_onto (λ y. Passes T y (λ x. More f K (xs ++ x ∷ []))) (λ y. Listed T made W y.0.0 y.0.1 y.1) (λ e. Stops T e) (item (length T) r)
    (λ x r. onto (next_in (length T) r) (λ w r. by_next (λ ys r. items_in (item (length T)) (length T) k ys r) (xs ++ x ∷ []) w r))
    (L.read.goes T s r (λ y. More f K (xs ++ y ∷ [])) (λ y. more_alive f item K W made L (xs ++ y ∷ [])) (λ y. more_avoids f item K W made L (xs ++ y ∷ [])) h)
    (λ y e p. let short : length y.1 ≤ length r = shortens (item (length T) r) r y e (L.short (length T) r) in
    match_onto (λ w. ComesNext f K W made T (xs ++ y.0 ∷ []) w.0 w.1) (λ y. Listed T made W y.0.0 y.0.1 y.1) (λ e. Stops T e) (next_in (length T) y.1)
    (λ w r. by_next (λ ys r. items_in (item (length T)) (length T) k ys r) (xs ++ y.0 ∷ []) w r)
    (next_goes f item K W made L (xs ++ y.0 ∷ []) T p.before y.1 p.stands)
    (λ w i c. items_behind f item K W made k T (λ s r xs l h. items_goes f item K W made L k T s r xs l h) (xs ++ y.0 ∷ []) y.1 (omega (arith, short, l)) w.0 w.1 i c))
