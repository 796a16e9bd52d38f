-- The finest of the open cuboids, where those above one that is known to be open are passed over.
use Rattle.std.specs.Prelude.{◌+◌}
use Rattle.std.proofs.Common.{◌≡◌, ℕ, zero, suc, ◌<◌, ◌≤◌, ◌⊎◌, inl, inr, Bool, true, false, cond, not, ◌&&◌, List, [], ◌∷◌, ◌++◌, take, filter, refl, sym, ap, ap₂, ◌∙◌, subst, arith, append-nil}
use Rattle.std.proofs.lemmas.Bool.{false≢true, and_parts, and_from, not-true}
use Rattle.std.proofs.lemmas.List.Elements.{filter-append}
use Rattle.cube_model.specs.Cubes.{same, is_finer, IsIn}
use Rattle.cube_model.specs.Safe.{has_finer}
use Rattle.cube_model.proofs.Finer.{is_finer_trans}
use Rattle.cube_model.proofs.Members.{tested, IsIn-filter, filter_has, IsIn-append, append_left, append_right, same_eq}
use Rattle.cube_model.proofs.Walks.{any_from, any_has}
use Rattle.cube_advise.proofs.Opening.{sum_levels, sum_finer, sum_less}

abbrev finer_test : List ℕ → List ℕ → Bool
finer_test c d = is_finer d c && not (same d c)

-- what is finer than one that is finer is so itself
finer_on : (e d c : List ℕ) → finer_test d e ≡ true → finer_test c d ≡ true → finer_test c e ≡ true
finer_on e d c p q =
    let a = and_parts (is_finer e d) (not (same e d)) p in
    let b = and_parts (is_finer d c) (not (same d c)) q in
    and_from (is_finer e c) (not (same e c)) (is_finer_trans e d c a.0 b.0) (tested (same e c)
    (λ s. let x : sum_levels e < sum_levels d = sum_less e d a.0 (not-true (same e d) a.1) in
    let y : sum_levels d ≤ sum_levels c = sum_finer d c b.0 in
    let z : sum_levels e ≡ sum_levels c = ap sum_levels (same_eq e c s) in
    absurd (omega arith))
    (λ s. ap not s))

-- where more is listed, what has a finer one keeps one
more_finer : (cs ds : List (List ℕ)) (c : List ℕ) → ((d : List ℕ) → IsIn d cs → IsIn d ds) → has_finer cs c ≡ true → has_finer ds c ≡ true
more_finer cs ds c all e = let a = any_from (finer_test c) cs e in any_has (finer_test c) a.0 ds (all a.0 a.1) a.2

-- Of some open cuboids, these are known: each of the others is above one of them, and by a test they are what all are.
pub record Known (q : List ℕ → Bool) (opens found : List (List ℕ)) : Type 0 where
  pub within : (c : List ℕ) → IsIn c found → IsIn c opens
  pub covered : (c : List ℕ) → IsIn c opens → IsIn c found ⊎ (has_finer found c ≡ true)
  pub alike : filter q found ≡ filter q opens

pub known_start : (q : List ℕ → Bool) → Known q [] []
known_start q = record { within = λ c k. k; covered = λ c k. inl k; alike = refl }

-- an open one that is above a known one is passed over
passed : (q : List ℕ → Bool) (opens found : List (List ℕ)) (x : List ℕ) → has_finer found x ≡ true → q x ≡ false → Known q opens found → Known q (opens ++ x ∷ []) found
passed q opens found x finer misses known = record {
  within = λ c k. append_left c opens (x ∷ []) (known.within c k);
  covered = λ c k. cover c (IsIn-append c opens (x ∷ []) k);
  alike = known.alike ∙ sym (filter-append q opens (x ∷ []) ∙ ap (λ (b : Bool). filter q opens ++ cond b (x ∷ []) []) misses ∙ append-nil (filter q opens));
}
  where
    cover : (c : List ℕ) → IsIn c opens ⊎ IsIn c (x ∷ []) → IsIn c found ⊎ (has_finer found c ≡ true)
    cover c (inl k) = known.covered c k
    cover c (inr (inl e)) = inr (subst (λ (y : List ℕ). has_finer found y ≡ true) e finer)
    cover c (inr (inr k)) = absurd k

-- another open one becomes known
added : (q : List ℕ → Bool) (opens found : List (List ℕ)) (x : List ℕ) → Known q opens found → Known q (opens ++ x ∷ []) (found ++ x ∷ [])
added q opens found x known = record {
  within = λ c k. inside c (IsIn-append c found (x ∷ []) k);
  covered = λ c k. cover c (IsIn-append c opens (x ∷ []) k);
  alike = filter-append q found (x ∷ []) ∙ ap (λ (fs : List (List ℕ)). fs ++ filter q (x ∷ [])) known.alike ∙ sym (filter-append q opens (x ∷ []));
}
  where
    inside : (c : List ℕ) → IsIn c found ⊎ IsIn c (x ∷ []) → IsIn c (opens ++ x ∷ [])
    inside c (inl k) = append_left c opens (x ∷ []) (known.within c k)
    inside c (inr k) = append_right c opens (x ∷ []) k

    still : (c : List ℕ) → IsIn c found ⊎ (has_finer found c ≡ true) → IsIn c (found ++ x ∷ []) ⊎ (has_finer (found ++ x ∷ []) c ≡ true)
    still c (inl k) = inl (append_left c found (x ∷ []) k)
    still c (inr e) = inr (more_finer found (found ++ x ∷ []) c (λ d k. append_left d found (x ∷ []) k) e)

    cover : (c : List ℕ) → IsIn c opens ⊎ IsIn c (x ∷ []) → IsIn c (found ++ x ∷ []) ⊎ (has_finer (found ++ x ∷ []) c ≡ true)
    cover c (inl k) = still c (known.covered c k)
    cover c (inr k) = inl (append_right c found (x ∷ []) k)

-- one more cuboid was looked at: it became known where it is open and above no known one
known_more : (p q : List ℕ → Bool) (seen found new : List (List ℕ)) (x : List ℕ) (b : Bool) → (has_finer found x ≡ true → q x ≡ false) → b ≡ (not (has_finer found x) && p x) → new ≡ cond b (found ++ x ∷ []) found → Known q (filter p seen) found → Known q (filter p (seen ++ x ∷ [])) new
known_more p q seen found new x b misses is put known =
    subst (λ (o : List (List ℕ)). Known q o new) (sym (filter-append p seen (x ∷ [])))
    (go (has_finer found x) (p x) refl (put ∙ ap (λ (t : Bool). cond t (found ++ x ∷ []) found) is))
  where
    go : (f o : Bool) → has_finer found x ≡ f → new ≡ cond (not f && o) (found ++ x ∷ []) found → Known q (filter p seen ++ cond o (x ∷ []) []) new
    go true true e n = subst (λ (ns : List (List ℕ)). Known q (filter p seen ++ x ∷ []) ns) (sym n) (passed q (filter p seen) found x e (misses e) known)
    go false true e n = subst (λ (ns : List (List ℕ)). Known q (filter p seen ++ x ∷ []) ns) (sym n) (added q (filter p seen) found x known)
    go true false e n = subst (λ (ns : List (List ℕ)). Known q (filter p seen ++ []) ns) (sym n) (subst (λ (os : List (List ℕ)). Known q os found) (sym (append-nil (filter p seen))) known)
    go false false e n = subst (λ (ns : List (List ℕ)). Known q (filter p seen ++ []) ns) (sym n) (subst (λ (os : List (List ℕ)). Known q os found) (sym (append-nil (filter p seen))) known)

take_in : {X : Type 0} (x : X) (n : ℕ) (xs : List X) → IsIn x (take n xs) → IsIn x xs
take_in x zero xs k = absurd k
take_in x (suc n) [] k = k
take_in x (suc n) (y ∷ ys) (inl e) = inl e
take_in x (suc n) (y ∷ ys) (inr k) = inr (take_in x n ys k)

-- the test of the finest among all open ones
abbrev pub is_least : (List ℕ → Bool) → List (List ℕ) → List ℕ → Bool
is_least p all c = not (has_finer (filter p all) c)

-- the same among the first so many of all
pub known_next : (p : List ℕ → Bool) (all found new : List (List ℕ)) (n : ℕ) (x : List ℕ) (b : Bool) → take (n + 1) all ≡ take n all ++ x ∷ [] → b ≡ (not (has_finer found x) && p x) → new ≡ cond b (found ++ x ∷ []) found → Known (is_least p all) (filter p (take n all)) found → Known (is_least p all) (filter p (take (n + 1) all)) new
known_next p all found new n x b more is put known =
    subst (λ (seen : List (List ℕ)). Known (is_least p all) (filter p seen) new) (sym more)
    (known_more p (is_least p all) (take n all) found new x b
    (λ e. ap not (more_finer found (filter p all) x (λ d k. let a = IsIn-filter p d (take n all) (known.within d k) in filter_has p d all a.0 (take_in d n all a.1)) e))
    is put known)

filter_alike : (p q : List ℕ → Bool) (xs : List (List ℕ)) → ((x : List ℕ) → p x ≡ q x) → filter p xs ≡ filter q xs
filter_alike p q [] e = refl
filter_alike p q (x ∷ xs) e = ap₂ (λ (b : Bool) (ys : List (List ℕ)). cond b (x ∷ ys) ys) (e x) (filter_alike p q xs e)

-- the known ones that no other is finer than are the finest of all
pub known_finest : (p : List ℕ → Bool) (all found : List (List ℕ)) → Known (is_least p all) (filter p all) found → filter (λ c. not (has_finer found c)) found ≡ filter (is_least p all) (filter p all)
known_finest p all found known = filter_alike (λ c. not (has_finer found c)) (is_least p all) found (λ c. ap not (alike c)) ∙ known.alike
  where
    below : (c d : List ℕ) → finer_test c d ≡ true → IsIn d found ⊎ (has_finer found d ≡ true) → has_finer found c ≡ true
    below c d e (inl k) = any_has (finer_test c) d found k e
    below c d e (inr f) = let a = any_from (finer_test d) found f in any_has (finer_test c) a.0 found a.1 (finer_on a.0 d c a.2 e)

    alike : (c : List ℕ) → has_finer found c ≡ has_finer (filter p all) c
    alike c = tested (has_finer (filter p all) c)
        (λ e. (let a = any_from (finer_test c) (filter p all) e in below c a.0 a.2 (known.covered a.0 a.1)) ∙ sym e)
        (λ e. tested (has_finer found c) (λ f. absurd (false≢true (sym e ∙ more_finer found (filter p all) c known.within f))) (λ f. f ∙ sym e))
