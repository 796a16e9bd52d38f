-- The phrases of statuses.
use Rattle.std.proofs.Common.{◌≡◌, ◌≤◌, ℕ, Bool, true, false, ◌==◌, ◌||◌, List, [], ◌∷◌, length, refl, subst, arith, Some, lit≤, lit<, ◌<◌}
use Rattle.std.specs.List.{list_any, AllByRecursion}
use Rattle.std.proofs.lemmas.Bool.Decides.{nat_tests}
use Rattle.http.specs.StatusCode.{IsStatusCode, reason_phrase}
use Rattle.cube_http.specs.Responses.{has_phrase, phrase}

-- a number that some number of a list is
any_is : (P : ℕ → Type 0) (xs : List ℕ) (s : ℕ) → list_any (λ x. x == s) xs ≡ true → AllByRecursion P xs → P s
any_is P [] s e all = absurd (let clash : false ≡ true = e in cc)
any_is P (x ∷ xs) s e all = by (x == s) refl e (λ f. any_is P xs s f all.1)
  where
    by : (t : Bool) → (x == s) ≡ t → (t || list_any (λ x. x == s) xs) ≡ true → (list_any (λ x. x == s) xs ≡ true → P s) → P s
    by true t f others = let same : x ≡ s = grind (arith, nat_tests) in subst P same all.0
    by false t f others = others f

-- the phrase of a status is the one of the standard, and short
pub record Phrased (s : ℕ) : Type 0 where
  pub code : IsStatusCode s
  pub text : reason_phrase s ≡ Some (phrase s)
  pub short : length (phrase s) ≤ 31

phrased_at : (s : ℕ) → 100 ≤ s → s < 1000 → reason_phrase s ≡ Some (phrase s) → length (phrase s) ≤ 31 → Phrased s
phrased_at s low high is short = record { code = (low, high); text = is; short = short }

pub phrased : (s : ℕ) → has_phrase s ≡ true → Phrased s
unfolding phrase
phrased s e = any_is Phrased (200 ∷ 400 ∷ 403 ∷ 404 ∷ 405 ∷ 411 ∷ 413 ∷ 431 ∷ 500 ∷ 503 ∷ []) s e (phrased_at 200 (lit≤ tt) (lit< tt) refl (lit≤ tt), (phrased_at 400 (lit≤ tt) (lit< tt) refl (lit≤ tt), (phrased_at 403 (lit≤ tt) (lit< tt) refl (lit≤ tt), (phrased_at 404 (lit≤ tt) (lit< tt) refl (lit≤ tt), (phrased_at 405 (lit≤ tt) (lit< tt) refl (lit≤ tt), (phrased_at 411 (lit≤ tt) (lit< tt) refl (lit≤ tt), (phrased_at 413 (lit≤ tt) (lit< tt) refl (lit≤ tt), (phrased_at 431 (lit≤ tt) (lit< tt) refl (lit≤ tt), (phrased_at 500 (lit≤ tt) (lit< tt) refl (lit≤ tt), (phrased_at 503 (lit≤ tt) (lit< tt) refl (lit≤ tt), tt))))))))))
