-- The longest front of a text that begins a query.
use Rattle.std.proofs.Common.{◌≡◌, ℕ, zero, suc, ◌<◌, ◌≤◌, Bool, true, false, [], length, ltb, ap, take, refl, ◌∙◌, arith}
use Rattle.std.proofs.lemmas.Bool.{ltb-true, ltb-false}
use Rattle.cube_model.proofs.Members.{tested}
use Rattle.cube_query.specs.Grammar.{greatest, is_begun, syntax_at}
use Rattle.cube_query.specs.Laws.{LongestFront}

pub record IsGreatest (p : ℕ → Bool) (n k : ℕ) : Type 0 where
  pub within : k ≤ n
  pub passes : p k ≡ true
  pub no_more : (m : ℕ) → k < m → m ≤ n → p m ≡ false

none_more : (p : ℕ → Bool) (n m k : ℕ) → ((m : ℕ) → k < m → m ≤ n → p m ≡ false) → p (suc n) ≡ false → k < m → m ≤ suc n → p m ≡ false
none_more p n m k f e a b = tested (ltb n m)
    (λ t. let l = ltb-true n m t in let same : m ≡ suc n = omega (arith, l, b) in ap p same ∙ e)
    (λ t. f m a (ltb-false n m t))

pub finds_greatest : (p : ℕ → Bool) (n : ℕ) → p zero ≡ true → IsGreatest p n (greatest p n)
finds_greatest p zero h = record { within = omega arith; passes = h; no_more = λ m a b. absurd (omega (arith, a, b)) }
finds_greatest p (suc n) h = tested (p (suc n))
    (λ e. rw e (record { within = omega arith; passes = e; no_more = λ m a b. absurd (omega (arith, a, b)) }))
    (λ e. rw e (let r = finds_greatest p n h in let w = r.within in record { within = omega (arith, w); passes = r.passes; no_more = λ m a b. none_more p n m (greatest p n) r.no_more e a b }))

begun_nothing : is_begun [] ≡ true
unfolding is_begun
begun_nothing = refl

pub longest_front : LongestFront
unfolding syntax_at
longest_front text = let r = finds_greatest (λ n. is_begun (take n text)) (length text) begun_nothing in record { within = r.within; begins = r.passes; no_longer = r.no_more }
