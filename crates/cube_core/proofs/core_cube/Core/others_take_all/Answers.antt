use Rattle.std.proofs.Common.{◌≡◌, ◌∙◌, ◌<◌, ◌≤◌, ◌+◌, ◌⊎◌, inl, inr, ℕ, length, sym, subst, arith}
use Rattle.cube_core.specs.Index.{taken_count}
use Rattle.cube_core.proofs.core_cube.Core.others_take_all.Goals as goal

below_more : (P : ℕ → Type 0) (n : ℕ) → ((d : ℕ) → 1 ≤ d → d < n → P d) → P n → (d : ℕ) → 1 ≤ d → d < n + 1 → P d
below_more P n h last d some l = go (cases d n l)
  where
    cases : (a b : ℕ) → a < b + 1 → (a < b) ⊎ (b ≡ a)
    cases a b below = grind arith

    go : (d < n) ⊎ (n ≡ d) → P d
    go (inl less) = h d some less
    go (inr same) = subst P same last

pub dimensions-preserved : goal.dimensions-preserved
dimensions-preserved c = below_more (λ d. taken_count c.args.self.now c.args.request.now d ≡ length c.args.self.now.shape.points) c.dimensions.number c.dimensions.invariant
    (sym c.count.ensures ∙ c.if-count-len.false ∙ c.len.ensures.len)
