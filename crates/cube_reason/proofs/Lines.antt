-- The lines of steps and ends, and what they tell.
use Rattle.std.specs.Prelude.{codes, Some}
use Rattle.std.specs.Fmt.{decimal}
use Rattle.std.proofs.Common.{◌≡◌, ℕ, ◌^◌, ◌<◌, List, [], ◌∷◌, ◌++◌, length, drop, get_or, refl, sym, ap, ap₂, ◌∙◌, subst, arith, append_assoc}
use Rattle.std.proofs.lemmas.Fmt.{decimal_injective}
use Rattle.std.proofs.lemmas.List.{append_cancel_left}
use Rattle.cube_model.specs.Cores.{Core, IsCore}
use Rattle.cube_source.specs.Blocks.{bare}
use Rattle.cube_reason.specs.ReasonText.{place_words, origin_words, step_line, end_line}
use Rattle.cube_reason.specs.declared.reasons.End.{End}
use Rattle.cube_reason.specs.declared.reasons.Origin.{Origin}
use Rattle.cube_reason.specs.declared.reasons.Origin.TheVariants.{Entry, Own}
use Rattle.cube_reason.specs.declared.reasons.WalkStep.{WalkStep}
use Rattle.cube_reason.proofs.Feeds.{Lacks, lacks_more, lacks_by, decimal_lacks, cut_first, cut_last}
use Rattle.cube_reason.proofs.Placed.{inside, place_lacks, place_told}

-- a number of a machine word
abbrev pub IsSmall : Origin → Type 0
IsSmall (Entry n) = n < 2 ^ 64
IsSmall (Own k) = k < 2 ^ 64

-- ---- origins

-- neither a line feed nor a bracket
origin_feeds : (o : Origin) → IsSmall o → Lacks 10 (origin_words o)
origin_feeds (Entry n) few = lacks_more 10 (codes "entry ") (decimal n) (lacks_by 10 (codes "entry ") refl) (decimal_lacks 10 n (omega arith) few)
origin_feeds (Own k) few = lacks_more 10 (codes "own ") (decimal k) (lacks_by 10 (codes "own ") refl) (decimal_lacks 10 k (omega arith) few)

origin_brackets : (o : Origin) → IsSmall o → Lacks 41 (origin_words o)
origin_brackets (Entry n) few = lacks_more 41 (codes "entry ") (decimal n) (lacks_by 41 (codes "entry ") refl) (decimal_lacks 41 n (omega arith) few)
origin_brackets (Own k) few = lacks_more 41 (codes "own ") (decimal k) (lacks_by 41 (codes "own ") refl) (decimal_lacks 41 k (omega arith) few)

origin_told : (o p : Origin) → IsSmall o → IsSmall p → origin_words o ≡ origin_words p → o ≡ p
origin_told (Entry n) (Entry k) a b e = ap Entry (decimal_injective n k a b (append_cancel_left (codes "entry ") (decimal n) (decimal k) e))
origin_told (Own n) (Own k) a b e = ap Own (decimal_injective n k a b (append_cancel_left (codes "own ") (decimal n) (decimal k) e))
origin_told (Entry n) (Own k) a b e = let head : 101 ≡ 111 = ap (λ (t : List ℕ). get_or t 0 0) e in absurd (omega (arith, head))
origin_told (Own n) (Entry k) a b e = let head : 111 ≡ 101 = ap (λ (t : List ℕ). get_or t 0 0) e in absurd (omega (arith, head))

-- ---- steps

line_is : (x y rest : List ℕ) → (x ++ (y ++ 10 ∷ [])) ++ rest ≡ (x ++ y) ++ 10 ∷ rest
line_is x y rest = simp append_assoc

split_is : (f t o : List ℕ) → (f ++ 32 ∷ t) ++ 32 ∷ o ≡ (f ++ 32 ∷ []) ++ (t ++ 32 ∷ o)
split_is f t o = simp append_assoc

module _ (c : Core) (ok : IsCore c) where
  -- a step without its line feed
  step_body : WalkStep → List ℕ
  step_body x = codes "step " ++ place_words c.dims (bare c) x.from ++ 32 ∷ place_words c.dims (bare c) x.to ++ 32 ∷ origin_words x.by

  -- what stands before the second place, and what from there on
  step_front : ℕ → List ℕ
  step_front n = codes "step " ++ place_words c.dims (bare c) n ++ 32 ∷ []

  step_tail : WalkStep → List ℕ
  step_tail x = place_words c.dims (bare c) x.to ++ 32 ∷ origin_words x.by

  body_is : (x : WalkStep) (rest : List ℕ) → step_line c.dims (bare c) x ++ rest ≡ step_body x ++ 10 ∷ rest
  unfolding step_body
  body_is x rest = line_is (codes "step " ++ place_words c.dims (bare c) x.from ++ 32 ∷ place_words c.dims (bare c) x.to) (32 ∷ origin_words x.by) rest

  body_split : (x : WalkStep) → step_body x ≡ step_front x.from ++ step_tail x
  unfolding step_body step_front step_tail
  body_split x = split_is (codes "step " ++ place_words c.dims (bare c) x.from) (place_words c.dims (bare c) x.to) (origin_words x.by)

  tail_split : (x : WalkStep) → step_tail x ≡ (40 ∷ inside c x.to) ++ 41 ∷ 32 ∷ origin_words x.by
  unfolding step_tail
  tail_split x = append_assoc (40 ∷ inside c x.to) (41 ∷ []) (32 ∷ origin_words x.by)

  body_lacks : (x : WalkStep) → x.from < length c.shape.points → x.to < length c.shape.points → IsSmall x.by → Lacks 10 (step_body x)
  unfolding step_body
  body_lacks x a b few =
      lacks_more 10 (codes "step " ++ place_words c.dims (bare c) x.from ++ 32 ∷ place_words c.dims (bare c) x.to) (32 ∷ origin_words x.by)
      (lacks_more 10 (codes "step " ++ place_words c.dims (bare c) x.from) (32 ∷ place_words c.dims (bare c) x.to)
      (lacks_more 10 (codes "step ") (place_words c.dims (bare c) x.from) (lacks_by 10 (codes "step ") refl) (place_lacks c x.from ok a))
      ((λ is. absurd (omega (arith, is))), place_lacks c x.to ok b))
      ((λ is. absurd (omega (arith, is))), origin_feeds x.by few)

  -- a step is where it begins, where it leads, and what it is by
  step_same : (x y : WalkStep) → x.from ≡ y.from → x.to ≡ y.to → x.by ≡ y.by → x ≡ y
  step_same x y a b o = ap₂ (λ (f : ℕ × ℕ) (w : Origin). record { from = f.0; to = f.1; by = w }) (ap₂ (λ m n. (m, n)) a b) o

  pub step_told : (x y : WalkStep) (s t : List ℕ) → x.from < length c.shape.points → x.to < length c.shape.points → y.to < length c.shape.points → IsSmall x.by → IsSmall y.by → x.from ≡ y.from
      → step_line c.dims (bare c) x ++ s ≡ step_line c.dims (bare c) y ++ t → (x ≡ y) × (s ≡ t)
  step_told x y s t a b d p q f e =
      let far : y.from < length c.shape.points = subst (λ n. n < length c.shape.points) f a in
      let lines = cut_first 10 (step_body x) (step_body y) s t (body_lacks x a b p) (body_lacks y far d q) (sym (body_is x s) ∙ e ∙ body_is y t) in
      let tails : step_tail x ≡ step_tail y = append_cancel_left (step_front x.from) (step_tail x) (step_tail y) (sym (body_split x) ∙ lines.0 ∙ body_split y ∙ ap (λ n. step_front n ++ step_tail y) (sym f)) in
      let ends = cut_last 41 (40 ∷ inside c x.to) (40 ∷ inside c y.to) (32 ∷ origin_words x.by) (32 ∷ origin_words y.by) ((λ is. absurd (omega (arith, is))), origin_brackets x.by p) ((λ is. absurd (omega (arith, is))), origin_brackets y.by q) (sym (tail_split x) ∙ tails ∙ tail_split y) in
      let to : x.to ≡ y.to = place_told c x.to y.to ok b d (ap (drop 1) ends.0) in
      let by : x.by ≡ y.by = origin_told x.by y.by p q (ap (drop 1) ends.1) in
      (step_same x y f to by, lines.1)

-- ---- what lines begin with

pub no_step_nothing : (c : Core) (x : WalkStep) (rest : List ℕ) → step_line c.dims (bare c) x ++ rest ≡ [] → ⊥
no_step_nothing c x rest e = let head : 115 ≡ 0 = ap (λ (t : List ℕ). get_or t 0 0) e in absurd (omega (arith, head))

pub no_step_ends : (c : Core) (x : WalkStep) (z : End) (rest : List ℕ) → step_line c.dims (bare c) x ++ rest ≡ end_line c.dims (bare c) (Some z) → ⊥
no_step_ends c x z rest e = let head : 115 ≡ 101 = ap (λ (t : List ℕ). get_or t 0 0) e in absurd (omega (arith, head))

pub no_end_nothing : (c : Core) (z : End) → [] ≡ end_line c.dims (bare c) (Some z) → ⊥
no_end_nothing c z e = let head : 0 ≡ 101 = ap (λ (t : List ℕ). get_or t 0 0) e in absurd (omega (arith, head))

pub some_step : (c : Core) (x : WalkStep) → 0 < length (step_line c.dims (bare c) x)
some_step c x = omega arith
