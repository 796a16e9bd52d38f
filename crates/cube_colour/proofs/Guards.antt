-- Which guarded places a change fixes.
use Rattle.std.specs.List.{find}
use Rattle.std.proofs.Common.{◌≡◌, ◌≢◌, ℕ, ◌<◌, Bool, true, false, cond, not, ◌||◌, List, refl, sym, ap, ap₂, ◌∙◌, eqb, ⊎_elim, None}
use Rattle.std.proofs.lemmas.Bool.{false≢true, cases_eq, and_cases, and_parts, eq-eqb, ne_eqb, or_left, or_right}
use Rattle.cube_model.specs.declared.link.Link.{Link}
use Rattle.cube_model.specs.Cubes.{IsIn}
use Rattle.cube_model.specs.Links.{suiting, is_free}
use Rattle.cube_model.specs.Verdicts.{fixed_by}
use Rattle.cube_model.proofs.Leasts.{fails}
use Rattle.cube_model.proofs.Members.{find_none}
use Rattle.cube_colour.specs.declared.forest.Change.{Change}
use Rattle.cube_colour.specs.declared.forest.Change.TheVariants.{Fix, Join}
use Rattle.cube_colour.specs.Forests.{Labels, is_fixed, AreLabels, AreGuarded, relabelled, fixes_guarded}
use Rattle.cube_colour.proofs.Components.{free_labels}
use Rattle.cube_colour.proofs.Nodes.{cond_eq, cond_ne}
use Rattle.cube_colour.proofs.Searches.{find_same}

-- what the roots have after a join, of two facts on roots that join by `or`
after_join : (f : ℕ → Bool) (r c p : ℕ) → cond (eqb (cond (eqb r c) p r) p) (f p || f c) (f (cond (eqb r c) p r)) ≡ cond (eqb r c || eqb r p) (f p || f c) (f r)
after_join f r c p = ⊎_elim
    (λ (e : r ≡ c). ap (λ (q : ℕ). cond (eqb q p) (f p || f c) (f q)) (cond_eq r c p r e) ∙ cond_eq p p (f p || f c) (f p) refl ∙ ap (λ (b : Bool). cond (b || eqb r p) (f p || f c) (f r)) (sym (eq-eqb r c e)))
    (λ (e : r ≢ c). ap (λ (q : ℕ). cond (eqb q p) (f p || f c) (f q)) (cond_ne r c p r e) ∙ ap (λ (b : Bool). cond (b || eqb r p) (f p || f c) (f r)) (sym (ne_eqb r c e)))
    (cases_eq r c)

or_same : (a b : Bool) → b ≡ false → (a || b) ≡ (a || a)
or_same true b e = refl
or_same false b e = e

or_comm : (a b : Bool) → (a || b) ≡ (b || a)
or_comm true true = refl
or_comm true false = refl
or_comm false true = refl
or_comm false false = refl

-- the places of the one root or the other are those that become fixed
module _ (guards : List ℕ) (l : Labels) (are : AreGuarded guards l) where
  pub fixed_root : (r g : ℕ) → IsIn g guards → (eqb (l.root g) r || eqb (l.root g) r) ≡ is_fixed (relabelled (Fix r) l) g
  fixed_root r g k = sym (or_same (eqb (l.root g) r) (is_fixed l g) (are.free g k))

  pub fixed_roots : (c p : ℕ) (b : Bool) → fixes_guarded (Join c p b) l ≡ true → (g : ℕ) → IsIn g guards → (eqb (l.root g) c || eqb (l.root g) p) ≡ is_fixed (relabelled (Join c p b) l) g
  fixed_roots c p b e g k = sym (after_join l.fixed (l.root g) c p ∙ go (eqb (l.root g) c || eqb (l.root g) p) (l.fixed p || l.fixed c) (l.fixed (l.root g)) (or_comm (l.fixed p) (l.fixed c) ∙ (and_parts (l.fixed c || l.fixed p) (l.guarded c || l.guarded p) e).0) (are.free g k))
    where
      go : (t u v : Bool) → u ≡ true → v ≡ false → cond t u v ≡ t
      go true u v a d = a
      go false u v a d = d

  -- where no guarded component is fixed, no guarded place is
  pub none_fixed : (change : Change) → fixes_guarded change l ≡ false → (g : ℕ) → IsIn g guards → is_fixed (relabelled change l) g ≡ false
  none_fixed (Fix r) e g k = ⊎_elim
      (λ (t : l.root g ≡ r). absurd (false≢true (sym e ∙ ap l.guarded (sym t) ∙ are.has g k)))
      (λ (t : l.root g ≢ r). ap₂ (λ (u v : Bool). u || v) (ne_eqb (l.root g) r t) (are.free g k))
      (cases_eq (l.root g) r)
  none_fixed (Join c p b) e g k = after_join l.fixed (l.root g) c p ∙ ⊎_elim
      (λ (t : l.root g ≡ c). at (eqb (l.root g) c || eqb (l.root g) p) (not_fixed (or_left (l.guarded c) (l.guarded p) (ap l.guarded (sym t) ∙ are.has g k))))
      (λ (t : l.root g ≢ c). ⊎_elim
      (λ (u : l.root g ≡ p). at (eqb (l.root g) c || eqb (l.root g) p) (not_fixed (or_right (l.guarded c) (l.guarded p) (ap l.guarded (sym u) ∙ are.has g k))))
      (λ (u : l.root g ≢ p). ap₂ (λ (x y : Bool). cond (x || y) (l.fixed p || l.fixed c) (l.fixed (l.root g))) (ne_eqb (l.root g) c t) (ne_eqb (l.root g) p u) ∙ are.free g k)
      (cases_eq (l.root g) p))
      (cases_eq (l.root g) c)
    where
      not_fixed : (l.guarded c || l.guarded p) ≡ true → (l.fixed p || l.fixed c) ≡ false
      not_fixed t = ⊎_elim
          (λ (u : (l.fixed c || l.fixed p) ≡ false). or_comm (l.fixed p) (l.fixed c) ∙ u)
          (λ (u : (l.guarded c || l.guarded p) ≡ false). absurd (false≢true (sym u ∙ t)))
          (and_cases (l.fixed c || l.fixed p) (l.guarded c || l.guarded p) e)

      at : (t : Bool) → (l.fixed p || l.fixed c) ≡ false → cond t (l.fixed p || l.fixed c) (l.fixed (l.root g)) ≡ false
      at true u = u
      at false u = are.free g k

  -- the search finds nothing, or the first place
  pub search_none : (change : Change) → fixes_guarded change l ≡ false → None ≡ find (is_fixed (relabelled change l)) guards
  search_none change e = sym (fails (is_fixed (relabelled change l)) guards (none_fixed change e))

  pub search_root : (r : ℕ) → find (λ g. eqb (l.root g) r || eqb (l.root g) r) guards ≡ find (is_fixed (relabelled (Fix r) l)) guards
  search_root r = find_same (λ g. eqb (l.root g) r || eqb (l.root g) r) (is_fixed (relabelled (Fix r) l)) guards (fixed_root r)

  pub search_roots : (c p : ℕ) (b : Bool) → fixes_guarded (Join c p b) l ≡ true → find (λ g. eqb (l.root g) c || eqb (l.root g) p) guards ≡ find (is_fixed (relabelled (Join c p b) l)) guards
  search_roots c p b e = find_same (λ g. eqb (l.root g) c || eqb (l.root g) p) (is_fixed (relabelled (Join c p b) l)) guards (fixed_roots c p b e)

  -- where none is found they stay guarded and free
  pub guarded_after : (change : Change) → find (is_fixed (relabelled change l)) guards ≡ None → AreGuarded guards (relabelled change l)
  guarded_after change none = record { has = has change; free = λ g k. find_none (is_fixed (relabelled change l)) g guards none k }
    where
      has : (change : Change) → (g : ℕ) → IsIn g guards → (relabelled change l).guarded ((relabelled change l).root g) ≡ true
      has (Fix r) g k = are.has g k
      has (Join c p b) g k = after_join l.guarded (l.root g) c p ∙ ⊎_elim
          (λ (t : l.root g ≡ c). at (eqb (l.root g) c || eqb (l.root g) p) (or_right (l.guarded p) (l.guarded c) (ap l.guarded (sym t) ∙ are.has g k)))
          (λ (t : l.root g ≢ c). ⊎_elim
          (λ (u : l.root g ≡ p). at (eqb (l.root g) c || eqb (l.root g) p) (or_left (l.guarded p) (l.guarded c) (ap l.guarded (sym u) ∙ are.has g k)))
          (λ (u : l.root g ≢ p). ap₂ (λ (x y : Bool). cond (x || y) (l.guarded p || l.guarded c) (l.guarded (l.root g))) (ne_eqb (l.root g) c t) (ne_eqb (l.root g) p u) ∙ are.has g k)
          (cases_eq (l.root g) p))
          (cases_eq (l.root g) c)
        where
          at : (t : Bool) → (l.guarded p || l.guarded c) ≡ true → cond t (l.guarded p || l.guarded c) (l.guarded (l.root g)) ≡ true
          at true u = u
          at false u = are.has g k

-- the first guarded place that is not free is the first that is fixed
pub fixed_first : (n : ℕ) (kept : List Link) (l : Labels) (guards : List ℕ) → AreLabels n kept l → ((g : ℕ) → IsIn g guards → g < n) → fixed_by (suiting n kept) guards ≡ find (is_fixed l) guards
fixed_first n kept l guards are below = find_same (λ i. not (is_free n kept i)) (is_fixed l) guards (λ g k. ap not (free_labels n kept l are g (below g k)) ∙ twice (is_fixed l g))
  where
    twice : (b : Bool) → not (not b) ≡ b
    twice true = refl
    twice false = refl
