-- Which places and cells of a measure are protected.
use Rattle.std.specs.List.{list_any}
use Rattle.std.proofs.Common.{◌≡◌, ℕ, Bool, true, false, cond, ◌&&◌, ◌||◌, List, [], ◌∷◌, filter, refl, sym, ap, ◌∙◌, eqb}
use Rattle.cube_model.specs.declared.policy.Object.{Object}
use Rattle.cube_model.specs.Cubes.{Public, core}
use Rattle.cube_model.specs.Protection.{guards, is_guarded}
use Rattle.cube_source.specs.Objects.{of_measure}

none_kept : (m : ℕ) (os : List Object) → list_any (λ (o : Object). eqb o.measure m) os ≡ false → of_measure m os ≡ []
none_kept m [] e = refl
none_kept m (o ∷ os) e = go (eqb o.measure m) e (none_kept m os)
  where
    go : (b : Bool) → (b || list_any (λ (o : Object). eqb o.measure m) os) ≡ false → (list_any (λ (o : Object). eqb o.measure m) os ≡ false → of_measure m os ≡ []) → cond b (o ∷ of_measure m os) (of_measure m os) ≡ []
    go true q r = absurd (cc)
    go false q r = r q

pub guarded_none : (g : Public) (m : ℕ) (os : List Object) (i : ℕ) → list_any (λ (o : Object). eqb o.measure m) os ≡ false → true ≡ is_guarded g (of_measure m os) i
guarded_none g m os i e = sym (ap (λ (xs : List Object). is_guarded g xs i) (none_kept m os e))

some_guarded : (g : Public) (os : List Object) (i : ℕ) (b : Bool) → (os ≡ [] → ⊥) → list_any (λ o. guards g o (core g) i) os ≡ b → b ≡ is_guarded g os i
some_guarded g [] i b d e = absurd (d refl)
some_guarded g (o ∷ os) i b d e = sym e

kept_some : (m : ℕ) (os : List Object) → list_any (λ (o : Object). eqb o.measure m) os ≡ true → of_measure m os ≡ [] → ⊥
kept_some m [] e = λ q. absurd (cc)
kept_some m (o ∷ os) e = go (eqb o.measure m) e (kept_some m os)
  where
    go : (b : Bool) → (b || list_any (λ (o : Object). eqb o.measure m) os) ≡ true → (list_any (λ (o : Object). eqb o.measure m) os ≡ true → of_measure m os ≡ [] → ⊥) → cond b (o ∷ of_measure m os) (of_measure m os) ≡ [] → ⊥
    go true q r = λ z. absurd (cc)
    go false q r = r q

pub any_kept : {X : Type 0} (p t : X → Bool) (xs : List X) → list_any (λ x. t x && p x) xs ≡ list_any p (filter t xs)
any_kept p t [] = refl
any_kept p t (x ∷ xs) = step (t x) (list_any (λ x. t x && p x) xs) (filter t xs) (any_kept p t xs)
  where
    step : (b r : Bool) (rest : List _) → r ≡ list_any p rest → ((b && p x) || r) ≡ list_any p (cond b (x ∷ rest) rest)
    step true r rest e = ap (λ (z : Bool). p x || z) e
    step false r rest e = e

pub guarded_some : (g : Public) (m : ℕ) (os : List Object) (i : ℕ) (b : Bool) → list_any (λ (o : Object). eqb o.measure m) os ≡ true → b ≡ list_any (λ (o : Object). eqb o.measure m && guards g o (core g) i) os → b ≡ is_guarded g (of_measure m os) i
guarded_some g m os i b e h = some_guarded g (of_measure m os) i b (kept_some m os e) (sym (h ∙ any_kept (λ (o : Object). guards g o (core g) i) (λ (o : Object). eqb o.measure m) os))
