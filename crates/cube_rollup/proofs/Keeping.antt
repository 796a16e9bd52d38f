-- The cuboids that are kept stay those at the sources of a history that goes on.
use Rattle.std.proofs.Common.{◌≡◌, ◌≢◌, ℕ, ◌<◌, Bool, true, false, List, [], ◌∷◌, ◌++◌, length, set, get_or, Option, Some, None, refl, sym, ap, ◌∙◌, subst, append-nil, get_or-set_other, get_or-set_same}
use Rattle.std.proofs.lemmas.Bool.{eqb-true, false≢true}
use Rattle.std.proofs.Math.ListN.{length-set}
use Rattle.cube_model.specs.declared.entry.Entry.{Entry}
use Rattle.cube_model.specs.declared.entry.Entry.TheVariants.{Asked}
use Rattle.cube_model.specs.declared.policy.Policy.{Policy}
use Rattle.cube_model.specs.declared.request.Request.{Request}
use Rattle.cube_model.specs.declared.request.What.{What}
use Rattle.cube_model.specs.declared.request.What.TheVariants.{Count, Measure}
use Rattle.cube_model.specs.Cores.{Core, shown}
use Rattle.cube_model.specs.Protection.{method}
use Rattle.cube_model.specs.Requests.{asks, is_measure}
use Rattle.cube_model.specs.Verdicts.{source}
use Rattle.cube_model.proofs.Histories.{source-skip}
use Rattle.cube_rollup.specs.Cuboids.{Cuboid, IsCuboidOf}
use Rattle.cube_rollup.specs.Rollups.{Rollups, entered, source_by, kept_at, IsCuboidAt, AreKept, entry_of, RollupsStand}

-- a history with nothing behind it
as_it_is : (c : Core) (p : Policy) (h : List Entry) (ks : List (Option Cuboid)) → AreKept c p h ks → AreKept c p (h ++ []) ks
as_it_is c p h ks a = subst (λ (k : List Entry). AreKept c p k ks) (sym (append-nil h)) a

-- the request has entered
pub committed : (c : Core) (p : Policy) (h : List Entry) (waits : Option Request) (r : Rollups) → RollupsStand c p h waits r → RollupsStand c p (h ++ entry_of waits) None (record { kept = entered r; next = None })
committed c p h waits r s = record { now = s.next; next = as_it_is c p (h ++ entry_of waits) (entered r) s.next }

one_measure : (w : What) (m k : ℕ) → is_measure m w ≡ true → is_measure k w ≡ true → m ≡ k
one_measure Count m k a b = absurd (false≢true a)
one_measure (Measure j) m k a b = sym (eqb-true j m a) ∙ eqb-true j k b

-- of a measure that the request does not ask for the same one is kept
skipped : (c : Core) (p : Policy) (h : List Entry) (r : Request) (m : ℕ) (k : Option Cuboid) → asks m r ≡ false → IsCuboidAt c m (kept_at (shown c p) h m) k → IsCuboidAt c m (kept_at (shown c p) (h ++ Asked r ∷ []) m) k
skipped c p h r m k off is = subst (λ (s : Option (List ℕ)). IsCuboidAt c m (source_by (method (shown c p) m) s) k) (sym (source-skip h (Asked r) m off)) is

-- A request on a lattice measure waits, and the cuboid at the source that it makes is held.
pub held : (c : Core) (p : Policy) (h : List Entry) (r : Request) (m : ℕ) (ls : List ℕ) (k : Cuboid) (old : Rollups) → AreKept c p h old.kept → asks m r ≡ true → m < length p.methods → kept_at (shown c p) (h ++ Asked r ∷ []) m ≡ Some ls → k.levels ≡ ls → k.measure ≡ m → IsCuboidOf c k
    → RollupsStand c p h (Some r) (record { kept = old.kept; next = Some k })
held c p h r m ls k old now a lt at levels measure stands = record {
  now = now;
  next = record { long = length-set old.kept k.measure (Some k) ∙ now.long; each = λ n below. place n below (asks n r) refl };
}
  where
    place : (n : ℕ) → n < length p.methods → (b : Bool) → asks n r ≡ b → IsCuboidAt c n (kept_at (shown c p) (h ++ Asked r ∷ []) n) (get_or (set old.kept k.measure (Some k)) n None)
    place n below true e = subst (λ (i : ℕ). IsCuboidAt c i (kept_at (shown c p) (h ++ Asked r ∷ []) i) (get_or (set old.kept k.measure (Some k)) i None)) (sym (one_measure r.what n m e a)) here
      where
        long : k.measure < length old.kept
        long = subst (λ (i : ℕ). i < length old.kept) (sym measure) (subst (λ (i : ℕ). m < i) (sym now.long) lt)

        there : get_or (set old.kept k.measure (Some k)) m None ≡ Some k
        there = ap (λ (i : ℕ). get_or (set old.kept k.measure (Some k)) i None) (sym measure) ∙ get_or-set_same old.kept k.measure (Some k) None long

        here : IsCuboidAt c m (kept_at (shown c p) (h ++ Asked r ∷ []) m) (get_or (set old.kept k.measure (Some k)) m None)
        here = subst (λ (o : Option (List ℕ)). IsCuboidAt c m o (get_or (set old.kept k.measure (Some k)) m None)) (sym at) (subst (IsCuboidAt c m (Some ls)) (sym there) (levels, measure, stands))
    place n below false e = subst (IsCuboidAt c n (kept_at (shown c p) (h ++ Asked r ∷ []) n)) (sym (get_or-set_other old.kept k.measure n (Some k) None apart)) (skipped c p h r n (get_or old.kept n None) e (now.each n below))
      where
        apart : n ≢ k.measure
        apart same = false≢true (sym e ∙ ap (λ (i : ℕ). asks i r) (same ∙ measure) ∙ a)

-- A request on a measure for which no cuboid is kept waits.
pub others : (c : Core) (p : Policy) (h : List Entry) (r : Request) (m : ℕ) (old : Rollups) → RollupsStand c p h None old → asks m r ≡ true → ((s : Option (List ℕ)) → source_by (method (shown c p) m) s ≡ None) → RollupsStand c p h (Some r) old
others c p h r m old stands a none = record {
  now = stands.now;
  next = record { long = stands.next.long; each = λ n below. place n below (asks n r) refl };
}
  where
    before : (n : ℕ) → n < length p.methods → IsCuboidAt c n (kept_at (shown c p) h n) (get_or (entered old) n None)
    before n below = subst (λ (k : List Entry). IsCuboidAt c n (kept_at (shown c p) k n) (get_or (entered old) n None)) (append-nil h) (stands.next.each n below)

    place : (n : ℕ) → n < length p.methods → (b : Bool) → asks n r ≡ b → IsCuboidAt c n (kept_at (shown c p) (h ++ Asked r ∷ []) n) (get_or (entered old) n None)
    place n below true e =
        let there : source_by (method (shown c p) n) (source h n) ≡ source_by (method (shown c p) n) (source (h ++ Asked r ∷ []) n) = subst (λ (i : ℕ). source_by (method (shown c p) i) (source h i) ≡ source_by (method (shown c p) i) (source (h ++ Asked r ∷ []) i)) (sym (one_measure r.what n m e a)) (none (source h m) ∙ sym (none (source (h ++ Asked r ∷ []) m))) in
        subst (λ (o : Option (List ℕ)). IsCuboidAt c n o (get_or (entered old) n None)) there (before n below)
    place n below false e = skipped c p h r n (get_or (entered old) n None) e (before n below)
