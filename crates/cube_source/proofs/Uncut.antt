-- The first uncut cell, by the method of a measure.
use Rattle.std.specs.List.{list_any, flat_map}
use Rattle.std.specs.Option.{option_map}
use Rattle.std.proofs.Common.{◌≡◌, ℕ, ◌<◌, inl, inr, Bool, true, false, cond, not, ◌&&◌, List, [], ◌∷◌, length, map, filter, find, get_or, Option, Some, None, refl, sym, ap, ap₂, ◌∙◌}
use Rattle.std.proofs.lemmas.List.{length-map}
use Rattle.cube_model.specs.declared.answer.Row.{Row}
use Rattle.cube_model.specs.declared.cell.Cell.{Cell}
use Rattle.cube_model.specs.declared.policy.Method.{Method}
use Rattle.cube_model.specs.declared.policy.Method.TheVariants.{Plain, Lattice, Parity}
use Rattle.cube_model.specs.declared.policy.Object.{Object}
use Rattle.cube_model.specs.declared.policy.Policy.{Policy}
use Rattle.cube_model.specs.Cores.{Core, IsCore, shown, world}
use Rattle.cube_model.specs.Cubes.{key_at, core, covers, places, Each, IsIn}
use Rattle.cube_model.specs.Dims.{Dims, NamedMeasure}
use Rattle.cube_model.specs.Policies.{IsObject}
use Rattle.cube_model.specs.Protection.{has_fewer, under, same_cell, each_once, core_cell, is_guarded, guarded, protected_by, protected, cutting_pairs, is_cut, uncut}
use Rattle.cube_model.specs.Requests.{rows}
use Rattle.cube_model.proofs.Filled.{cores_are_worlds}
use Rattle.cube_model.proofs.Members.{IsIn-filter, filter_has, same_refl}
use Rattle.cube_model.proofs.Objects.{same_cell_eq}
use Rattle.cube_model.proofs.Orders.{place_of}
use Rattle.cube_model.proofs.Parities.{core_alone}
use Rattle.cube_model.proofs.Sources.{place_below}
use Rattle.cube_model.proofs.Walks.{any_from, any_has, same_truth}
use Rattle.cube_source.specs.Blocks.{bare, whole, is_mixed, is_parted, AreBlocks, AreFlags}
use Rattle.cube_source.specs.Objects.{of_measure, IsPlaced}
use Rattle.cube_source.proofs.Cuts.{parted_is, cut_is}

-- ---- objects

pub placed : (s : Dims) (p : Policy) (os : List Object) → Each (IsObject s p) os → Each (IsPlaced s) os
placed s p [] h = tt
placed s p (o ∷ os) h = (record { levels = h.0.levels; slice = h.0.slice }, placed s p os h.1)

-- ---- searches

pub find_alike : {X : Type 0} (p q : X → Bool) (xs : List X) → ((x : X) → p x ≡ q x) → find p xs ≡ find q xs
find_alike p q [] h = refl
find_alike p q (x ∷ xs) h = ap₂ (λ (b : Bool) (o : Option _). cond b (Some x) o) (h x) (find_alike p q xs h)

-- a search passes over what fails
find_rest : (p keep : Cell → Bool) (ts : List Cell) → ((t : Cell) → keep t ≡ false → p t ≡ false) → find p (filter keep ts) ≡ find p ts
find_rest p keep [] h = refl
find_rest p keep (t ∷ ts) h = go (keep t) refl (find_rest p keep ts h)
  where
    go : (b : Bool) → keep t ≡ b → find p (filter keep ts) ≡ find p ts → find p (cond b (t ∷ filter keep ts) (filter keep ts)) ≡ cond (p t) (Some t) (find p ts)
    go true e r = ap (cond (p t) (Some t)) r
    go false e r = r ∙ sym (ap (λ (b : Bool). cond b (Some t) (find p ts)) (h t e))

not_false : (b : Bool) → not b ≡ false → b ≡ true
not_false true e = refl
not_false false e = sym e

-- a search finds among cells that stand once what it finds among all
pub find_once : (p : Cell → Bool) (ts : List Cell) → find p (each_once ts) ≡ find p ts
find_once p [] = refl
find_once p (t ∷ ts) = go (p t) refl (find_once p ts)
  where
    go : (b : Bool) → p t ≡ b → find p (each_once ts) ≡ find p ts → cond (p t) (Some t) (find p (filter (λ s. not (same_cell t s)) (each_once ts))) ≡ cond (p t) (Some t) (find p ts)
    go true e r = ap (λ (b : Bool). cond b (Some t) (find p (filter (λ s. not (same_cell t s)) (each_once ts)))) e ∙ sym (ap (λ (b : Bool). cond b (Some t) (find p ts)) e)
    go false e r = ap (cond (p t) (Some t)) (find_rest p (λ s. not (same_cell t s)) (each_once ts) (λ s f. ap p (sym (same_cell_eq t s (not_false (same_cell t s) f))) ∙ e) ∙ r)

-- ---- one policy or another

pub cut_bare : (c : Core) (p : Policy) (ls : List ℕ) (t : Cell) → is_cut (bare c) ls t ≡ is_cut (shown c p) ls t
unfolding cutting_pairs key_at
cut_bare c p ls t = refl

pub under_bare : (c : Core) (p : Policy) (os : List Object) → flat_map (under (bare c)) os ≡ flat_map (under (shown c p)) os
unfolding key_at
under_bare c p os = refl

pub guarded_bare : (c : Core) (p : Policy) (m : ℕ) → map (core_cell (bare c)) (filter (is_guarded (bare c) (of_measure m p.objects)) (places (bare c))) ≡ map (core_cell (shown c p)) (guarded (shown c p) m)
unfolding key_at
guarded_bare c p m = refl

pub pairs_bare : (c : Core) (p : Policy) (ls : List ℕ) (t : Cell) → cutting_pairs (bare c) ls t ≡ cutting_pairs (shown c p) ls t
unfolding cutting_pairs key_at
pairs_bare c p ls t = refl

pub covers_bare : (c : Core) (p : Policy) (t : Cell) (i : ℕ) → covers (bare c) t i ≡ covers (shown c p) t i
unfolding key_at
covers_bare c p t i = refl

pub fewer_bare : (c : Core) (p : Policy) (fewer : Option ℕ) (t : Cell) → has_fewer (bare c) fewer t ≡ has_fewer (shown c p) fewer t
unfolding key_at
fewer_bare c p fewer t = refl

-- ---- the methods

by_method : (c : Core) (p : Policy) (ls : List ℕ) (m : ℕ) (way : Method) → get_or p.methods m Plain ≡ way → uncut (shown c p) ls m ≡ find (λ t. not (is_cut (shown c p) ls t)) (protected_by way (shown c p) m)
unfolding protected
by_method c p ls m way e = ap (λ (w : Method). find (λ t. not (is_cut (shown c p) ls t)) (protected_by w (shown c p) m)) e

pub plain_uncut : (c : Core) (p : Policy) (ls : List ℕ) (m : ℕ) → get_or p.methods m Plain ≡ Plain → None ≡ uncut (shown c p) ls m
plain_uncut c p ls m e = sym (by_method c p ls m Plain e)

uncut_alike : (c : Core) (p : Policy) (ls : List ℕ) (ts : List Cell) → find (λ t. not (is_parted (bare c) (rows (bare c) (whole ls)) t)) ts ≡ find (λ t. not (is_cut (shown c p) ls t)) ts
uncut_alike c p ls ts = find_alike (λ t. not (is_parted (bare c) (rows (bare c) (whole ls)) t)) (λ t. not (is_cut (shown c p) ls t)) ts (λ t. ap not (cut_is (bare c) ls t ∙ cut_bare c p ls t))

pub lattice_uncut : (c : Core) (p : Policy) (ls : List ℕ) (m : ℕ) (blocks : List Row) → get_or p.methods m Plain ≡ Lattice → blocks ≡ rows (bare c) (whole ls)
    → find (λ t. not (is_parted (bare c) blocks t)) (flat_map (under (bare c)) (of_measure m p.objects)) ≡ uncut (shown c p) ls m
lattice_uncut c p ls m blocks e is =
    ap (λ (bs : List Row). find (λ t. not (is_parted (bare c) bs t)) (flat_map (under (bare c)) (of_measure m p.objects))) is
    ∙ uncut_alike c p ls (flat_map (under (bare c)) (of_measure m p.objects))
    ∙ ap (find (λ t. not (is_cut (shown c p) ls t))) (under_bare c p (of_measure m p.objects))
    ∙ sym (find_once (λ t. not (is_cut (shown c p) ls t)) (flat_map (under (shown c p)) (of_measure m p.objects)))
    ∙ sym (by_method c p ls m Lattice e)

pub parity_uncut : (c : Core) (p : Policy) (ls : List ℕ) (m : ℕ) (blocks : List Row) → get_or p.methods m Plain ≡ Parity → blocks ≡ rows (bare c) (whole ls)
    → find (λ t. not (is_parted (bare c) blocks t)) (map (core_cell (bare c)) (filter (is_guarded (bare c) (of_measure m p.objects)) (places (bare c)))) ≡ uncut (shown c p) ls m
parity_uncut c p ls m blocks e is =
    ap (λ (bs : List Row). find (λ t. not (is_parted (bare c) bs t)) (map (core_cell (bare c)) (filter (is_guarded (bare c) (of_measure m p.objects)) (places (bare c))))) is
    ∙ uncut_alike c p ls (map (core_cell (bare c)) (filter (is_guarded (bare c) (of_measure m p.objects)) (places (bare c))))
    ∙ ap (find (λ t. not (is_cut (shown c p) ls t))) (guarded_bare c p m)
    ∙ sym (by_method c p ls m Parity e)

-- ---- core cells

-- a policy with a method for each measure
open_policy : Core → Policy
open_policy c = record { methods = map (λ (m : NamedMeasure). Plain) c.dims.measures; objects = [] }

pub alone : (c : Core) (i k : ℕ) → IsCore c → i < length c.shape.points → k < length c.shape.points → covers (bare c) (core_cell (bare c) i) k ≡ true → k ≡ i
unfolding key_at open_policy
alone c i k ok a b e = core_alone (world c (open_policy c)) i k (cores_are_worlds c (open_policy c) ok (length-map c.dims.measures (λ (m : NamedMeasure). Plain))) a b e

-- a core cell is parted where its place is flagged
flag_parted : (c : Core) (blocks : List Row) (flags : List Bool) (i : ℕ) → IsCore c → AreBlocks (length c.shape.points) blocks → AreFlags (length c.shape.points) (is_mixed (bare c) (core (bare c)) blocks) flags → i < length c.shape.points
    → get_or flags i false ≡ is_parted (bare c) blocks (core_cell (bare c) i)
flag_parted c blocks flags i ok are f l =
    same_truth (get_or flags i false) (list_any (λ j. get_or flags j false) (filter (covers (bare c) (core_cell (bare c) i)) (places (bare c))))
    (λ e. any_has (λ j. get_or flags j false) i (filter (covers (bare c) (core_cell (bare c) i)) (places (bare c))) (filter_has (covers (bare c) (core_cell (bare c) i)) i (places (bare c)) (same_refl (key_at (bare c) (core (bare c)) i)) (place_of (bare c) i l)) e)
    (λ e.
    let a = any_from (λ j. get_or flags j false) (filter (covers (bare c) (core_cell (bare c) i)) (places (bare c))) e in
    let b = IsIn-filter (covers (bare c) (core_cell (bare c) i)) a.0 (places (bare c)) a.1 in
    ap (λ (j : ℕ). get_or flags j false) (sym (alone c i a.0 ok l (place_below (bare c) a.0 b.1) b.0)) ∙ a.2)
    ∙ parted_is (bare c) blocks (core_cell (bare c) i) flags are f

find_made : (keep flag : ℕ → Bool) (make : ℕ → Cell) (passes : Cell → Bool) (is : List ℕ) → ((i : ℕ) → IsIn i is → not (flag i) ≡ passes (make i)) → option_map make (find (λ i. keep i && not (flag i)) is) ≡ find passes (map make (filter keep is))
find_made keep flag make passes [] h = refl
find_made keep flag make passes (i ∷ is) h = go (keep i) (not (flag i)) (h i (inl refl)) (find_made keep flag make passes is (λ j m. h j (inr m)))
  where
    go : (a b : Bool) → b ≡ passes (make i) → option_map make (find (λ i. keep i && not (flag i)) is) ≡ find passes (map make (filter keep is))
        → option_map make (cond (a && b) (Some i) (find (λ i. keep i && not (flag i)) is)) ≡ find passes (map make (cond a (i ∷ filter keep is) (filter keep is)))
    go true true q r = ap (λ (z : Bool). cond z (Some (make i)) (find passes (map make (filter keep is)))) q
    go true false q r = r ∙ ap (λ (z : Bool). cond z (Some (make i)) (find passes (map make (filter keep is)))) q
    go false b q r = r

-- the first guarded place that is not flagged has the first guarded core cell that no block parts
pub first_core_cell : (c : Core) (os : List Object) (blocks : List Row) (flags : List Bool) → IsCore c → AreBlocks (length c.shape.points) blocks → AreFlags (length c.shape.points) (is_mixed (bare c) (core (bare c)) blocks) flags
    → option_map (core_cell (bare c)) (find (λ i. is_guarded (bare c) os i && not (get_or flags i false)) (places (bare c))) ≡ find (λ t. not (is_parted (bare c) blocks t)) (map (core_cell (bare c)) (filter (is_guarded (bare c) os) (places (bare c))))
first_core_cell c os blocks flags ok are f = find_made (is_guarded (bare c) os) (λ i. get_or flags i false) (core_cell (bare c)) (λ t. not (is_parted (bare c) blocks t)) (places (bare c))
    (λ i m. ap not (flag_parted c blocks flags i ok are f (place_below (bare c) i m)))
