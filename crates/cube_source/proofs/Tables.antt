-- The verdicts in the slots of a table.
use Rattle.std.proofs.Common.{◌≡◌, ℕ, zero, suc, ◌+◌, ◌*◌, ◌/◌, ◌%◌, ◌<◌, ◌≤◌, ◌⊎◌, inl, inr, ⊎_elim, true, List, [], ◌∷◌, length, set, get_or, replicate, Option, Some, None, refl, sym, ap, ap₂, ◌∙◌, subst, arith}
use Rattle.std.proofs.lemmas.List.{length-set, get_or-set_same}
use Rattle.std.proofs.lemmas.Nat.{div-mul-add, mod-mul-add, mul-add-lt}
use Rattle.std.proofs.Math.Nat.{mul_comm, mul-le-mul}
use Rattle.cube_model.specs.declared.policy.Policy.{Policy}
use Rattle.cube_model.specs.Cores.{Core, shown}
use Rattle.std.specs.List.{slice_get}
use Rattle.cube_model.specs.Cubes.{Each, IsIn, are_levels, cuboid_count, cuboid_number, cuboids}
use Rattle.cube_model.specs.Dims.{Dims, plains}
use Rattle.cube_model.specs.Protection.{uncut}
use Rattle.cube_model.proofs.Boxes.{each_at}
use Rattle.cube_model.proofs.Numbers.{number_below, cuboids_are_numbered}
use Rattle.cube_source.specs.declared.judging.Judged.{Judged}
use Rattle.cube_source.specs.Blocks.{bare, no_policy}
use Rattle.cube_source.specs.Judged.{judged_of}
use Rattle.cube_source.specs.Tables.{Found, Table, found_at, found_from, IsFound, IsSlot, TableStands}

one_later : (n slot i : ℕ) (judged : Judged) → found_at n (suc slot + i) judged ≡ found_at n (slot + suc i) judged
one_later n slot i judged = let e : suc slot + i ≡ slot + suc i = omega arith in ap (λ (s : ℕ). found_at n s judged) e

here : (n slot : ℕ) (judged : Judged) → found_at n slot judged ≡ found_at n (slot + 0) judged
here n slot judged = let e : slot ≡ slot + 0 = omega arith in ap (λ (s : ℕ). found_at n s judged) e

pub some_same : (a b : Judged) → Some a ≡ Some b → a ≡ b
some_same a b e = cc

none_some : (a : Judged) → None ≡ Some a → ⊥
none_some a e = cc

-- a verdict in a slot is kept
in_slots : (n slot i : ℕ) (slots : List (Option Judged)) (judged : Judged) → i < length slots → get_or slots i None ≡ Some judged → IsIn (found_at n (slot + i) judged) (found_from n slot slots)
in_slots n slot i [] judged l e = absurd (omega (arith, l))
in_slots n slot zero (None ∷ rest) judged l e = absurd (none_some judged e)
in_slots n slot zero (Some j ∷ rest) judged l e = inl (ap (found_at n slot) (some_same j judged e) ∙ here n slot judged)
in_slots n slot (suc i) (None ∷ rest) judged l e = subst (λ f. IsIn f (found_from n (suc slot) rest)) (one_later n slot i judged) (in_slots n (suc slot) i rest judged (omega (arith, l)) e)
in_slots n slot (suc i) (Some j ∷ rest) judged l e = inr (subst (λ f. IsIn f (found_from n (suc slot) rest)) (one_later n slot i judged) (in_slots n (suc slot) i rest judged (omega (arith, l)) e))

-- what is kept once a slot is written was kept before, or is what was written
written : (n slot i : ℕ) (slots : List (Option Judged)) (judged : Judged) (f : Found) → i < length slots → IsIn f (found_from n slot (set slots i (Some judged))) → IsIn f (found_from n slot slots) ⊎ (f ≡ found_at n (slot + i) judged)
written n slot i [] judged f l m = absurd (omega (arith, l))
written n slot zero (None ∷ rest) judged f l (inl e) = inr (sym e ∙ here n slot judged)
written n slot zero (None ∷ rest) judged f l (inr m) = inl m
written n slot zero (Some j ∷ rest) judged f l (inl e) = inr (sym e ∙ here n slot judged)
written n slot zero (Some j ∷ rest) judged f l (inr m) = inl (inr m)
written n slot (suc i) (None ∷ rest) judged f l m = ⊎_elim (λ a. inl a) (λ e. inr (e ∙ one_later n slot i judged)) (written n (suc slot) i rest judged f (omega (arith, l)) m)
written n slot (suc i) (Some j ∷ rest) judged f l (inl e) = inl (inl e)
written n slot (suc i) (Some j ∷ rest) judged f l (inr m) = ⊎_elim (λ a. inl (inr a)) (λ e. inr (e ∙ one_later n slot i judged)) (written n (suc slot) i rest judged f (omega (arith, l)) m)

-- the same from the first slot on
pub in_all : (n i : ℕ) (slots : List (Option Judged)) (judged : Judged) → i < length slots → get_or slots i None ≡ Some judged → IsIn (found_at n i judged) (found_from n 0 slots)
in_all n i slots judged l e = let z : 0 + i ≡ i = omega arith in subst (λ k. IsIn (found_at n k judged) (found_from n 0 slots)) z (in_slots n 0 i slots judged l e)

pub written_in : (n i : ℕ) (slots : List (Option Judged)) (judged : Judged) → i < length slots → IsIn (found_at n i judged) (found_from n 0 (set slots i (Some judged)))
written_in n i slots judged l =
    let size : length (set slots i (Some judged)) ≡ length slots = length-set slots i (Some judged) in
    in_all n i (set slots i (Some judged)) judged (omega (arith, l, size)) (get_or-set_same slots i (Some judged) None l)

pub written_all : (n i : ℕ) (slots : List (Option Judged)) (judged : Judged) (f : Found) → i < length slots → IsIn f (found_from n 0 (set slots i (Some judged))) → IsIn f (found_from n 0 slots) ⊎ (f ≡ found_at n i judged)
written_all n i slots judged f l m = let z : 0 + i ≡ i = omega arith in subst (λ k. IsIn f (found_from n 0 slots) ⊎ (f ≡ found_at n k judged)) z (written n 0 i slots judged f l m)

pub none_found : (n slot many : ℕ) → found_from n slot (replicate many None) ≡ []
none_found n slot zero = refl
none_found n slot (suc many) = none_found n (suc slot) many

-- ---- tables

pub count_is : (d : Dims) (n : ℕ) (all : List (List ℕ)) → n ≡ length all → all ≡ cuboids (record { dimensions = plains d; policy = no_policy; shape = record { points = []; facts = [] } }) → n ≡ cuboid_count (plains d)
count_is d n all e is = e ∙ ap length is ∙ (cuboids_are_numbered (record { dimensions = plains d; policy = no_policy; shape = record { points = []; facts = [] } })).all

pub is_slot : (d : Dims) (t : Table) (measure number slot : ℕ) (levels : List ℕ) → t.measures ≡ length d.measures → t.cuboids ≡ cuboid_count (plains d) → measure < length d.measures → are_levels (plains d) levels ≡ true
    → number ≡ cuboid_number (plains d) levels → slot ≡ measure * t.cuboids + number → IsSlot d t measure levels slot
is_slot d t measure number slot levels m n l e is at =
    let few = number_below (plains d) levels e in
    let below : number < t.cuboids = omega (arith, few, n, is) in
    record {
      below = (let k = mul-add-lt measure t.cuboids number t.measures (omega (arith, l, m)) below in let turned = mul_comm t.cuboids t.measures in omega (arith, k, at, turned));
      measure_is = ap (λ s. s / t.cuboids) at ∙ div-mul-add measure t.cuboids number below;
      cuboid_is = ap (λ s. s % t.cuboids) at ∙ mod-mul-add measure t.cuboids number below ∙ is;
    }

found_is : (d : Dims) (t : Table) (measure slot : ℕ) (levels : List ℕ) (judged : Judged) → IsSlot d t measure levels slot → found_at t.cuboids slot judged ≡ record { measure = measure; cuboid = cuboid_number (plains d) levels; judged = judged }
found_is d t measure slot levels judged at = ap₂ (λ (a b : ℕ). record { measure = a; cuboid = b; judged = judged }) at.measure_is at.cuboid_is

-- a verdict that a table keeps in the slot of a cuboid
pub record IsKept (c : Core) (p : Policy) (t : Table) (measure : ℕ) (levels : List ℕ) (judged : Judged) : Type 0 where
  pub verdict : judged ≡ judged_of (uncut (shown c p) levels measure)
  pub stands : TableStands c p t
  pub there : IsIn (record { measure = measure; cuboid = cuboid_number (plains c.dims) levels; judged = judged }) t.found

pub was_kept : (c : Core) (p : Policy) (t : Table) (d : Dims) (measure slot : ℕ) (levels : List ℕ) (judged : Judged) → d ≡ c.dims → TableStands c p t → IsSlot d t measure levels slot → are_levels (plains c.dims) levels ≡ true
    → IsIn (found_at t.cuboids slot judged) t.found → IsKept c p t measure levels judged
was_kept c p t d measure slot levels judged same stands at e there =
    let own = subst (λ f. IsIn f t.found) (found_is c.dims t measure slot levels judged (subst (λ x. IsSlot x t measure levels slot) same at)) there in
    record { verdict = each_at (IsFound (shown c p)) _ t.found stands.found own levels e refl; stands = stands; there = own }

-- equal numbers mean equal levels
one_number : (c : Core) (a b : List ℕ) → are_levels (plains c.dims) a ≡ true → are_levels (plains c.dims) b ≡ true → cuboid_number (plains c.dims) a ≡ cuboid_number (plains c.dims) b → a ≡ b
one_number c a b p q e =
    let x = (cuboids_are_numbered (bare c)).at a p in
    let y = (cuboids_are_numbered (bare c)).at b q in
    same_levels a b (sym x ∙ ap (slice_get (cuboids (bare c))) e ∙ y)
  where
    same_levels : (a b : List ℕ) → Some a ≡ Some b → a ≡ b
    same_levels a b e = cc

each_from : (P : Found → Type 0) (fs : List Found) → ((f : Found) → IsIn f fs → P f) → Each P fs
each_from P [] h = tt
each_from P (f ∷ fs) h = (h f (inl refl), each_from P fs (λ g m. h g (inr m)))

-- a verdict of `judge` that is written into its slot
pub now_kept : (c : Core) (p : Policy) (t new : Table) (d : Dims) (measure slot : ℕ) (levels : List ℕ) (judged copy : Judged) → d ≡ c.dims → TableStands c p t → IsSlot d t measure levels slot → are_levels (plains c.dims) levels ≡ true
    → judged ≡ judged_of (uncut (shown c p) levels measure) → copy ≡ judged → new.measures ≡ t.measures → new.cuboids ≡ t.cuboids → IsIn (found_at t.cuboids slot copy) new.found
    → ((f : Found) → IsIn f new.found → IsIn f t.found ⊎ (f ≡ found_at t.cuboids slot copy)) → IsKept c p new measure levels judged
now_kept c p t new d measure slot levels judged copy same stands at e verdict same_verdict m n there others =
    let found : found_at t.cuboids slot copy ≡ record { measure = measure; cuboid = cuboid_number (plains c.dims) levels; judged = judged } =
    ap (found_at t.cuboids slot) same_verdict ∙ found_is c.dims t measure slot levels judged (subst (λ x. IsSlot x t measure levels slot) same at) in
    let own : IsFound (shown c p) (record { measure = measure; cuboid = cuboid_number (plains c.dims) levels; judged = judged }) = λ other o number. verdict ∙ ap (λ (ls : List ℕ). judged_of (uncut (shown c p) ls measure)) (one_number c levels other e o (sym number)) in
    record {
      verdict = verdict;
      stands = record { measures = m ∙ stands.measures; cuboids = n ∙ stands.cuboids; found = each_from (IsFound (shown c p)) new.found (λ f i. ⊎_elim (λ a. each_at (IsFound (shown c p)) f t.found stands.found a) (λ a. subst (IsFound (shown c p)) (sym (a ∙ found)) own) (others f i)) };
      there = subst (λ f. IsIn f new.found) found there;
    }

-- the number of a slot fits
pub slot_fits : (measures cuboids measure number : ℕ) → measures ≤ 16 → cuboids ≤ 256 → measure < measures → number < cuboids → measure * cuboids + number < 4096
slot_fits measures cuboids measure number m n l k =
    let below = mul-add-lt measure cuboids number measures l k in
    let most = mul-le-mul n m in
    omega (arith, below, most)

-- a table that keeps none
pub keeps_none : (t : Table) (d : Dims) (measures n many : ℕ) (slots : List (Option Judged)) → t ≡ record { measures = measures; cuboids = n; found = found_from n 0 slots } → measures ≡ length d.measures → n ≡ cuboid_count (plains d) → slots ≡ replicate many None
    → t ≡ record { measures = length d.measures; cuboids = cuboid_count (plains d); found = [] }
keeps_none t d measures n many slots is m e none =
    is ∙ ap (λ (fs : List Found). record { measures = measures; cuboids = n; found = fs }) (ap (found_from n 0) none ∙ none_found n 0 many)
    ∙ ap₂ (λ (a b : ℕ). record { measures = a; cuboids = b; found = [] }) m e

pub none_stands : (c : Core) (p : Policy) (t : Table) (d : Dims) → t ≡ record { measures = length d.measures; cuboids = cuboid_count (plains d); found = [] } → c.dims ≡ d → TableStands c p t
none_stands c p t d is same = subst (TableStands c p) (sym (is ∙ ap (λ (x : Dims). record { measures = length x.measures; cuboids = cuboid_count (plains x); found = [] }) (sym same))) (record { measures = refl; cuboids = refl; found = tt })
