-- What no fault of a policy file says: its policy keeps the rules.
use Rattle.std.proofs.Common.{◌≡◌, ◌⊎◌, inl, inr, ℕ, zero, suc, ◌+◌, ◌<◌, ◌≤◌, Bool, true, false, not, ◌&&◌, ◌||◌, List, [], ◌∷◌, length, get_or, take, map, codes, refl, sym, ap, subst, ◌∙◌, eqb, eqb-true, eq-eqb, ltb, leb, le-leb, cond, ℤ, pos, negsuc, Option, Some, None, Result, Ok, Err, arith}
use Rattle.std.specs.Prelude.{is_none, unwrap_or, option_and_then, find, filter, IfOk}
use Rattle.std.specs.List.{list_any, list_all, filter_map, cons_option}
use Rattle.std.specs.Str.{bytes_eq}
use Rattle.std.proofs.lemmas.Bool.{false≢true, ltb-false, leb-true, lt-ltb, and_parts}
use Rattle.std.proofs.lemmas.List.{length-map}
use Rattle.std.proofs.lemmas.List.Quantifiers.{position-Some}
use Rattle.toml.specs.Data.{Data, Members, no_members, as_str, as_integer}
use Rattle.cube_model.specs.Answers.{Answers}
use Rattle.cube_model.specs.Checks.{unless, in_turn}
use Rattle.cube_model.specs.Cubes.{Each, are_levels, count_from}
use Rattle.cube_model.specs.Dims.{Dims, NamedDimension, NamedMeasure, plain, found, members, dimension_at, dimension_names, measure_names}
use Rattle.cube_model.specs.Policies.{are_rising, IsWithin, IsObject, IsPolicy}
use Rattle.cube_model.specs.declared.policy.Method.{Method}
use Rattle.cube_model.specs.declared.policy.Method.TheVariants.{Plain, Lattice, Parity}
use Rattle.cube_model.specs.declared.policy.Policy.{Policy}
use Rattle.cube_model.specs.declared.policy.Within.{Within}
use Rattle.cube_model.proofs.Members.{tested}
use Rattle.cube_tables.specs.Tables.{under, value_or, entry_of, key_of}
use Rattle.cube_tables.proofs.Nonempty.{has_items}
use Rattle.cube_tables.proofs.Turns.{no_append, no_check, nothing, value, turn_at}
use Rattle.cube_policy.specs.PolicyFile.{tables_of, number, rising, level_in, level_below, below_in, slice_in, level_text, member_texts, within_of, measure_number, fewer_of, fewer_in, object_of, declared_measures, stated, methods_of, policy_in, unknown_member, within_faults, is_misplaced, object_faults, policy_faults}
use Rattle.cube_policy.specs.declared.measure.Declared.{Declared}
use Rattle.cube_policy.specs.declared.fault.PolicyFault.{PolicyFault}
use Rattle.cube_policy.specs.declared.fault.PolicyFault.TheVariants.{NoMemory, Missing, WrongKind}

-- ---- names that are known

not_false : (b : Bool) → not b ≡ false → b ≡ true
not_false true h = refl
not_false false h = sym h

both_true : (a b : Bool) → a ≡ true → b ≡ true → (a && b) ≡ true
both_true a b h k = ap (λ x. x && b) h ∙ k

-- the number of a name that is known is below their count
number_below : (x : List ℕ) (names : List (List ℕ)) → is_none (found x names) ≡ false → number x names < length names
number_below x names h = by_place (found x names) refl h
  where
    by_place : (o : Option ℕ) → found x names ≡ o → is_none o ≡ false → unwrap_or o 0 < length names
    by_place None e k = absurd (false≢true (sym k))
    by_place (Some i) e k = (position-Some (bytes_eq x) names i [] e).0

-- ---- numbers in order

module _ (p : ℕ → Bool) where
  -- a number that is kept shows that some are
  some_kept : (x a n : ℕ) → a ≤ x → x < a + n → p x ≡ true → 1 ≤ length (filter p (count_from a n))
  some_kept x a zero low high h = absurd (omega (arith, low, high))
  some_kept x a (suc n) low high h =
      tested (p a)
      (λ t. let long = ap (λ b. length (cond b (a ∷ filter p (count_from (suc a) n)) (filter p (count_from (suc a) n)))) t in omega (arith, long))
      (λ f. let long = ap (λ b. length (cond b (a ∷ filter p (count_from (suc a) n)) (filter p (count_from (suc a) n)))) f in
      tested (eqb a x)
      (λ e. absurd (false≢true (sym f ∙ ap p (eqb-true a x e) ∙ h)))
      (λ d. let more = some_kept x (suc a) n (later a x low d) (omega (arith, high)) h in omega (arith, long, more)))
    where
      later : (a x : ℕ) → a ≤ x → eqb a x ≡ false → suc a ≤ x
      later a x low d = let other : a ≡ x → ⊥ = λ e. false≢true (sym d ∙ eq-eqb a x e) in omega (arith, low, other)

  -- the kept numbers are in range, and each is less than the later ones
  all_below : (a n top : ℕ) → a + n ≤ top → Each (λ x. x < top) (filter p (count_from a n))
  all_below a zero top h = tt
  all_below a (suc n) top h =
      let more = all_below (suc a) n top (omega (arith, h)) in
      by_test (p a) (filter p (count_from (suc a) n)) (omega (arith, h)) more
    where
      by_test : (b : Bool) (xs : List ℕ) → a < top → Each (λ x. x < top) xs → Each (λ x. x < top) (cond b (a ∷ xs) xs)
      by_test true xs l k = (l, k)
      by_test false xs l k = k

  all_above : (low a n : ℕ) → low < a → list_all (ltb low) (filter p (count_from a n)) ≡ true
  all_above low a zero h = refl
  all_above low a (suc n) h = by_test (p a) (filter p (count_from (suc a) n)) (lt-ltb low a h) (all_above low (suc a) n (omega (arith, h)))
    where
      by_test : (b : Bool) (xs : List ℕ) → ltb low a ≡ true → list_all (ltb low) xs ≡ true → list_all (ltb low) (cond b (a ∷ xs) xs) ≡ true
      by_test true xs l k = both_true (ltb low a) (list_all (ltb low) xs) l k
      by_test false xs l k = k

  kept_rising : (a n : ℕ) → are_rising (filter p (count_from a n)) ≡ true
  kept_rising a zero = refl
  kept_rising a (suc n) = by_test (p a) (filter p (count_from (suc a) n)) (all_above a (suc a) n (omega arith)) (kept_rising (suc a) n)
    where
      by_test : (b : Bool) (xs : List ℕ) → list_all (ltb a) xs ≡ true → are_rising xs ≡ true → are_rising (cond b (a ∷ xs) xs) ≡ true
      by_test true xs l k = both_true (list_all (ltb a) xs) (are_rising xs) l k
      by_test false xs l k = k

first_listed : (known : List (List ℕ)) (names : List (List ℕ)) → 1 ≤ length names → list_any (λ y. eqb y (number (get_or names 0 []) known)) (map (λ x. number x known) names) ≡ true
first_listed known [] h = absurd (omega (arith, h))
first_listed known (x ∷ xs) h = ap (λ b. b || list_any (λ y. eqb y (number x known)) (map (λ x. number x known) xs)) (eq-eqb (number x known) (number x known) refl)

-- ---- the table of a dimension in a slice

known_dimension : (s : Dims) (x : List ℕ) → is_none (found x (dimension_names s)) ≡ false → number x (dimension_names s) < length s.dimensions
known_dimension s x h =
    let below = number_below x (dimension_names s) h in
    let long = length-map s.dimensions (λ (d : NamedDimension). d.name) in
    omega (arith, below, long)

some_listed : (known names : List (List ℕ)) → 1 ≤ length names → number (get_or names 0 []) known < length known → 1 ≤ length (rising (length known) (map (λ x. number x known) names))
some_listed known names some first = some_kept (λ x. list_any (λ y. eqb y x) (map (λ x. number x known) names)) (number (get_or names 0 []) known) 0 (length known) (omega arith) (omega (arith, first)) (first_listed known names some)

listed_in_range : (n : ℕ) (listed : List ℕ) → Each (λ x. x < n) (rising n listed)
listed_in_range n listed = all_below (λ x. list_any (λ y. eqb y x) listed) 0 n n (omega arith)

is_within : (s : Dims) (entry : List ℕ) (e : List ℕ × Members) → within_faults s entry e ≡ [] → IsWithin s (within_of s e)
unfolding within_faults within_of
is_within s entry e h =
    let parts = no_append _ _ h in
    let last = no_append _ _ parts.1 in
    let level = no_append _ _ (no_append _ _ last.0).1 in
    let listed = no_append _ _ last.1 in
    let known = members (dimension_at s (number e.0 (dimension_names s))) (number (level_text e.1) (dimension_at s (number e.0 (dimension_names s))).levels) in
    let some = has_items Missing WrongKind as_str _ (under (codes "members") e.1) listed.0 in
    let first = number_below (get_or (member_texts e.1) 0 []) known (no_check _ _ (turn_at (unknown_member (key_of entry e.0) known) (member_texts e.1) 0 [] some listed.1)) in
    record {
      dimension = known_dimension s e.0 (no_check _ _ parts.0);
      level = number_below (level_text e.1) (dimension_at s (number e.0 (dimension_names s))).levels (no_check _ _ level.1);
      some = some_listed known (member_texts e.1) some first;
      rising = kept_rising (λ x. list_any (λ y. eqb y x) (map (λ x. number x known) (member_texts e.1))) 0 (length known);
      in_range = listed_in_range (length known) (map (λ x. number x known) (member_texts e.1));
    }

-- ---- what is listed, in the order of the dimensions

find_one : {X : Type 0} (P : X → Type 0) (p : X → Bool) (xs : List X) → Each P xs → (o : Option X) → find p xs ≡ o → (x : X) → o ≡ Some x → P x × (p x ≡ true)
find_one P p [] all o e x is = absurd (cc)
find_one P p (y ∷ ys) all o e x is =
    tested (p y)
    (λ t. let same : Some y ≡ Some x = sym (ap (λ b. cond b (Some y) (find p ys)) t) ∙ e ∙ is in
    let one : y ≡ x = cc in (subst P one all.0, ap p (sym one) ∙ t))
    (λ f. find_one P p ys all.1 o (sym (ap (λ b. cond b (Some y) (find p ys)) f) ∙ e) x is)

module _ (P : Within → Type 0) (ws : List Within) (all : Each P ws) where
  abbrev at : ℕ → Option Within
  at i = find (λ w. eqb w.dimension i) ws

  found_one : (i : ℕ) (w : Within) → at i ≡ Some w → P w × (w.dimension ≡ i)
  found_one i w e = let one = find_one P (λ w. eqb w.dimension i) ws all (Some w) e w refl in (one.0, eqb-true w.dimension i one.1)

  each_found : (is : List ℕ) → Each P (filter_map at is)
  each_found [] = tt
  each_found (i ∷ is) = by_found (at i) refl (filter_map at is) (each_found is)
    where
      by_found : (o : Option Within) → at i ≡ o → (rest : List Within) → Each P rest → Each P (cons_option o rest)
      by_found None e rest k = k
      by_found (Some w) e rest k = ((found_one i w e).0, k)

  found_above : (low a n : ℕ) → low < a → list_all (ltb low) (map (λ w. w.dimension) (filter_map at (count_from a n))) ≡ true
  found_above low a zero h = refl
  found_above low a (suc n) h = by_found (at a) refl (filter_map at (count_from (suc a) n)) (found_above low (suc a) n (omega (arith, h)))
    where
      by_found : (o : Option Within) → at a ≡ o → (rest : List Within) → list_all (ltb low) (map (λ w. w.dimension) rest) ≡ true → list_all (ltb low) (map (λ w. w.dimension) (cons_option o rest)) ≡ true
      by_found None e rest k = k
      by_found (Some w) e rest k = both_true (ltb low w.dimension) (list_all (ltb low) (map (λ w. w.dimension) rest)) (ap (ltb low) (found_one a w e).1 ∙ lt-ltb low a h) k

  found_rising : (a n : ℕ) → are_rising (map (λ w. w.dimension) (filter_map at (count_from a n))) ≡ true
  found_rising a zero = refl
  found_rising a (suc n) = by_found (at a) refl (filter_map at (count_from (suc a) n)) (found_above a (suc a) n (omega arith)) (found_rising (suc a) n)
    where
      by_found : (o : Option Within) → at a ≡ o → (rest : List Within) → list_all (ltb a) (map (λ w. w.dimension) rest) ≡ true → are_rising (map (λ w. w.dimension) rest) ≡ true → are_rising (map (λ w. w.dimension) (cons_option o rest)) ≡ true
      by_found None e rest l k = k
      by_found (Some w) e rest l k = both_true (list_all (ltb w.dimension) (map (λ w. w.dimension) rest)) (are_rising (map (λ w. w.dimension) rest)) (ap (λ (x : ℕ). list_all (ltb x) (map (λ w. w.dimension) rest)) (found_one a w e).1 ∙ l) k

-- what is made of each item has the property where the items have no fault
each_made : {X Y F : Type 0} (P : Y → Type 0) (g : X → Y) (f : List X → X → List F) (d : X) (xs : List X) → ((before : List X) (x : X) → f before x ≡ [] → P (g x)) → in_turn f [] xs ≡ [] → Each P (map g xs)
each_made P g f d xs made none = from P g xs d (λ k l. made (take k xs) (get_or xs k d) (turn_at f xs k d l none))
  where
    from : {X Y : Type 0} (P : Y → Type 0) (g : X → Y) (xs : List X) (d : X) → ((k : ℕ) → k < length xs → P (g (get_or xs k d))) → Each P (map g xs)
    from P g [] d h = tt
    from P g (x ∷ xs) d h = (h zero (omega arith), from P g xs d (λ k l. h (suc k) (omega (arith, l))))

-- ---- the levels of an object

level_in_range : (d : NamedDimension) (x : List ℕ) → unwrap_or (level_in d x) (length d.levels) ≤ length d.levels
level_in_range d x =
    tested (bytes_eq x (codes "all"))
    (λ t. let is = ap (λ b. unwrap_or (cond b (Some (length d.levels)) (found x d.levels)) (length d.levels)) t in omega (arith, is))
    (λ f. let is = ap (λ b. unwrap_or (cond b (Some (length d.levels)) (found x d.levels)) (length d.levels)) f in
    let low = by_place (found x d.levels) refl in omega (arith, is, low))
  where
    by_place : (o : Option ℕ) → found x d.levels ≡ o → unwrap_or o (length d.levels) ≤ length d.levels
    by_place None e = omega arith
    by_place (Some i) e = let l = (position-Some (bytes_eq x) d.levels i [] e).0 in omega (arith, l)

below_in_range : (below : List (List ℕ × List ℕ)) (d : NamedDimension) → level_below below d ≤ length d.levels
below_in_range below d = by_name (find (λ e. bytes_eq d.name e.0) below)
  where
    by_name : (o : Option (List ℕ × List ℕ)) → unwrap_or (option_and_then (λ e. level_in d e.1) o) (length d.levels) ≤ length d.levels
    by_name None = omega arith
    by_name (Some e) = level_in_range d e.1

levels_in_range : (below : List (List ℕ × List ℕ)) (ds : List NamedDimension) → are_levels (map plain ds) (map (level_below below) ds) ≡ true
levels_in_range below [] = refl
levels_in_range below (d ∷ ds) = both_true _ _ (le-leb (level_below below d) (length d.levels) (below_in_range below d)) (levels_in_range below ds)

-- levels of which each is 0 are the finest
all_finest : (f : NamedDimension → ℕ) (ds : List NamedDimension) → list_all (λ l. eqb l 0) (map f ds) ≡ true → map f ds ≡ map (λ d. 0) ds
all_finest f [] h = refl
all_finest f (d ∷ ds) h =
    let parts = and_parts (eqb (f d) 0) (list_all (λ l. eqb l 0) (map f ds)) h in
    ap (λ (x : ℕ). x ∷ map f ds) (eqb-true (f d) 0 parts.0) ∙ ap (λ (xs : List ℕ). 0 ∷ xs) (all_finest f ds parts.1)

well_placed : (method : Method) (f : NamedDimension → ℕ) (ds : List NamedDimension) → is_misplaced method (map f ds) ≡ false → (method ≡ Lattice) ⊎ ((method ≡ Parity) × (map f ds ≡ map (λ d. 0) ds))
well_placed Plain f ds h = absurd (false≢true (sym h))
well_placed Lattice f ds h = inl refl
well_placed Parity f ds h = inr (refl, all_finest f ds (not_false _ h))

-- ---- the number of facts

of_number : (z : ℤ) (n : ℕ) → fewer_of z ≡ Some n → (2 ≤ n) × (n ≤ 1000)
of_number (pos k) n e =
    tested (leb 2 k && leb k 1000)
    (λ t. let both = and_parts (leb 2 k) (leb k 1000) t in
    let same : Some k ≡ Some n = sym (ap (λ b. cond b (Some k) None) t) ∙ e in
    let one : k ≡ n = cc in
    subst (λ (x : ℕ). (2 ≤ x) × (x ≤ 1000)) one (leb-true 2 k both.0, leb-true k 1000 both.1))
    (λ f. let none : None ≡ Some n = sym (ap (λ b. cond b (Some k) None) f) ∙ e in absurd (cc))
of_number (negsuc k) n e = absurd (cc)

-- a number of facts that an object names is 2 to 1,000
fewer_in_range : (value : Option Data) (n : ℕ) → fewer_in value ≡ Some n → (2 ≤ n) × (n ≤ 1000)
fewer_in_range value n e = stated (option_and_then as_integer value) e
  where
    stated : (o : Option ℤ) → option_and_then fewer_of o ≡ Some n → (2 ≤ n) × (n ≤ 1000)
    stated None k = absurd (cc)
    stated (Some z) k = of_number z n k

-- ---- an object, and the policy

known_measure : (s : Dims) (x : List ℕ) → is_none (found x (measure_names s)) ≡ false → number x (measure_names s) < length s.measures
known_measure s x h =
    let below = number_below x (measure_names s) h in
    let long = length-map s.measures (λ (m : NamedMeasure). m.name) in
    omega (arith, below, long)

length-methods : (declared : List Declared) (s : Dims) → length (methods_of declared (measure_names s)) ≡ length s.measures
length-methods declared s = length-map (measure_names s) (λ x. unwrap_or (stated declared x) Plain) ∙ length-map s.measures (λ (m : NamedMeasure). m.name)

few_objects : (s : Dims) (tables : List Members) → ltb 64 (length tables) ≡ false → length (map (object_of s) tables) ≤ 64
few_objects s tables h =
    let made = length-map tables (object_of s) in
    let few = ltb-false 64 (length tables) h in
    omega (arith, made, few)

is_object : (s : Dims) (p : Policy) (entry : List ℕ) (t : Members) → object_faults s p.methods entry t ≡ [] → IsObject s p (object_of s t)
unfolding object_faults object_of
is_object s p entry t h =
    let last = no_append _ _ h in
    let fewer = no_append _ _ last.0 in
    let slice = no_append _ _ fewer.0 in
    let below = no_append _ _ slice.0 in
    let measure = no_append _ _ (no_append _ _ below.0).1 in
    let listed = no_append _ _ slice.1 in
    let within = each_made (IsWithin s) (within_of s) (λ before e. within_faults s (key_of entry (codes "slice")) e) ([], no_members) (slice_in (under (codes "slice") t)) (λ before e none. is_within s (key_of entry (codes "slice")) e none) listed.1 in
    record {
      measure = known_measure s (value_or [] as_str (under (codes "measure") t)) (no_check _ _ measure.1);
      levels = levels_in_range (below_in (under (codes "below") t)) s.dimensions;
      slice = each_found (IsWithin s) (map (within_of s) (slice_in (under (codes "slice") t))) within (count_from 0 (length s.dimensions));
      in_turn = found_rising (IsWithin s) (map (within_of s) (slice_in (under (codes "slice") t))) within 0 (length s.dimensions);
      method = well_placed (get_or p.methods (measure_number s (under (codes "measure") t)) Plain) (level_below (below_in (under (codes "below") t))) s.dimensions (no_check _ _ last.1);
      fewer = fewer_in_range (under (codes "fewer") t);
    }

is_policy : (s : Dims) (t : Members) → policy_faults s t ≡ [] → IsPolicy s (policy_in s t)
is_policy s t h =
    let last = no_append _ _ h in
    let methods = no_append _ _ last.0 in
    let objects = no_append _ _ (no_append _ _ methods.0).1 in
    record {
      methods = length-methods (declared_measures t) s;
      few = few_objects s (tables_of (under (codes "object") t)) (no_check _ _ objects.1);
      objects = each_made (IsObject s (policy_in s t)) (object_of s) (λ before table. object_faults s (policy_in s t).methods (entry_of (codes "object") (length before + 1)) table) no_members (tables_of (under (codes "object") t)) (λ before table none. is_object s (policy_in s t) (entry_of (codes "object") (length before + 1)) table none) last.1;
    }

-- the policy that is answered keeps the rules
pub rules_kept : (s : Dims) (t : Members) (r : Result Policy PolicyFault) → Answers NoMemory r (unless (policy_faults s t) (policy_in s t)) → IfOk r (λ policy. IsPolicy s policy)
rules_kept s t (Err e) h = tt
rules_kept s t (Ok p) h = subst (IsPolicy s) (value _ _ _ h) (is_policy s t (nothing _ _ _ h))
