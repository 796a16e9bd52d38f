-- The facts of a written file lie at the points, and their shares are the values.
use Rattle.std.proofs.Common.{◌≡◌, ◌≢◌, ◌⊎◌, inl, inr, ℕ, zero, suc, ◌+◌, ◌<◌, ◌≤◌, Bool, true, false, List, [], ◌∷◌, ◌++◌, length, map, filter, flat_map, get_or, ℤ, pos, ◌+ℤ◌, refl, sym, ap, ap₂, ◌∙◌, subst, arith, append-nil}
use Rattle.std.proofs.lemmas.List.{length-map}
use Rattle.std.proofs.lemmas.List.Elements.{filter-append}
use Rattle.cube_model.specs.Cores.{Core}
use Rattle.cube_model.specs.Cubes.{same, before, count_from, IsIn, IsIncreasing}
use Rattle.cube_model.specs.Dims.{column_names}
use Rattle.cube_model.proofs.Boxes.{same_increasing}
use Rattle.cube_model.proofs.Members.{tested, same_or_above, IsIn-map, map_has, IsIn-flat_map, flat_map_has, IsIn-count_from, count_from_has, IsIn-in_order, same_eq, same_refl}
use Rattle.cube_model.proofs.Orders.{in_order_has, in_order_increasing}
use Rattle.cube_model.proofs.Parities.{all_at}
use Rattle.cube_model.proofs.Sources.{Each-get_or}
use Rattle.cube_model.proofs.Sums.{length-count_from}
use Rattle.cube_source.proofs.Ordered.{not_before}
use Rattle.cube_facts.specs.FactFile.{Fact, fact_of, points_of, facts_at as facts_at_point, units_sum, shape_of, cube_of}
use Rattle.cube_witness.specs.Leaves.{leaves}
use Rattle.cube_witness.specs.Shares.{share}
use Rattle.cube_witness.specs.TwinFile.{facts_at, value_at}
use Rattle.cube_witness.specs.Rereading.{IsCarried, fact_fields, place_rows, fact_rows}
use Rattle.cube_witness.proofs.Columns.{mapped, numbered, by_number, at_some, in_list}
use Rattle.cube_witness.proofs.Faultless.{has_facts}
use Rattle.cube_witness.proofs.Sharing.{sums, shares_add_up}
use Rattle.cube_witness.proofs.Written.{fact_read}

-- ---- lists of blocks

map_blocks : {X Y : Type 0} (h : X → Y) (f : ℕ → List X) (g : ℕ → List Y) (is : List ℕ) → ((i : ℕ) → IsIn i is → map h (f i) ≡ g i) → map h (flat_map f is) ≡ flat_map g is
map_blocks h f g [] e = refl
map_blocks h f g (i ∷ is) e = Rattle.std.proofs.lemmas.List.map-append h (f i) (flat_map f is) ∙ ap₂ (λ a b. a ++ b) (e i (inl refl)) (map_blocks h f g is (λ j k. e j (inr k)))

map_twice : {X Y : Type 0} (h : X → Y) (f : ℕ → X) (g : ℕ → Y) (ks : List ℕ) → ((k : ℕ) → h (f k) ≡ g k) → map h (map f ks) ≡ map g ks
map_twice h f g [] e = refl
map_twice h f g (k ∷ ks) e = ap₂ (λ a b. a ∷ b) (e k) (map_twice h f g ks e)

-- the blocks of other numbers pass nothing, the block of the number passes whole
no_block : {X : Type 0} (test : X → Bool) (f : ℕ → List X) (i s n : ℕ) → i < s → ((j : ℕ) → j < s + n → i ≢ j → filter test (f j) ≡ []) → filter test (flat_map f (count_from s n)) ≡ []
no_block test f i s zero l other = refl
no_block test f i s (suc n) l other =
    filter-append test (f s) (flat_map f (count_from (suc s) n)) ∙ ap₂ (λ a b. a ++ b) (other s (omega arith) (omega (arith, l))) (no_block test f i (suc s) n (omega (arith, l)) (λ j k d. other j (omega (arith, k)) d))

one_block : {X : Type 0} (test : X → Bool) (f : ℕ → List X) (i s n : ℕ) → s ≤ i → i < s + n → filter test (f i) ≡ f i → ((j : ℕ) → j < s + n → i ≢ j → filter test (f j) ≡ []) → filter test (flat_map f (count_from s n)) ≡ f i
one_block test f i s zero a l own other = absurd (omega (arith, a, l))
one_block test f i s (suc n) a l own other =
    filter-append test (f s) (flat_map f (count_from (suc s) n)) ∙ go (same_or_above i s a) (λ above. one_block test f i (suc s) n above (omega (arith, l)) own (λ j k d. other j (omega (arith, k)) d))
  where
    go : (s ≡ i) ⊎ (suc s ≤ i) → (suc s ≤ i → filter test (flat_map f (count_from (suc s) n)) ≡ f i) → filter test (f s) ++ filter test (flat_map f (count_from (suc s) n)) ≡ f i
    go (inl e) later = ap₂ (λ a b. a ++ b) (ap (λ (k : ℕ). filter test (f k)) e ∙ own) (no_block test f i (suc s) n (omega (arith, e)) (λ j k d. other j (omega (arith, k)) d)) ∙ append-nil (f i)
    go (inr above) later = ap₂ (λ a b. a ++ b) (other s (omega arith) (omega (arith, above))) (later above)

-- ---- points

rising : (xs : List (List ℕ)) (i j : ℕ) → IsIncreasing xs → i < j → j < length xs → before (get_or xs i []) (get_or xs j []) ≡ true
rising [] i j h a l = absurd (omega (arith, l))
rising (x ∷ xs) i zero h a l = absurd (omega (arith, a))
rising (x ∷ xs) zero (suc j) h a l = all_at (before x) (get_or xs j []) xs h.0 (in_list xs j [] (omega (arith, l)))
rising (x ∷ xs) (suc i) (suc j) h a l = rising xs i j h.1 (omega (arith, a)) (omega (arith, l))

points_apart : (xs : List (List ℕ)) (i j : ℕ) → IsIncreasing xs → i < length xs → j < length xs → i ≢ j → same (get_or xs i []) (get_or xs j []) ≡ false
points_apart xs i j h a b d = tested (same (get_or xs i []) (get_or xs j [])) (λ t. absurd (go (order i j d) (same_eq (get_or xs i []) (get_or xs j []) t))) (λ f. f)
  where
    order : (x y : ℕ) → x ≢ y → (x < y) ⊎ (y < x)
    order x y d = grind arith

    go : (i < j) ⊎ (j < i) → get_or xs i [] ≡ get_or xs j [] → ⊥
    go (inl l) e = not_before (get_or xs j []) (subst (λ x. before x (get_or xs j []) ≡ true) e (rising xs i j h l b))
    go (inr l) e = not_before (get_or xs j []) (subst (λ x. before (get_or xs j []) x ≡ true) e (rising xs j i h l a))

-- ---- the facts of a cube

abbrev pub fact_at : Core → List (List ℤ) → ℕ → ℕ → Fact
fact_at c cube i k = record { leaves = leaves c.shape i; units = map (λ m. share (value_at cube m i) (facts_at c.shape i) k) (count_from 0 (length c.dims.measures)) }

abbrev pub block : Core → List (List ℤ) → ℕ → List Fact
block c cube i = map (fact_at c cube i) (count_from 0 (facts_at c.shape i))

abbrev pub all_facts : Core → List (List ℤ) → List Fact
all_facts c cube = flat_map (block c cube) (count_from 0 (length c.shape.points))

module _ (c : Core) (cube : List (List ℤ)) (ok : IsCarried c cube) where
  place_there : (i : ℕ) → IsIn i (count_from 0 (length c.shape.points)) → i < length c.shape.points
  place_there i h = let l = (IsIn-count_from i 0 (length c.shape.points) h).1 in omega (arith, l)

  -- the records say the facts
  pub facts_read : map (fact_of c.dims (column_names c.dims)) (fact_rows c.dims c.shape cube) ≡ all_facts c cube
  facts_read = map_blocks (fact_of c.dims (column_names c.dims)) (place_rows c.dims c.shape cube) (block c cube) (count_from 0 (length c.shape.points))
      (λ i h. map_twice (fact_of c.dims (column_names c.dims)) (fact_fields c.dims c.shape cube i) (fact_at c cube i) (count_from 0 (facts_at c.shape i)) (λ k. fact_read c cube ok i k (place_there i h) (has_facts c i ok.rules (place_there i h))))

  -- the points are those of the facts
  pub points_read : points_of (all_facts c cube) ≡ c.shape.points
  points_read = same_increasing (points_of (all_facts c cube)) c.shape.points (in_order_increasing (map (λ f. f.leaves) (all_facts c cube))) ok.rules.increasing there back
    where
      there : (z : List ℕ) → IsIn z (points_of (all_facts c cube)) → IsIn z c.shape.points
      there z h =
          let a = IsIn-map (λ (f : Fact). f.leaves) z (all_facts c cube) (IsIn-in_order z _ h) in
          let b = IsIn-flat_map (block c cube) a.0 (count_from 0 (length c.shape.points)) a.1 in
          let d = IsIn-map (fact_at c cube b.0) a.0 (count_from 0 (facts_at c.shape b.0)) b.2 in
          let l = (IsIn-count_from b.0 0 (length c.shape.points) b.1).1 in
          subst (λ (x : List ℕ). IsIn x c.shape.points) (ap (λ (f : Fact). f.leaves) d.2 ∙ a.2) (in_list c.shape.points b.0 [] (omega (arith, l)))

      back : (z : List ℕ) → IsIn z c.shape.points → IsIn z (points_of (all_facts c cube))
      back z h =
          let a = at_some [] z c.shape.points h in
          let some = has_facts c a.0 ok.rules a.1 in
          let fact = map_has (fact_at c cube a.0) 0 (count_from 0 (facts_at c.shape a.0)) (count_from_has 0 0 (facts_at c.shape a.0) (omega arith) (omega (arith, some))) in
          let among = flat_map_has (block c cube) a.0 (fact_at c cube a.0 0) (count_from 0 (length c.shape.points)) (count_from_has a.0 0 (length c.shape.points) (omega arith) (let l = a.1 in omega (arith, l))) fact in
          in_order_has z _ (subst (λ (x : List ℕ). IsIn x (map (λ f. f.leaves) (all_facts c cube))) a.2 (map_has (λ (f : Fact). f.leaves) (fact_at c cube a.0 0) (all_facts c cube) among))

  -- the facts at a point are those of its place
  block_whole : (i : ℕ) (ks : List ℕ) → filter (λ (f : Fact). same (leaves c.shape i) f.leaves) (map (fact_at c cube i) ks) ≡ map (fact_at c cube i) ks
  block_whole i [] = refl
  block_whole i (k ∷ ks) = rw (same_refl (leaves c.shape i)) (ap (λ fs. fact_at c cube i k ∷ fs) (block_whole i ks))

  block_none : (i j : ℕ) (ks : List ℕ) → same (leaves c.shape i) (leaves c.shape j) ≡ false → filter (λ (f : Fact). same (leaves c.shape i) f.leaves) (map (fact_at c cube j) ks) ≡ []
  block_none i j [] e = refl
  block_none i j (k ∷ ks) e = rw e (block_none i j ks e)

  picked : (i : ℕ) → i < length c.shape.points → facts_at_point (all_facts c cube) (leaves c.shape i) ≡ block c cube i
  picked i l = one_block (λ (f : Fact). same (leaves c.shape i) f.leaves) (block c cube) i 0 (length c.shape.points) (omega arith) (omega (arith, l)) (block_whole i (count_from 0 (facts_at c.shape i)))
      (λ j k d. block_none i j (count_from 0 (facts_at c.shape j)) (points_apart c.shape.points i j ok.rules.increasing l (omega (arith, k)) d))

  -- the sum of a measure over them is the value
  units_at : (m i k : ℕ) → m < length c.dims.measures → get_or (fact_at c cube i k).units m (pos 0) ≡ share (value_at cube m i) (facts_at c.shape i) k
  units_at m i k l =
      let size = length-count_from 0 (length c.dims.measures) in
      let at = numbered 0 (length c.dims.measures) m l in
      let zero_more : 0 + m ≡ m = omega arith in
      mapped (λ (n : ℕ). share (value_at cube n i) (facts_at c.shape i) k) (count_from 0 (length c.dims.measures)) m 0 (pos 0) (omega (arith, size, l)) ∙ ap (λ (n : ℕ). share (value_at cube n i) (facts_at c.shape i) k) (at ∙ zero_more)

  summed : (m i : ℕ) (ks : List ℕ) → m < length c.dims.measures → units_sum m (map (fact_at c cube i) ks) ≡ sums (share (value_at cube m i) (facts_at c.shape i)) ks
  summed m i [] l = refl
  summed m i (k ∷ ks) l = ap₂ (λ (a b : ℤ). a +ℤ b) (units_at m i k l) (summed m i ks l)

  value_read : (m i : ℕ) → m < length c.dims.measures → i < length c.shape.points → units_sum m (facts_at_point (all_facts c cube) (leaves c.shape i)) ≡ value_at cube m i
  value_read m i l h = ap (units_sum m) (picked i h) ∙ summed m i (count_from 0 (facts_at c.shape i)) l ∙ shares_add_up (value_at cube m i) (facts_at c.shape i) (has_facts c i ok.rules h)

  count_read : (i : ℕ) → i < length c.shape.points → length (facts_at_point (all_facts c cube) (leaves c.shape i)) ≡ facts_at c.shape i
  count_read i h = ap length (picked i h) ∙ length-map (count_from 0 (facts_at c.shape i)) (fact_at c cube i) ∙ length-count_from 0 (facts_at c.shape i)

  -- the shape and the cube
  pub shape_read : shape_of (all_facts c cube) ≡ c.shape
  shape_read = ap₂ (λ (ps : List (List ℕ)) (fs : List ℕ). record { points = ps; facts = fs }) points_read
      (ap (map (λ (x : List ℕ). length (facts_at_point (all_facts c cube) x))) points_read
      ∙ by_number (λ (x : List ℕ). length (facts_at_point (all_facts c cube) x)) c.shape.points [] 0 c.shape.facts ok.rules.facts (λ i l. sym (count_read i l)))

  pub cube_read : cube_of c.dims (all_facts c cube) ≡ cube
  cube_read = by_number (λ (m : ℕ). map (λ (x : List ℕ). units_sum m (facts_at_point (all_facts c cube) x)) (points_of (all_facts c cube))) (count_from 0 (length c.dims.measures)) 0 [] cube (ok.measures ∙ sym (length-count_from 0 (length c.dims.measures)))
      (λ m l.
      let size = length-count_from 0 (length c.dims.measures) in
      let low : m < length c.dims.measures = omega (arith, l, size) in
      let at = numbered 0 (length c.dims.measures) m low in
      let zero_more : 0 + m ≡ m = omega arith in
      let many = ok.measures in
      sym (ap (λ (n : ℕ). map (λ (x : List ℕ). units_sum n (facts_at_point (all_facts c cube) x)) (points_of (all_facts c cube))) (at ∙ zero_more)
      ∙ ap (map (λ (x : List ℕ). units_sum m (facts_at_point (all_facts c cube) x))) points_read
      ∙ by_number (λ (x : List ℕ). units_sum m (facts_at_point (all_facts c cube) x)) c.shape.points [] (pos 0) (get_or cube m []) (Each-get_or (λ (vs : List ℤ). length vs ≡ length c.shape.points) cube m [] ok.long (omega (arith, many, low)))
      (λ i h. sym (value_read m i low h))))
