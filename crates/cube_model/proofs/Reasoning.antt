-- Each refusal other than for want of room has a reason.
use Rattle.std.specs.List.{list_all, list_any}
use Rattle.std.specs.Prelude.{◌+◌, ◌-◌, unwrap_or}
use Rattle.std.proofs.Common.{◌≡◌, ℕ, zero, suc, ◌*◌, ◌<◌, inl, inr, Bool, true, false, cond, not, slice_index_or, ◌&&◌, ◌||◌, List, [], ◌∷◌, ◌++◌, length, map, find, take, Option, Some, None, is_some, refl, sym, ap, ◌∙◌, subst, arith, eqb, leb, ⊎_elim}
use Rattle.std.proofs.lemmas.Bool.{false≢true, and_parts, and_from, or_cases, or_left, or_right, not-true, eq-eqb}
use Rattle.cube_model.specs.declared.cell.Cell.{Cell}
use Rattle.cube_model.specs.declared.entry.Entry.{Entry}
use Rattle.cube_model.specs.declared.link.Link.{Link}
use Rattle.cube_model.specs.declared.link.Link.TheVariants.{Pair, Single}
use Rattle.cube_model.specs.declared.policy.Method.{Method}
use Rattle.cube_model.specs.declared.policy.Method.TheVariants.{Plain, Lattice, Parity}
use Rattle.cube_model.specs.declared.request.Request.{Request}
use Rattle.cube_model.specs.declared.request.What.{What}
use Rattle.cube_model.specs.declared.request.What.TheVariants.{Count, Measure}
use Rattle.cube_model.specs.declared.verdict.Verdict.TheVariants.{Answer, Full, SourceWould}
use Rattle.cube_model.specs.Cubes.{Public, same, before, in_order, key_at, covers, covered, places, count_from, IsIn, IsIncreasing}
use Rattle.cube_model.specs.Requests.{grain}
use Rattle.cube_model.specs.Protection.{method, listed, guarded, protected, same_cell, first, is_cut, uncut}
use Rattle.cube_model.specs.Links.{links, suiting, has_plus, is_free, follows, pairs_among}
use Rattle.cube_model.specs.Entries.{requests, is_on, on, links_in}
use Rattle.cube_model.specs.Verdicts.{fixes, source, links_of, narrowed, holds_grain, most_held, unless_uncut, fixed_by, first_stop, stopped_at, unless_stopped, judged, judged_what, verdict, IsAdmissible}
use Rattle.cube_model.specs.Reasons.{Origin, WalkStep, End, agree, are_rising, is_block, are_blocks, numbered, links_on, at_most_one, links_by, joins, is_at, are_steps, led_to, is_odd, is_end, is_reason_by, is_reason_on, blocks_of, RefusalsHaveReasons}
use Rattle.cube_model.specs.Reasons.Origin.{By, Own}
use Rattle.cube_model.specs.Reasons.Reason.{Blocks, Walk}
use Rattle.cube_model.specs.LinkLaws.{AreOfPlaces, Joins, singles_among, ends, is_fixed}
use Rattle.cube_model.proofs.Alike.{of_places_to, both_ways}
use Rattle.cube_model.proofs.Boxes.{IsIn-take}
use Rattle.cube_model.proofs.FixedPlaces.{free_is_not_fixed, single_from}
use Rattle.cube_model.proofs.Histories.{admissible_allowed}
use Rattle.cube_model.proofs.Leasts.{uncut_is_first}
use Rattle.cube_model.proofs.LinkFacts.{walks_suffice}
use Rattle.cube_model.proofs.Members.{tested, IsIn-filter, filter_has, IsIn-map, map_has, IsIn-flat_map, IsIn-append, append_right, IsIn-in_order, first_of, same_refl, same_eq}
use Rattle.cube_model.proofs.Orders.{cut_is_cuts, in_order_has, in_order_increasing}
use Rattle.cube_model.proofs.Parities.{no_answer_fixes, no_full_fixes, no_source_fixes, all_from, pair_from, guarded_below, links_places, links_of_places}
use Rattle.cube_model.proofs.Sources.{place_below}
use Rattle.cube_model.proofs.Walks.{any_from, any_has, listed_from, listed_has}

-- ---- blocks
rising_from : (ks : List (List ℕ)) → IsIncreasing ks → are_rising ks ≡ true
rising_from [] i = refl
rising_from (k ∷ ks) i = and_from (list_all (before k) ks) (are_rising ks) i.0 (rising_from ks i.1)

block : List ℕ → List ℕ → Cell
block c key = record { levels = c; key = key }

keys_back : (c : List ℕ) (ks : List (List ℕ)) → map (λ (b : Cell). b.key) (map (block c) ks) ≡ ks
unfolding block
keys_back c [] = refl
keys_back c (k ∷ ks) = ap (λ x. k ∷ x) (keys_back c ks)

agree_from : (a b : Bool) → a ≡ b → agree a b ≡ true
agree_from true b e = sym e
agree_from false b e = ap not (sym e)

some_first : (g : Public) (b : Cell) (i : ℕ) → IsIn i (covered g b) → is_some (first (covered g b)) ≡ true
some_first g b i k = ap is_some (first_of i (covered g b) k).1

module _ (g : Public) (m : ℕ) (c : List ℕ) (t : Cell) (is_protected : IsIn t (protected g m)) (not_cut : is_cut g c t ≡ false) where
  keys : List (List ℕ)
  keys = in_order (map (key_at g c) (covered g t))

  covered_place : (i : ℕ) → IsIn i (covered g t) → (covers g t i ≡ true) × IsIn i (places g)
  covered_place i k = IsIn-filter (covers g t) i (places g) k

  key_has : (i : ℕ) → IsIn i (covered g t) → IsIn (key_at g c i) keys
  unfolding keys
  key_has i k = in_order_has (key_at g c i) (map (key_at g c) (covered g t)) (map_has (key_at g c) i (covered g t) k)

  key_from : (k : List ℕ) → IsIn k keys → (i : ℕ) × (IsIn i (covered g t)) × (key_at g c i ≡ k)
  unfolding keys
  key_from k z = IsIn-map (key_at g c) k (covered g t) (IsIn-in_order k (map (key_at g c) (covered g t)) z)

  each_block : (b : Cell) → IsIn b (map (block c) keys) → is_block g c b ≡ true
  unfolding block
  each_block b z =
      let a = IsIn-map (block c) b keys z in
      let i = key_from a.0 a.1 in
      let p = covered_place i.0 i.1 in
      subst (λ x. is_block g c x ≡ true) a.2 (and_from (same c c) (is_some (first (covered g (block c a.0)))) (same_refl c)
      (some_first g (block c a.0) i.0 (filter_has (covers g (block c a.0)) i.0 (places g) (ap (λ k. same k a.0) i.2 ∙ same_refl a.0) p.1)))

  same_places : (i : ℕ) → IsIn i (places g) → covers g t i ≡ list_any (λ b. covers g b i) (map (block c) keys)
  unfolding block
  same_places i z = both_ways (covers g t i) (list_any (λ b. covers g b i) (map (block c) keys))
      (λ e. any_has (λ b. covers g b i) (block c (key_at g c i)) (map (block c) keys) (map_has (block c) (key_at g c i) keys (key_has i (filter_has (covers g t) i (places g) e z))) (same_refl (key_at g c i)))
      (λ e. let a = any_from (λ b. covers g b i) (map (block c) keys) e in
      let b = IsIn-map (block c) a.0 keys a.1 in
      let j = key_from b.0 b.1 in
      let p = covered_place j.0 j.1 in
      let key_i : key_at g c i ≡ b.0 = same_eq (key_at g c i) b.0 (subst (λ x. covers g x i ≡ true) (sym b.2) a.2) in
      tested (covers g t i) (λ q. q) (λ q. absurd (false≢true (sym not_cut ∙ (cut_is_cuts g c t).1 (j.0, i, place_below g j.0 p.1, place_below g i z, p.0, q, ap (λ k. same k (key_at g c i)) (j.2 ∙ sym key_i) ∙ same_refl (key_at g c i))))))

  pub blocks_are : are_blocks g m c t (blocks_of g c t) ≡ true
  unfolding keys block
  blocks_are = and_from (list_any (same_cell t) (protected g m) && list_all (is_block g c) (blocks_of g c t) && are_rising (map (λ b. b.key) (blocks_of g c t))) (list_all (λ i. agree (covers g t i) (list_any (λ b. covers g b i) (blocks_of g c t))) (places g))
      (and_from (list_any (same_cell t) (protected g m) && list_all (is_block g c) (blocks_of g c t)) (are_rising (map (λ b. b.key) (blocks_of g c t)))
      (and_from (list_any (same_cell t) (protected g m)) (list_all (is_block g c) (blocks_of g c t))
      (any_has (same_cell t) t (protected g m) is_protected (and_from (same t.levels t.levels) (same t.key t.key) (same_refl t.levels) (same_refl t.key)))
      (all_from (is_block g c) (blocks_of g c t) each_block))
      (rising_from (map (λ b. b.key) (blocks_of g c t)) (subst IsIncreasing (sym (keys_back c keys)) (in_order_increasing (map (key_at g c) (covered g t))))))
      (all_from (λ i. agree (covers g t i) (list_any (λ b. covers g b i) (blocks_of g c t))) (places g) (λ i z. agree_from (covers g t i) (list_any (λ b. covers g b i) (blocks_of g c t)) (same_places i z)))

-- ---- walks
Goes : List (ℕ × ℕ) → ℕ → ℕ → ℕ → Type 0
Goes = Rattle.cube_model.specs.LinkLaws.Walk

turned : (ps : List (ℕ × ℕ)) (x y : ℕ) → Joins ps x y → Joins ps y x
turned ps x y (inl e) = inr e
turned ps x y (inr e) = inl e

further_on : (ps : List (ℕ × ℕ)) (a b c j k : ℕ) → Goes ps a j b → Goes ps b k c → Goes ps a (k + j) c
unfolding Goes
further_on ps a b c j zero v w = subst (λ q. Goes ps a (0 + j) q) w (subst (λ n. Goes ps a n b) (omega arith) v)
further_on ps a b c j (suc k) v w = let e : suc (k + j) ≡ suc k + j = omega arith in subst (λ n. Goes ps a n c) e (w.0, further_on ps a b w.0 j k v w.1, w.2)

turned_back : (ps : List (ℕ × ℕ)) (a k b : ℕ) → Goes ps a k b → Goes ps b k a
unfolding Goes
turned_back ps a zero b w = sym w
turned_back ps a (suc k) b w = let e : k + 1 ≡ suc k = omega arith in subst (λ n. Goes ps b n a) e (further_on ps b w.0 a 1 k (b, refl, turned ps w.0 b w.2) (turned_back ps a k w.0 w.1))

odd : ℕ → Bool
odd zero = false
odd (suc n) = not (odd n)

not_not : (b : Bool) → not (not b) ≡ b
not_not true = refl
not_not false = refl

odd_twice : (n : ℕ) → odd (2 * n) ≡ false
unfolding odd
odd_twice zero = refl
odd_twice (suc n) = let e : 2 * suc n ≡ suc (suc (2 * n)) = omega arith in ap odd e ∙ not_not (odd (2 * n)) ∙ odd_twice n

odd_closed : (a b : ℕ) → odd (suc (2 * b) + 2 * a) ≡ true
unfolding odd
odd_closed a b = let e : suc (2 * b) + 2 * a ≡ suc (2 * (b + a)) = omega arith in ap odd e ∙ ap not (odd_twice (b + a))

-- steps from one place to another
record Steps (named : Origin → List Link) (from to : ℕ) (is_odd_many : Bool) : Type 0 where
  pub steps : List WalkStep
  pub good : are_steps named from steps ≡ true
  pub leads : led_to from steps ≡ to
  pub parity : is_odd steps ≡ is_odd_many

last_step : (named : Origin → List Link) (from : ℕ) (steps : List WalkStep) (s : WalkStep) → are_steps named from steps ≡ true → s.from ≡ led_to from steps → list_any (joins s.from s.to) (named s.by) ≡ true → are_steps named from (steps ++ s ∷ []) ≡ true
last_step named from [] s e f j = and_from (eqb s.from from && list_any (joins s.from s.to) (named s.by)) true (and_from (eqb s.from from) (list_any (joins s.from s.to) (named s.by)) (eq-eqb s.from from f) j) refl
last_step named from (x ∷ steps) s e f j = let p = and_parts (eqb x.from from && list_any (joins x.from x.to) (named x.by)) (are_steps named x.to steps) e in and_from (eqb x.from from && list_any (joins x.from x.to) (named x.by)) (are_steps named x.to (steps ++ s ∷ [])) p.0 (last_step named x.to steps s p.1 f j)

last_led : (from : ℕ) (steps : List WalkStep) (s : WalkStep) → led_to from (steps ++ s ∷ []) ≡ s.to
last_led from [] s = refl
last_led from (x ∷ steps) s = last_led x.to steps s

last_odd : (steps : List WalkStep) (s : WalkStep) → is_odd (steps ++ s ∷ []) ≡ not (is_odd steps)
last_odd [] s = refl
last_odd (x ∷ steps) s = ap not (last_odd steps s)

pair_joins : (a b : ℕ) → joins a b (Pair a b) ≡ true
pair_joins a b = or_left (eqb a a && eqb b b) (eqb a b && eqb b a) (and_from (eqb a a) (eqb b b) (eq-eqb a a refl) (eq-eqb b b refl))

pair_joins_back : (a b : ℕ) → joins a b (Pair b a) ≡ true
pair_joins_back a b = or_right (eqb b a && eqb a b) (eqb b b && eqb a a) (and_from (eqb b b) (eqb a a) (eq-eqb b b refl) (eq-eqb a a refl))

module _ (named : Origin → List Link) (ks : List Link) (name : (l : Link) → IsIn l ks → (o : Origin) × IsIn l (named o)) where
  join_named : (x y : ℕ) → Joins (pairs_among ks) x y → (o : Origin) × (list_any (joins x y) (named o) ≡ true)
  join_named x y (inl e) = let a = name (Pair x y) (pair_from ks (x, y) e) in (a.0, any_has (joins x y) (Pair x y) (named a.0) a.1 (pair_joins x y))
  join_named x y (inr e) = let a = name (Pair y x) (pair_from ks (y, x) e) in (a.0, any_has (joins x y) (Pair y x) (named a.0) a.1 (pair_joins_back x y))

  to_steps : (from k to : ℕ) → Goes (pairs_among ks) from k to → Steps named from to (odd k)
  unfolding Goes odd
  to_steps from zero to w = record { steps = []; good = refl; leads = w; parity = refl }
  to_steps from (suc k) to w =
      let before = to_steps from k w.0 w.1 in
      let j = join_named w.0 to w.2 in
      let s : WalkStep = record { from = w.0; to = to; by = j.0 } in
      record {
        steps = before.steps ++ s ∷ [];
        good = last_step named from before.steps s before.good (sym before.leads) j.1;
        leads = last_led from before.steps s;
        parity = last_odd before.steps s ∙ ap not before.parity;
      }

  -- a fixed place has a walk
  fixed_walk : (n i : ℕ) → AreOfPlaces n ks → i < n → is_fixed n ks i ≡ true → (steps : List WalkStep) × (e : Option End) × (are_steps named i steps ≡ true) × (is_end named i steps e ≡ true)
  unfolding Goes
  fixed_walk n i of_ks below fixed = ⊎_elim closed single (or_cases (list_any (λ q. listed q (ends n ks i).oddly) (ends n ks i).evenly) (list_any (λ q. listed q (ends n ks i).evenly || listed q (ends n ks i).oddly) (singles_among ks)) fixed)
    where
      all_ends : Rattle.cube_model.specs.LinkLaws.AreEnds n (pairs_among ks) i
      all_ends = walks_suffice n (pairs_among ks) i (λ e k. of_ks (Pair e.0 e.1) (pair_from ks e k)) below

      closed : list_any (λ q. listed q (ends n ks i).oddly) (ends n ks i).evenly ≡ true → (steps : List WalkStep) × (e : Option End) × (are_steps named i steps ≡ true) × (is_end named i steps e ≡ true)
      closed z =
          let q = any_from (λ q. listed q (ends n ks i).oddly) (ends n ks i).evenly z in
          let even = (all_ends.evenly q.0).0 q.1 in
          let odd_walk = (all_ends.oddly q.0).0 (listed_from q.0 (ends n ks i).oddly q.2) in
          let s = to_steps i (suc (2 * odd_walk.0) + 2 * even.0) i (further_on (pairs_among ks) i q.0 i (2 * even.0) (suc (2 * odd_walk.0)) even.1 (turned_back (pairs_among ks) i (suc (2 * odd_walk.0)) q.0 odd_walk.1)) in
          (s.steps, None, s.good, and_from (is_odd s.steps) (eqb (led_to i s.steps) i) (s.parity ∙ odd_closed even.0 odd_walk.0) (eq-eqb (led_to i s.steps) i s.leads))

      to_single : (q k : ℕ) → IsIn q (singles_among ks) → Goes (pairs_among ks) i k q → (steps : List WalkStep) × (e : Option End) × (are_steps named i steps ≡ true) × (is_end named i steps e ≡ true)
      to_single q k z w =
          let s = to_steps i k q w in
          let a = name (Single q) (single_from ks q z) in
          (s.steps, Some (record { place = q; by = a.0 }), s.good, and_from (eqb q (led_to i s.steps)) (list_any (is_at q) (named a.0)) (eq-eqb q (led_to i s.steps) (sym s.leads)) (any_has (is_at q) (Single q) (named a.0) a.1 (eq-eqb q q refl)))

      single : list_any (λ q. listed q (ends n ks i).evenly || listed q (ends n ks i).oddly) (singles_among ks) ≡ true → (steps : List WalkStep) × (e : Option End) × (are_steps named i steps ≡ true) × (is_end named i steps e ≡ true)
      single z =
          let q = any_from (λ q. listed q (ends n ks i).evenly || listed q (ends n ks i).oddly) (singles_among ks) z in
          ⊎_elim
          (λ a. let w = (all_ends.evenly q.0).0 (listed_from q.0 (ends n ks i).evenly a) in to_single q.0 (2 * w.0) q.1 w.1)
          (λ a. let w = (all_ends.oddly q.0).0 (listed_from q.0 (ends n ks i).oddly a) in to_single q.0 (suc (2 * w.0)) q.1 w.1)
          (or_cases (listed q.0 (ends n ks i).evenly) (listed q.0 (ends n ks i).oddly) q.2)

-- each link of the history and of the request is named
numbered_has : {X : Type 0} (x : X) (xs : List X) → IsIn x xs → (n : ℕ) × (numbered (suc n) xs ≡ Some x)
numbered_has x [] k = absurd k
numbered_has x (y ∷ ys) (inl e) = (0, ap Some e)
numbered_has x (y ∷ ys) (inr k) = let r = numbered_has x ys k in (suc r.0, r.1)

link_named : (g : Public) (h : List Entry) (r : Request) (m k : ℕ) (l : Link) → IsIn l (links_of g h m ++ take k (links g r)) → (o : Origin) × IsIn l (links_by g h r m o)
unfolding links_of
link_named g h r m k l z = ⊎_elim
    (λ a. let b = IsIn-flat_map (links_in g) l (on m h) a in
    let c = IsIn-filter (is_on m) b.0 h b.1 in
    let n = numbered_has b.0 h c.1 in
    (By (suc n.0), subst (λ o. IsIn l (links_on g m o)) (sym n.1) (subst (λ x. IsIn l (cond x (links_in g b.0) [])) (sym c.0) b.2)))
    (λ a. let n = numbered_has l (links g r) (IsIn-take k l (links g r) a) in (Own (suc n.0), subst (λ o. IsIn l (at_most_one o)) (sym n.1) (inl refl)))
    (IsIn-append l (links_of g h m) (take k (links g r)) z)

-- ---- what a refusal says
lattice_refused : (g : Public) (h : List Entry) (r : Request) (m : ℕ) (c : List ℕ) (t : Cell) → judged Lattice g h r m ≡ SourceWould c t → (narrowed (source h m) (grain r) ≡ c) × (uncut g (narrowed (source h m) (grain r)) m ≡ Some t)
lattice_refused g h r m c t e = go (holds_grain (source h m) (grain r)) (leb most_held (length (requests h))) (uncut g (narrowed (source h m) (grain r)) m) e
  where
    go : (a b : Bool) (o : Option Cell) → cond a (Answer false) (cond b (Full (length (requests h))) (unless_uncut (narrowed (source h m) (grain r)) o)) ≡ SourceWould c t → (narrowed (source h m) (grain r) ≡ c) × (o ≡ Some t)
    go true b o e = absurd (cc)
    go false true o e = absurd (cc)
    go false false None e = absurd (cc)
    go false false (Some s) e = (cc, cc)

found_in : {X : Type 0} (p : X → Bool) (xs : List X) (x : X) → find p xs ≡ Some x → (IsIn x xs) × (p x ≡ true)
found_in p [] x e = absurd (cc)
found_in {X} p (y ∷ ys) x e = go (p y) refl e (found_in p ys x)
  where
    go : (b : Bool) → p y ≡ b → cond b (Some y) (find p ys) ≡ Some x → (find p ys ≡ Some x → (IsIn x ys) × (p x ≡ true)) → (IsIn x (y ∷ ys)) × (p x ≡ true)
    go true q z again = let yx : y ≡ x = cc in (inl yx, subst (λ w. p w ≡ true) yx q)
    go false q z again = let r = again z in (inr r.0, r.1)

parity_refused : (g : Public) (h : List Entry) (r : Request) (m k : ℕ) (l : Link) (i : ℕ) → judged Parity g h r m ≡ fixes k l i → (j : ℕ) × (IsIn i (guarded g m)) × (is_free (length g.shape.points) (links_of g h m ++ take j (links g r)) i ≡ false)
parity_refused g h r m k l i e = go (list_all (follows (length g.shape.points) (links_of g h m)) (links g r)) (leb most_held (length (requests h))) (first_stop (length g.shape.points) (guarded g m) (links_of g h m) (links g r)) refl e
  where
    stop : ℕ → Option ℕ
    stop j = fixed_by (suiting (length g.shape.points) (links_of g h m ++ take j (links g r))) (guarded g m)

    at_stop : (j : ℕ) (o : Option ℕ) → stop j ≡ o → is_some o ≡ true → unwrap_or o 0 ≡ i → (j : ℕ) × (IsIn i (guarded g m)) × (is_free (length g.shape.points) (links_of g h m ++ take j (links g r)) i ≡ false)
    at_stop j None q s u = absurd (false≢true s)
    at_stop j (Some x) q s u =
        let f = found_in (λ i. not (has_plus (suiting (length g.shape.points) (links_of g h m ++ take j (links g r))) i)) (guarded g m) x q in
        (j, subst (λ y. IsIn y (guarded g m)) u f.0, subst (λ y. is_free (length g.shape.points) (links_of g h m ++ take j (links g r)) y ≡ false) u (not-true (is_free (length g.shape.points) (links_of g h m ++ take j (links g r)) x) f.1))

    place_of : (a b : ℕ) (x y : Link) (u v : ℕ) → fixes a x u ≡ fixes b y v → u ≡ v
    place_of a b (Pair x x') (Pair y y') u v e = cc
    place_of a b (Pair x x') (Single y) u v e = absurd (cc)
    place_of a b (Single x) (Pair y y') u v e = absurd (cc)
    place_of a b (Single x) (Single y) u v e = cc

    go : (a b : Bool) (o : Option ℕ) → first_stop (length g.shape.points) (guarded g m) (links_of g h m) (links g r) ≡ o → cond a (Answer false) (cond b (Full (length (requests h))) (unless_stopped (stopped_at (length g.shape.points) (guarded g m) (links_of g h m) (links g r)) o)) ≡ fixes k l i → (j : ℕ) × (IsIn i (guarded g m)) × (is_free (length g.shape.points) (links_of g h m ++ take j (links g r)) i ≡ false)
    go true b o q e = absurd (no_answer_fixes k l i false e)
    go false true o q e = absurd (no_full_fixes k l i (length (requests h)) e)
    go false false None q e = absurd (no_answer_fixes k l i true e)
    go false false (Some j) q e = at_stop j (stop j) refl (found_in (λ x. is_some (stop x)) (count_from 1 (length (links g r))) j q).1 (place_of j k _ l (unwrap_or (stop j) 0) i e)

blocks_by : (way : Method) (g : Public) (h : List Entry) (r : Request) (m : ℕ) (c : List ℕ) (t : Cell) → judged way g h r m ≡ SourceWould c t → is_reason_by way g h r m (Blocks t (blocks_of g c t)) ≡ true
blocks_by Plain g h r m c t e = absurd (cc)
blocks_by Lattice g h r m c t e =
    let a = lattice_refused g h r m c t e in
    let f = uncut_is_first g (narrowed (source h m) (grain r)) m t a.1 in
    let k : IsIn t (protected g m) = subst (IsIn t) (sym f.split) (append_right t f.before (t ∷ f.after) (inl refl)) in
    subst (λ x. are_blocks g m x t (blocks_of g c t) ≡ true) (sym a.0) (blocks_are g m c t k (subst (λ x. is_cut g x t ≡ false) a.0 f.not_cut))
blocks_by Parity g h r m c t e = absurd (never (list_all (follows (length g.shape.points) (links_of g h m)) (links g r)) (leb most_held (length (requests h))) (first_stop (length g.shape.points) (guarded g m) (links_of g h m) (links g r)) e)
  where
    never : (a b : Bool) (o : Option ℕ) → cond a (Answer false) (cond b (Full (length (requests h))) (unless_stopped (stopped_at (length g.shape.points) (guarded g m) (links_of g h m) (links g r)) o)) ≡ SourceWould c t → ⊥
    never true b o e = cc
    never false true o e = cc
    never false false None e = cc
    never false false (Some k) e = no_source_fixes k (slice_index_or (links g r) (k - 1) (Single 0)) (unwrap_or (fixed_by (suiting (length g.shape.points) (links_of g h m ++ take k (links g r))) (guarded g m)) 0) c t (sym e)

walk_by : (way : Method) (g : Public) (h : List Entry) (r : Request) (m k : ℕ) (l : Link) (i : ℕ) → IsAdmissible g h → judged way g h r m ≡ fixes k l i → (steps : List WalkStep) × (e : Option End) × (is_reason_by way g h r m (Walk i steps e) ≡ true)
walk_by Plain g h r m k l i adm e = absurd (no_answer_fixes k l i false e)
walk_by Lattice g h r m k l i adm e = absurd (never (holds_grain (source h m) (grain r)) (leb most_held (length (requests h))) (uncut g (narrowed (source h m) (grain r)) m) e)
  where
    never : (a b : Bool) (o : Option Cell) → cond a (Answer false) (cond b (Full (length (requests h))) (unless_uncut (narrowed (source h m) (grain r)) o)) ≡ fixes k l i → ⊥
    never true b o e = no_answer_fixes k l i false e
    never false true o e = no_full_fixes k l i (length (requests h)) e
    never false false None e = no_answer_fixes k l i true e
    never false false (Some t) e = no_source_fixes k l i (narrowed (source h m) (grain r)) t e
walk_by Parity g h r m k l i adm e =
    let a = parity_refused g h r m k l i e in
    let ks : List Link = links_of g h m ++ take a.0 (links g r) in
    let below : i < length g.shape.points = guarded_below g m i a.1 in
    let of_ks : AreOfPlaces (length g.shape.points) ks = of_places a.0 in
    let fixed : is_fixed (length g.shape.points) ks i ≡ true = by_not (is_fixed (length g.shape.points) ks i) (sym (free_is_not_fixed (length g.shape.points) ks i of_ks below) ∙ a.2) in
    let w = fixed_walk (links_by g h r m) ks (link_named g h r m a.0) (length g.shape.points) i of_ks below fixed in
    (w.0, w.1, and_from (listed i (guarded g m) && are_steps (links_by g h r m) i w.0) (is_end (links_by g h r m) i w.0 w.1) (and_from (listed i (guarded g m)) (are_steps (links_by g h r m) i w.0) (listed_has i (guarded g m) a.1) w.2) w.3)
  where
    by_not : (b : Bool) → not b ≡ false → b ≡ true
    by_not true e = refl
    by_not false e = absurd (false≢true (sym e))

    of_places : (j : ℕ) → AreOfPlaces (length g.shape.points) (links_of g h m ++ take j (links g r))
    of_places j x z = of_places_to (length g.shape.points) x (⊎_elim (λ y. links_of_places g h m x (admissible_allowed g [] h adm) y) (λ y. links_places g r x (IsIn-take j x (links g r) y)) (IsIn-append x (links_of g h m) (take j (links g r)) z))

blocks_on : (what : What) (g : Public) (h : List Entry) (r : Request) (c : List ℕ) (t : Cell) → judged_what what g h r ≡ SourceWould c t → is_reason_on what g h r (Blocks t (blocks_of g c t)) ≡ true
blocks_on Count g h r c t e = absurd (cc)
blocks_on (Measure m) g h r c t e = blocks_by (method g m) g h r m c t e

walk_on : (what : What) (g : Public) (h : List Entry) (r : Request) (k : ℕ) (l : Link) (i : ℕ) → IsAdmissible g h → judged_what what g h r ≡ fixes k l i → (steps : List WalkStep) × (e : Option End) × (is_reason_on what g h r (Walk i steps e) ≡ true)
walk_on Count g h r k l i adm e = absurd (no_answer_fixes k l i false e)
walk_on (Measure m) g h r k l i adm e = walk_by (method g m) g h r m k l i adm e

pub refusals_have_reasons : RefusalsHaveReasons
unfolding verdict
refusals_have_reasons g h r adm = record { by_blocks = λ c t e. blocks_on r.what g h r c t e; by_walk = λ k l i e. walk_on r.what g h r k l i adm e }
