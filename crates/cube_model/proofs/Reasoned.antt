-- A reason implies a refusal.
use Rattle.std.specs.List.{list_all, list_any}
use Rattle.std.proofs.Common.{◌≡◌, ℕ, zero, suc, ◌<◌, ◌⊎◌, inl, inr, Bool, true, false, cond, not, ◌&&◌, List, [], ◌∷◌, ◌++◌, length, map, Option, Some, None, ℤ, pos, ◌+ℤ◌, refl, sym, ap, ap₂, ◌∙◌, subst, arith, eqb, ⊎_elim}
use Rattle.std.proofs.lemmas.Bool.{false≢true, and_parts, or_cases, not-true, eqb-true}
use Rattle.std.proofs.lemmas.Int.{ints}
use Rattle.cube_model.specs.declared.cell.Cell.{Cell}
use Rattle.cube_model.specs.declared.entry.Entry.{Entry}
use Rattle.cube_model.specs.declared.link.Link.{Link}
use Rattle.cube_model.specs.declared.link.Link.TheVariants.{Pair, Single}
use Rattle.cube_model.specs.declared.policy.Method.{Method}
use Rattle.cube_model.specs.declared.policy.Method.TheVariants.{Plain, Lattice, Parity}
use Rattle.cube_model.specs.declared.request.Request.{Request}
use Rattle.cube_model.specs.declared.request.What.{What}
use Rattle.cube_model.specs.declared.request.What.TheVariants.{Count, Measure}
use Rattle.cube_model.specs.declared.verdict.Verdict.TheVariants.{Answer}
use Rattle.cube_model.specs.Cubes.{Public, same, key_at, covers, together, places, IsIn}
use Rattle.cube_model.specs.Requests.{grain}
use Rattle.cube_model.specs.Protection.{method, listed, guarded, protected, same_cell, is_cut, uncut}
use Rattle.cube_model.specs.Links.{links, follows}
use Rattle.cube_model.specs.Entries.{is_on, on, links_in}
use Rattle.cube_model.specs.Verdicts.{source, links_of, narrowed, holds_grain, first_stop, judged, judged_what, verdict, IsAdmissible}
use Rattle.cube_model.specs.Reasons.{Origin, WalkStep, End, Reason, agree, are_rising, is_block, are_blocks, numbered, links_on, at_most_one, links_by, joins, is_at, are_steps, led_to, is_odd, is_end, is_walk, is_reason_by, is_reason_on, ReasonRefuses}
use Rattle.cube_model.specs.Reasons.Origin.{By, Own}
use Rattle.cube_model.specs.Reasons.Reason.{Blocks, Walk}
use Rattle.cube_model.specs.LinkLaws.{entry, Suits, SuitsAll}
use Rattle.cube_model.proofs.Histories.{source_cuts, lattice_answer, cuts_from_uncut}
use Rattle.cube_model.proofs.LinkFacts.{free_is, follows_is}
use Rattle.cube_model.proofs.Members.{tested, IsIn-append, append_left, append_right, filter_has, flat_map_has, count_from_has, same_eq}
use Rattle.cube_model.proofs.Objects.{same_cell_eq}
use Rattle.cube_model.proofs.Orders.{cut_is_cuts}
use Rattle.cube_model.proofs.Parities.{all_at, history_free, one_more, parity_answer}
use Rattle.cube_model.proofs.Walks.{any_from, any_has, listed_from}

-- ---- blocks: the cuboid doesn't cut the cell
agree_same : (a b : Bool) → agree a b ≡ true → a ≡ b
agree_same true b e = sym e
agree_same false true e = absurd (false≢true e)
agree_same false false e = refl

blocks_uncut : (g : Public) (m : ℕ) (c : List ℕ) (t : Cell) (blocks : List Cell) → are_blocks g m c t blocks ≡ true → is_cut g c t ≡ true → ⊥
blocks_uncut g m c t blocks e cut =
    let p = and_parts (list_any (same_cell t) (protected g m) && list_all (is_block g c) blocks && are_rising (map (λ b. b.key) blocks)) (list_all (λ i. agree (covers g t i) (list_any (λ b. covers g b i) blocks)) (places g)) e in
    let p2 = and_parts (list_any (same_cell t) (protected g m) && list_all (is_block g c) blocks) (are_rising (map (λ b. b.key) blocks)) p.0 in
    let of_c = (and_parts (list_any (same_cell t) (protected g m)) (list_all (is_block g c) blocks) p2.0).1 in
    let k = (cut_is_cuts g c t).0 cut in
    clash of_c p.1 k.0 k.1 k.2 k.3 k.4 k.5 k.6
  where
    clash : list_all (is_block g c) blocks ≡ true → list_all (λ i. agree (covers g t i) (list_any (λ b. covers g b i) blocks)) (places g) ≡ true → (i j : ℕ) → i < length g.shape.points → j < length g.shape.points → covers g t i ≡ true → covers g t j ≡ false → together g c i j ≡ true → ⊥
    clash of_c exact i j a b p q s =
        let at : (k : ℕ) → IsIn k (places g) → covers g t k ≡ list_any (λ x. covers g x k) blocks = λ k z. agree_same (covers g t k) (list_any (λ x. covers g x k) blocks) (all_at (λ i. agree (covers g t i) (list_any (λ b. covers g b i) blocks)) k (places g) exact z) in
        let x = any_from (λ x. covers g x i) blocks (sym (at i (count_from_has i 0 (length g.shape.points) (omega arith) (omega arith))) ∙ p) in
        let levels : x.0.levels ≡ c = same_eq x.0.levels c (and_parts (same x.0.levels c) _ (all_at (is_block g c) x.0 blocks of_c x.1)).0 in
        let moved : key_at g x.0.levels j ≡ key_at g x.0.levels i = ap (λ l. key_at g l j) levels ∙ sym (same_eq (key_at g c i) (key_at g c j) s) ∙ ap (λ l. key_at g l i) (sym levels) in
        false≢true (sym q ∙ at j (count_from_has j 0 (length g.shape.points) (omega arith) (omega arith)) ∙ any_has (λ x. covers g x j) x.0 blocks x.1 (ap (λ k. same k x.0.key) moved ∙ x.2))

blocks_refuse : (g : Public) (h : List Entry) (r : Request) (m : ℕ) (t : Cell) (blocks : List Cell) (fresh : Bool) → method g m ≡ Lattice → IsAdmissible g h → are_blocks g m (narrowed (source h m) (grain r)) t blocks ≡ true → judged Lattice g h r m ≡ Answer fresh → ⊥
blocks_refuse g h r m t blocks fresh way adm e v = cases (lattice_answer g h r m fresh v)
  where
    is_protected : IsIn t (protected g m)
    is_protected =
        let p = and_parts (list_any (same_cell t) (protected g m) && list_all (is_block g (narrowed (source h m) (grain r))) blocks && are_rising (map (λ b. b.key) blocks)) _ e in
        let p2 = and_parts (list_any (same_cell t) (protected g m) && list_all (is_block g (narrowed (source h m) (grain r))) blocks) (are_rising (map (λ b. b.key) blocks)) p.0 in
        let a = any_from (same_cell t) (protected g m) (and_parts (list_any (same_cell t) (protected g m)) (list_all (is_block g (narrowed (source h m) (grain r))) blocks) p2.0).0 in
        subst (λ s. IsIn s (protected g m)) (sym (same_cell_eq t a.0 a.2)) a.1

    held : (o : Option (List ℕ)) → source h m ≡ o → holds_grain o (grain r) ≡ true → is_cut g (narrowed o (grain r)) t ≡ true
    held None q k = absurd (false≢true k)
    held (Some s) q k = ap (λ c. is_cut g c t) (same_eq (narrowed (Some s) (grain r)) s k) ∙ source_cuts g h m s way adm q t is_protected

    cases : (holds_grain (source h m) (grain r) ≡ true) × (fresh ≡ false) ⊎ (uncut g (narrowed (source h m) (grain r)) m ≡ None) × (fresh ≡ true) → ⊥
    cases (inl p) = blocks_uncut g m (narrowed (source h m) (grain r)) t blocks e (held (source h m) refl p.0)
    cases (inr p) = blocks_uncut g m (narrowed (source h m) (grain r)) t blocks e (cuts_from_uncut g (narrowed (source h m) (grain r)) m p.0 t is_protected)

-- ---- walks: what suits both the history and the request has 0 at the place
numbered_in : {X : Type 0} (n : ℕ) (xs : List X) (x : X) → numbered n xs ≡ Some x → IsIn x xs
numbered_in zero xs x e = absurd (cc)
numbered_in (suc n) [] x e = absurd (cc)
numbered_in (suc zero) (y ∷ ys) x e = inl (cc)
numbered_in (suc (suc n)) (y ∷ ys) x e = inr (numbered_in (suc n) ys x e)

by_in : (g : Public) (h : List Entry) (r : Request) (m : ℕ) (o : Origin) (l : Link) → IsIn l (links_by g h r m o) → IsIn l (links_of g h m ++ links g r)
unfolding links_of
by_in g h r m (By n) l k = go (numbered n h) refl k
  where
    go : (e : Option Entry) → numbered n h ≡ e → IsIn l (links_on g m e) → IsIn l (links_of g h m ++ links g r)
    go None q z = absurd z
    go (Some e) q z = cases (is_on m e) refl z
      where
        cases : (b : Bool) → is_on m e ≡ b → IsIn l (cond b (links_in g e) []) → IsIn l (links_of g h m ++ links g r)
        cases true p y = append_left l (links_of g h m) (links g r) (flat_map_has (links_in g) e l (on m h) (filter_has (is_on m) e h p (numbered_in n h e q)) y)
        cases false p y = absurd y
by_in g h r m (Own n) l k = append_right l (links_of g h m) (links g r) (go (numbered n (links g r)) refl k)
  where
    go : (o : Option Link) → numbered n (links g r) ≡ o → IsIn l (at_most_one o) → IsIn l (links g r)
    go None q z = absurd z
    go (Some x) q (inl e) = subst (λ y. IsIn y (links g r)) e (numbered_in n (links g r) x q)
    go (Some x) q (inr z) = absurd z

-- a list that suits all links that can be named
module _ (xs : List ℤ) (named : Origin → List Link) (suits_named : (o : Origin) (l : Link) → IsIn l (named o) → Suits xs l) where
  joined : (a b : ℕ) (l : Link) → joins a b l ≡ true → Suits xs l → entry xs a +ℤ entry xs b ≡ pos 0
  joined a b (Pair i j) e s = ⊎_elim
      (λ p. let q = and_parts (eqb i a) (eqb j b) p in ap₂ (λ x y. entry xs x +ℤ entry xs y) (sym (eqb-true i a q.0)) (sym (eqb-true j b q.1)) ∙ s)
      (λ p. let q = and_parts (eqb i b) (eqb j a) p in ap₂ (λ x y. entry xs x +ℤ entry xs y) (sym (eqb-true j a q.1)) (sym (eqb-true i b q.0)) ∙ swap (entry xs i) (entry xs j) s)
      (or_cases (eqb i a && eqb j b) (eqb i b && eqb j a) e)
    where
      swap : (x y : ℤ) → x +ℤ y ≡ pos 0 → y +ℤ x ≡ pos 0
      swap x y e = omega (arith, ints)
  joined a b (Single i) e s = absurd (false≢true e)

  -- along the steps the entry stays, or turns to its opposite
  along : (from : ℕ) (steps : List WalkStep) → are_steps named from steps ≡ true → (is_odd steps ≡ false → entry xs (led_to from steps) ≡ entry xs from) × (is_odd steps ≡ true → entry xs (led_to from steps) +ℤ entry xs from ≡ pos 0)
  along from [] e = ((λ q. refl), (λ q. absurd (false≢true q)))
  along from (s ∷ steps) e =
      let p = and_parts (eqb s.from from && list_any (joins s.from s.to) (named s.by)) (are_steps named s.to steps) e in
      let q = and_parts (eqb s.from from) (list_any (joins s.from s.to) (named s.by)) p.0 in
      let a = any_from (joins s.from s.to) (named s.by) q.1 in
      let one : entry xs s.from +ℤ entry xs s.to ≡ pos 0 = joined s.from s.to a.0 a.2 (suits_named s.by a.0 a.1) in
      let here : entry xs from +ℤ entry xs s.to ≡ pos 0 = ap (λ x. entry xs x +ℤ entry xs s.to) (sym (eqb-true s.from from q.0)) ∙ one in
      let ih = along s.to steps p.1 in (
        (λ z. even (entry xs (led_to s.to steps)) (entry xs s.to) (entry xs from) (ih.1 (flip (is_odd steps) z)) here),
        (λ z. odd (entry xs (led_to s.to steps)) (entry xs s.to) (entry xs from) (ih.0 (not-true (is_odd steps) z)) here),
      )
    where
      flip : (b : Bool) → not b ≡ false → b ≡ true
      flip true e = refl
      flip false e = absurd (false≢true (sym e))

      even : (x y z : ℤ) → x +ℤ y ≡ pos 0 → z +ℤ y ≡ pos 0 → x ≡ z
      even x y z p q = omega (arith, ints)

      odd : (x y z : ℤ) → x ≡ y → z +ℤ y ≡ pos 0 → x +ℤ z ≡ pos 0
      odd x y z p q = omega (arith, ints)

  ended_zero : (place : ℕ) (steps : List WalkStep) (e : Option End) → are_steps named place steps ≡ true → is_end named place steps e ≡ true → entry xs place ≡ pos 0
  ended_zero place steps None s e =
      let p = and_parts (is_odd steps) (eqb (led_to place steps) place) e in
      twice (entry xs place) (ap (λ x. entry xs x +ℤ entry xs place) (sym (eqb-true (led_to place steps) place p.1)) ∙ (along place steps s).1 p.0)
    where
      twice : (x : ℤ) → x +ℤ x ≡ pos 0 → x ≡ pos 0
      twice x e = omega (arith, ints)
  ended_zero place steps (Some end) s e =
      let p = and_parts (eqb end.place (led_to place steps)) (list_any (is_at end.place) (named end.by)) e in
      let a = any_from (is_at end.place) (named end.by) p.1 in
      let z : entry xs (led_to place steps) ≡ pos 0 = ap (entry xs) (sym (eqb-true end.place (led_to place steps) p.0)) ∙ zero_at end.place a.0 a.2 (suits_named end.by a.0 a.1) in
      tested (is_odd steps)
      (λ o. back (entry xs (led_to place steps)) (entry xs place) z ((along place steps s).1 o))
      (λ o. sym ((along place steps s).0 o) ∙ z)
    where
      zero_at : (p : ℕ) (l : Link) → is_at p l ≡ true → Suits xs l → entry xs p ≡ pos 0
      zero_at p (Pair i j) e s = absurd (false≢true e)
      zero_at p (Single i) e s = ap (entry xs) (sym (eqb-true i p e)) ∙ s

      back : (x y : ℤ) → x ≡ pos 0 → x +ℤ y ≡ pos 0 → y ≡ pos 0
      back x y p q = omega (arith, ints)

-- under an answer some list suits both and has +1 at a guarded place
answered_free : (g : Public) (h : List Entry) (r : Request) (m : ℕ) (fresh : Bool) (i : ℕ) → method g m ≡ Parity → IsAdmissible g h → judged Parity g h r m ≡ Answer fresh → IsIn i (guarded g m) → (xs : List ℤ) × (SuitsAll (length g.shape.points) (links_of g h m ++ links g r) xs) × (entry xs i ≡ pos 1)
answered_free g h r m fresh i way adm v k = cases (parity_answer g h r m fresh v)
  where
    cases : (list_all (follows (length g.shape.points) (links_of g h m)) (links g r) ≡ true) × (fresh ≡ false) ⊎ (first_stop (length g.shape.points) (guarded g m) (links_of g h m) (links g r) ≡ None) × (fresh ≡ true) → (xs : List ℤ) × (SuitsAll (length g.shape.points) (links_of g h m ++ links g r) xs) × (entry xs i ≡ pos 1)
    cases (inl p) =
        let a = (free_is (length g.shape.points) (links_of g h m) i).0 (history_free g h m way adm i k) in
        (a.0, record { long = a.1.long; small = a.1.small; all = λ l z. ⊎_elim (λ y. a.1.all l y) (λ y. (follows_is (length g.shape.points) (links_of g h m) l).0 (all_at (follows (length g.shape.points) (links_of g h m)) l (links g r) p.0 y) a.0 a.1) (IsIn-append l (links_of g h m) (links g r) z) }, a.2)
    cases (inr p) = (free_is (length g.shape.points) (links_of g h m ++ links g r) i).0 (one_more g m (links_of g h m) (links g r) (history_free g h m way adm) p.0 i k)

walk_refuses : (g : Public) (h : List Entry) (r : Request) (m place : ℕ) (steps : List WalkStep) (e : Option End) (fresh : Bool) → method g m ≡ Parity → IsAdmissible g h → is_walk g h r m place steps e ≡ true → judged Parity g h r m ≡ Answer fresh → ⊥
walk_refuses g h r m place steps e fresh way adm walk v =
    let p = and_parts (listed place (guarded g m) && are_steps (links_by g h r m) place steps) (is_end (links_by g h r m) place steps e) walk in
    let q = and_parts (listed place (guarded g m)) (are_steps (links_by g h r m) place steps) p.0 in
    let a = answered_free g h r m fresh place way adm v (listed_from place (guarded g m) q.0) in
    differ (sym a.2 ∙ ended_zero a.0 (links_by g h r m) (λ o l k. a.1.all l (by_in g h r m o l k)) place steps e q.1 p.1)
  where
    differ : pos 1 ≡ pos 0 → ⊥
    differ e = cc

refuses_by : (way : Method) (g : Public) (h : List Entry) (r : Request) (m : ℕ) (x : Reason) (fresh : Bool) → method g m ≡ way → IsAdmissible g h → is_reason_by way g h r m x ≡ true → judged way g h r m ≡ Answer fresh → ⊥
refuses_by Plain g h r m x fresh way adm e v = false≢true e
refuses_by Lattice g h r m (Blocks t blocks) fresh way adm e v = blocks_refuse g h r m t blocks fresh way adm e v
refuses_by Lattice g h r m (Walk place steps end) fresh way adm e v = false≢true e
refuses_by Parity g h r m (Blocks t blocks) fresh way adm e v = false≢true e
refuses_by Parity g h r m (Walk place steps end) fresh way adm e v = walk_refuses g h r m place steps end fresh way adm e v

refuses_on : (what : What) (g : Public) (h : List Entry) (r : Request) (x : Reason) (fresh : Bool) → IsAdmissible g h → is_reason_on what g h r x ≡ true → judged_what what g h r ≡ Answer fresh → ⊥
refuses_on Count g h r x fresh adm e v = false≢true e
refuses_on (Measure m) g h r x fresh adm e v = refuses_by (method g m) g h r m x fresh refl adm e v

pub reason_refuses : ReasonRefuses
unfolding verdict
reason_refuses g h r x fresh adm e v = refuses_on r.what g h r x fresh adm e v
