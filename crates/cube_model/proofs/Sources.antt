-- Two worlds on a lattice measure.
use Rattle.std.proofs.Common.{◌≡◌, ℕ, zero, suc, ◌+◌, ◌<◌, inl, inr, Bool, true, false, cond, not, ◌&&◌, List, [], ◌∷◌, length, map, filter, flat_map, get_or, Option, Some, None, is_some, ℤ, pos, negsuc, ◌+ℤ◌, refl, sym, ap, ap₂, ◌∙◌, subst, arith, eqb, true≢false}
use Rattle.std.proofs.lemmas.Bool.{false≢true, and_parts, not-true}
use Rattle.std.proofs.lemmas.Bool.Decides.{nat_tests}
use Rattle.cube_model.specs.declared.cell.Cell.{Cell}
use Rattle.cube_model.specs.declared.entry.Entry.{Entry}
use Rattle.cube_model.specs.declared.policy.Method.TheVariants.{Lattice}
use Rattle.cube_model.specs.declared.policy.Object.{Object}
use Rattle.cube_model.specs.declared.request.Request.{Request}
use Rattle.cube_model.specs.declared.verdict.Verdict.TheVariants.{Answer}
use Rattle.cube_model.specs.Cubes.{Public, World, IsWorld, same, in_order, cuboids_below, places, point, key_at, together, covers, covered, is_finer, Each, IsIn, IsPoint}
use Rattle.cube_model.specs.Requests.{is_picked, in_row, total, grain, is_valid}
use Rattle.cube_model.specs.Protection.{method, guards, objects_of, touched, under, same_cell, each_once, protected_by, protected, cutting_pairs, first, is_cut}
use Rattle.cube_model.specs.Verdicts.{source, IsAdmissible}
use Rattle.cube_model.specs.Twins.{plus_at, moved, with_first, change_under, change_by, changes}
use Rattle.cube_model.proofs.Finer.{alike, is_finer_trans}
use Rattle.cube_model.proofs.Growth.{Leaves, entered_grows}
use Rattle.cube_model.proofs.Histories.{AreAllowed, Each-append_left, source_cuts, answered_source, fits_valid}
use Rattle.cube_model.proofs.Members.{IsIn-filter, filter_has, IsIn-map, IsIn-flat_map, IsIn-count_from, first_of, IsIn-in_order, same_refl}
use Rattle.cube_model.proofs.Sums.{gather, total-map, gather_sum, at_one, unmet, met}

-- what a cutting pair is
pub record IsCutting (g : Public) (c : List ℕ) (t : Cell) (e : ℕ × ℕ) : Type 0 where
  pub first_below : e.0 < length g.shape.points
  pub second_below : e.1 < length g.shape.points
  pub covers_first : covers g t e.0 ≡ true
  pub not_second : covers g t e.1 ≡ false
  pub joined : together g c e.0 e.1 ≡ true

pub place_below : (g : Public) (i : ℕ) → IsIn i (places g) → i < length g.shape.points
place_below g i h = let r = IsIn-count_from i 0 (length g.shape.points) h in let b : i < 0 + length g.shape.points = r.1 in omega arith

pub cutting_is : (g : Public) (c : List ℕ) (t : Cell) (e : ℕ × ℕ) → IsIn e (cutting_pairs g c t) → IsCutting g c t e
unfolding cutting_pairs
cutting_is g c t e h =
    let a = IsIn-flat_map (λ i. map (λ j. (i, j)) (filter (λ j. not (covers g t j) && together g c i j) (places g))) e (filter (covers g t) (places g)) h in
    let b = IsIn-map (λ (j : ℕ). (a.0, j)) e (filter (λ j. not (covers g t j) && together g c a.0 j) (places g)) a.2 in
    let l = IsIn-filter (covers g t) a.0 (places g) a.1 in
    let r = IsIn-filter (λ j. not (covers g t j) && together g c a.0 j) b.0 (places g) b.1 in
    let s = and_parts (not (covers g t b.0)) (together g c a.0 b.0) r.0 in
    subst (IsCutting g c t) b.2 (record {
      first_below = place_below g a.0 l.1;
      second_below = place_below g b.0 r.1;
      covers_first = l.0;
      not_second = not-true (covers g t b.0) s.0;
      joined = s.1;
    })

-- a cuboid that cuts a cell has a first cutting pair
pub cut_at : (g : Public) (c : List ℕ) (t : Cell) → is_cut g c t ≡ true → (e : ℕ × ℕ) × (first (cutting_pairs g c t) ≡ Some e) × IsCutting g c t e
cut_at g c t h = go (cutting_pairs g c t) refl h
  where
    go : (es : List (ℕ × ℕ)) → cutting_pairs g c t ≡ es → is_some (first es) ≡ true → (e : ℕ × ℕ) × (first (cutting_pairs g c t) ≡ Some e) × IsCutting g c t e
    go [] q k = absurd (false≢true k)
    go (e ∷ es) q k = (e, ap first q, cutting_is g c t e (subst (IsIn e) (sym q) (inl refl)))

pub Each-get_or : {X : Type 0} (P : X → Type 0) (xs : List X) (i : ℕ) (d : X) → Each P xs → i < length xs → P (get_or xs i d)
Each-get_or P [] i d e h = absurd (omega arith)
Each-get_or P (x ∷ xs) zero d e h = e.0
Each-get_or P (x ∷ xs) (suc i) d e h = Each-get_or P xs i d e.1 (omega arith)

-- places that a cuboid as fine as the grain has together stand in the same rows
pub rows_alike : (w : World) (c : List ℕ) (r : Request) (i j : ℕ) (key : List ℕ) → IsWorld w → i < length w.shown.shape.points → j < length w.shown.shape.points → is_valid w.shown r ≡ true → is_finer c (grain r) ≡ true → together w.shown c i j ≡ true → in_row w.shown r key i ≡ in_row w.shown r key j
unfolding grain key_at is_picked
rows_alike w c r i j key ok a b v f t =
    let k = alike w.shown.dimensions c r.group r.picks (point w.shown i) (point w.shown j) ok.hierarchies
    (Each-get_or (IsPoint w.shown.dimensions) w.shown.shape.points i [] ok.points a)
    (Each-get_or (IsPoint w.shown.dimensions) w.shown.shape.points j [] ok.points b) (fits_valid w.shown r v) f t in
    ap₂ (λ x y. x && same y key) k.1 k.0

pub moved_is : (e : ℕ × ℕ) → (e.0 ≡ e.1 → ⊥) → (p : ℕ) → moved e p ≡ at_one e.0 (pos 1) p +ℤ at_one e.1 (negsuc 0) p
moved_is e d p = go (eqb p e.0) (eqb p e.1) refl refl
  where
    go : (a b : Bool) → eqb p e.0 ≡ a → eqb p e.1 ≡ b → cond a (pos 1) (cond b (negsuc 0) (pos 0)) ≡ cond a (pos 1) (pos 0) +ℤ cond b (negsuc 0) (pos 0)
    go true true q r = let x : p ≡ e.0 = grind (arith, nat_tests) in let y : p ≡ e.1 = grind (arith, nat_tests) in absurd (d (sym x ∙ y))
    go true false q r = refl
    go false true q r = refl
    go false false q r = refl

pub apart : (g : Public) (c : List ℕ) (t : Cell) (e : ℕ × ℕ) → IsCutting g c t e → e.0 ≡ e.1 → ⊥
apart g c t e k q = true≢false (sym k.covers_first ∙ ap (covers g t) q ∙ k.not_second)

-- +1 at one place and -1 at another, in rows that hold both or none
pub moved_balanced : (g : Public) (c : List ℕ) (t : Cell) (e : ℕ × ℕ) (test : ℕ → Bool) → IsCutting g c t e → test e.0 ≡ test e.1 → gather (moved e) (filter test (places g)) ≡ pos 0
moved_balanced g c t e test k q =
    gather_sum (moved e) (at_one e.0 (pos 1)) (at_one e.1 (negsuc 0)) (filter test (places g)) (moved_is e (apart g c t e k))
    ∙ go (test e.0) refl
  where
    go : (b : Bool) → test e.0 ≡ b → gather (at_one e.0 (pos 1)) (filter test (places g)) +ℤ gather (at_one e.1 (negsuc 0)) (filter test (places g)) ≡ pos 0
    go true x = ap₂ (λ a b. a +ℤ b) (met test e.0 (pos 1) 0 (length g.shape.points) (omega arith) (let l : e.0 < length g.shape.points = k.first_below in omega arith) x) (met test e.1 (negsuc 0) 0 (length g.shape.points) (omega arith) (let l : e.1 < length g.shape.points = k.second_below in omega arith) (sym q ∙ x))
    go false x = ap₂ (λ a b. a +ℤ b) (unmet test e.0 (pos 1) (places g) x) (unmet test e.1 (negsuc 0) (places g) (sym q ∙ x))

-- in the cell itself the changes add to 1
pub moved_covered : (g : Public) (c : List ℕ) (t : Cell) (e : ℕ × ℕ) → IsCutting g c t e → gather (moved e) (covered g t) ≡ pos 1
moved_covered g c t e k =
    gather_sum (moved e) (at_one e.0 (pos 1)) (at_one e.1 (negsuc 0)) (covered g t) (moved_is e (apart g c t e k))
    ∙ ap₂ (λ a b. a +ℤ b) (met (covers g t) e.0 (pos 1) 0 (length g.shape.points) (omega arith) (let l : e.0 < length g.shape.points = k.first_below in omega arith) k.covers_first) (unmet (covers g t) e.1 (negsuc 0) (places g) k.not_second)

-- a sum of changes is a sum of a function
pub total_filter : (g : Public) (f : ℕ → ℤ) (test : ℕ → Bool) → total (map f (places g)) (filter test (places g)) ≡ gather f (filter test (places g))
total_filter g f test = total-map f (length g.shape.points) (filter test (places g)) (λ i h. place_below g i (IsIn-filter test i (places g) h).1)

pub changes_by : (g : Public) (h : List Entry) (m : ℕ) (t : Cell) → method g m ≡ Lattice → changes g h m t ≡ map (change_under (source h m) g t) (places g)
unfolding changes
changes_by g h m t way = ap (λ k. map (change_by k g h m t) (places g)) way

pub changes_moved : (g : Public) (h : List Entry) (m : ℕ) (t : Cell) (c : List ℕ) (e : ℕ × ℕ) → method g m ≡ Lattice → source h m ≡ Some c → first (cutting_pairs g c t) ≡ Some e → changes g h m t ≡ map (moved e) (places g)
changes_moved g h m t c e way s q = changes_by g h m t way ∙ ap (λ o. map (change_under o g t) (places g)) s ∙ ap (λ o. map (with_first moved o) (places g)) q

-- the changes leave each answered row
pub lattice_leaves : (w : World) (m : ℕ) (t : Cell) (last : List Entry) → IsWorld w → method w.shown m ≡ Lattice → IsAdmissible w.shown last → IsIn t (protected w.shown m) → Leaves w.shown last m (changes w.shown last m t)
lattice_leaves w m t last ok way adm is_in h r fresh valid v held q key in_keys =
    let g : Public = w.shown in
    let grown = entered_grows h r (Answer fresh) in
    let before : AreAllowed g h = Each-append_left _ h grown.0 (subst (AreAllowed g) grown.1 held.0) in
    let s = answered_source g h r m fresh way valid before q v in
    let c = held.1.sources m s.0 way s.1 in
    let at_end : source last m ≡ Some c.0 = c.1 in
    let e = cut_at g c.0 t (source_cuts g last m c.0 way adm at_end t is_in) in
    let fine : is_finer c.0 (grain r) ≡ true = is_finer_trans c.0 s.0 (grain r) c.2 s.2 in
    ap (λ ch. total ch (filter (in_row g r key) (places g))) (changes_moved g last m t c.0 e.0 way at_end e.1)
    ∙ total_filter g (moved e.0) (in_row g r key)
    ∙ moved_balanced g c.0 t e.0 (in_row g r key) e.2 (rows_alike w c.0 r e.0.0 e.0.1 key ok e.2.first_below e.2.second_below valid fine e.2.joined)

-- each protected cell covers a place
pub IsIn-each_once : (t : Cell) (ts : List Cell) → IsIn t (each_once ts) → IsIn t ts
IsIn-each_once t [] h = h
IsIn-each_once t (s ∷ ts) (inl e) = inl e
IsIn-each_once t (s ∷ ts) (inr k) = inr (IsIn-each_once t ts (IsIn-filter (λ u. not (same_cell s u)) t (each_once ts) k).1)

pub touched_covers : (g : Public) (o : Object) (c : List ℕ) (t : Cell) → IsIn t (touched g o c) → (i : ℕ) × IsIn i (covered g t)
touched_covers g o c t h =
    let a = IsIn-map cell_of t (in_order (map (key_at g c) (filter (guards g o c) (places g)))) h in
    let b = IsIn-map (key_at g c) a.0 (filter (guards g o c) (places g)) (IsIn-in_order a.0 (map (key_at g c) (filter (guards g o c) (places g))) a.1) in
    let p = IsIn-filter (guards g o c) b.0 (places g) b.1 in
    (b.0, subst (λ s. IsIn b.0 (covered g s)) a.2 (filter_has (covers g (cell_of a.0)) b.0 (places g) (ap (λ k. same k a.0) b.2 ∙ same_refl a.0) p.1))
  where
    cell_of : List ℕ → Cell
    cell_of key = record { levels = c; key = key }

pub lattice_covers : (g : Public) (m : ℕ) (t : Cell) → method g m ≡ Lattice → IsIn t (protected g m) → (i : ℕ) × IsIn i (covered g t)
unfolding protected
lattice_covers g m t way h =
    let a = IsIn-each_once t (flat_map (under g) (objects_of g m)) (subst (λ k. IsIn t (protected_by k g m)) way h) in
    let b = IsIn-flat_map (under g) t (objects_of g m) a in
    let c = IsIn-flat_map (touched g b.0) t (cuboids_below b.0.levels) b.2 in
    touched_covers g b.0 c.0 t c.2

-- over the cell the changes add to 1
pub lattice_sum : (g : Public) (m : ℕ) (t : Cell) (last : List Entry) → method g m ≡ Lattice → IsAdmissible g last → IsIn t (protected g m) → total (changes g last m t) (covered g t) ≡ pos 1
lattice_sum g m t last way adm is_in = go (source last m) refl
  where
    go : (o : Option (List ℕ)) → source last m ≡ o → total (changes g last m t) (covered g t) ≡ pos 1
    go (Some c) s =
        let e = cut_at g c t (source_cuts g last m c way adm s t is_in) in
        ap (λ ch. total ch (covered g t)) (changes_moved g last m t c e.0 way s e.1) ∙ total_filter g (moved e.0) (covers g t) ∙ moved_covered g c t e.0 e.2
    go None s =
        let a = lattice_covers g m t way is_in in
        let b = first_of a.0 (covered g t) a.1 in
        let p = IsIn-filter (covers g t) b.0 (places g) b.2 in
        let l : b.0 < length g.shape.points = place_below g b.0 p.1 in
        ap (λ ch. total ch (covered g t)) (changes_by g last m t way ∙ ap (λ o. map (change_under o g t) (places g)) s ∙ ap (λ o. map (with_first plus_at o) (places g)) b.1)
        ∙ total_filter g (plus_at b.0) (covers g t)
        ∙ met (covers g t) b.0 (pos 1) 0 (length g.shape.points) (omega arith) (omega arith) p.0
