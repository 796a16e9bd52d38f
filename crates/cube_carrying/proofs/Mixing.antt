-- Rows without both flagged places and others are those that keep them apart.
use Rattle.std.specs.List.{list_all, list_any}
use Rattle.std.proofs.Common.{◌≡◌, ℕ, ◌<◌, Bool, true, false, not, ◌||◌, List, length, get_or, refl, sym, ap, ap₂, ◌∙◌}
use Rattle.std.proofs.lemmas.Bool.{false≢true, and_parts, and_from, not-true, not_from_false}
use Rattle.cube_model.specs.declared.answer.Row.{Row}
use Rattle.cube_model.specs.declared.request.What.TheVariants.{Count}
use Rattle.cube_model.specs.Cubes.{Public, same, key_at, together, places, IsIn}
use Rattle.cube_model.specs.Requests.{rows, whole}
use Rattle.cube_model.specs.Protection.{listed}
use Rattle.cube_model.proofs.Members.{tested, same_eq, same_refl}
use Rattle.cube_model.proofs.Orders.{rows_are_rows, place_of}
use Rattle.cube_model.proofs.Parities.{all_at, all_from}
use Rattle.cube_model.proofs.Sources.{place_below}
use Rattle.cube_model.proofs.Walks.{any_from, any_has, listed_from, listed_has, same_truth}
use Rattle.cube_source.proofs.Cuts.{all_picked}
use Rattle.cube_source.specs.Blocks.{AreFlags}
use Rattle.cube_carrying.specs.Standing.{is_mixed, stays_apart}

-- the places of the list are apart from the others
abbrev pub apart : Public → List ℕ → List ℕ → Bool
apart g old c = list_all (λ i. list_all (λ j. listed j old || not (together g c i j)) (places g)) old

or_true : (b : Bool) → (b || true) ≡ true
or_true true = refl
or_true false = refl

or_false : (a b : Bool) → (a || b) ≡ true → a ≡ false → b ≡ true
or_false true b e f = absurd (false≢true (sym f))
or_false false b e f = e

module _ (g : Public) (old : List ℕ) (flags : List Bool) (c : List ℕ) (are : AreFlags (length g.shape.points) (λ k. listed k old) flags) (below : (i : ℕ) → IsIn i old → i < length g.shape.points) where
  abbrev mixed : Row → Bool
  mixed row = is_mixed flags row.places

  -- an old place and another one in a row
  row_mixed : (row : Row) (i j : ℕ) → IsIn i row.places → IsIn j row.places → i < length g.shape.points → j < length g.shape.points → listed i old ≡ true → listed j old ≡ false → mixed row ≡ true
  row_mixed row i j p q l k a b = and_from (list_any (λ i. get_or flags i false) row.places) (list_any (λ i. not (get_or flags i false)) row.places)
      (any_has (λ i. get_or flags i false) i row.places p (are.at i l ∙ a))
      (any_has (λ i. not (get_or flags i false)) j row.places q (ap not (are.at j k ∙ b)))

  both : (i j : ℕ) → i < length g.shape.points → j < length g.shape.points → together g c i j ≡ true → listed i old ≡ true → listed j old ≡ false → list_any mixed (rows g (whole Count c)) ≡ true
  both i j l k t a b =
      let r = (rows_are_rows g (whole Count c)).complete i l (all_picked g c i) in
      let p = ((rows_are_rows g (whole Count c)).exactly r.0 r.1 i).0 r.2 in
      let q = ((rows_are_rows g (whole Count c)).exactly r.0 r.1 j).1 (k, all_picked g c j, sym (same_eq (key_at g c i) (key_at g c j) t) ∙ p.2) in
      any_has mixed r.0 (rows g (whole Count c)) r.1 (row_mixed r.0 i j r.2 q l k a b)

  there : stays_apart g flags c ≡ true → apart g old c ≡ true
  there e = all_from (λ i. list_all (λ j. listed j old || not (together g c i j)) (places g)) old (λ i h. all_from (λ j. listed j old || not (together g c i j)) (places g) (λ j m.
      tested (listed j old)
      (λ t. ap (λ b. b || not (together g c i j)) t)
      (λ f. tested (together g c i j)
      (λ t. absurd (false≢true (sym (not-true (list_any mixed (rows g (whole Count c))) e) ∙ both i j (below i h) (place_below g j m) t (listed_has i old h) f)))
      (λ u. ap (λ b. listed j old || not b) u ∙ or_true (listed j old)))))

  back : apart g old c ≡ true → stays_apart g flags c ≡ true
  back e = tested (list_any mixed (rows g (whole Count c)))
      (λ t. let b = any_from mixed (rows g (whole Count c)) t in
      let s = and_parts (list_any (λ i. get_or flags i false) b.0.places) (list_any (λ i. not (get_or flags i false)) b.0.places) b.2 in
      let i = any_from (λ i. get_or flags i false) b.0.places s.0 in
      let j = any_from (λ i. not (get_or flags i false)) b.0.places s.1 in
      let p = ((rows_are_rows g (whole Count c)).exactly b.0 b.1 i.0).0 i.1 in
      let q = ((rows_are_rows g (whole Count c)).exactly b.0 b.1 j.0).0 j.1 in
      let one = listed_from i.0 old (sym (are.at i.0 p.0) ∙ i.2) in
      let other : listed j.0 old ≡ false = sym (are.at j.0 q.0) ∙ not-true (get_or flags j.0 false) j.2 in
      let parted = or_false (listed j.0 old) (not (together g c i.0 j.0)) (all_at (λ j. listed j old || not (together g c i.0 j)) j.0 (places g) (all_at (λ i. list_all (λ j. listed j old || not (together g c i j)) (places g)) i.0 old e one) (place_of g j.0 q.0)) other in
      let joined : together g c i.0 j.0 ≡ true = ap₂ same p.2 q.2 ∙ same_refl b.0.key in
      absurd (false≢true (sym (not-true (together g c i.0 j.0) parted) ∙ joined)))
      (λ f. not_from_false (list_any mixed (rows g (whole Count c))) f)

  pub stays_apart_is : stays_apart g flags c ≡ apart g old c
  stays_apart_is = same_truth (stays_apart g flags c) (apart g old c) there back
