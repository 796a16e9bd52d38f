-- A request has at most as many links as there are places.
use Rattle.std.specs.List.{list_all}
use Rattle.std.proofs.Common.{◌≡◌, ℕ, ◌+◌, ◌≤◌, Bool, true, false, cond, ◌&&◌, List, [], ◌∷◌, length, map, filter, flat_map, refl, sym, ◌∙◌, subst, arith, length-append}
use Rattle.std.proofs.lemmas.Bool.{and_parts}
use Rattle.cube_model.specs.declared.answer.Row.{Row}
use Rattle.cube_model.specs.declared.request.Request.{Request}
use Rattle.cube_model.specs.Cubes.{Public, same, before, key_at, places, IsIncreasing}
use Rattle.cube_model.specs.Links.{linked, links}
use Rattle.cube_model.specs.Requests.{is_picked, in_row, row_keys, row_at}
use Rattle.cube_model.proofs.Boxes.{before_not_itself}
use Rattle.cube_model.proofs.Members.{same_eq}
use Rattle.cube_model.proofs.Orders.{in_order_increasing}
use Rattle.cube_model.proofs.Sums.{length-count_from}

linked_few : (is : List ℕ) → length (linked is) ≤ length is
linked_few [] = omega arith
linked_few (i ∷ []) = omega arith
linked_few (i ∷ j ∷ is) = let more = linked_few is in omega (arith, more)

-- how many of these places stand in the rows of these keys
abbrev in_rows : Public → Request → List (List ℕ) → List ℕ → ℕ
in_rows g r [] is = 0
in_rows g r (k ∷ ks) is = length (filter (in_row g r k) is) + in_rows g r ks is

-- how many of the rows have a place
abbrev hits : Public → Request → List (List ℕ) → ℕ → ℕ
hits g r [] i = 0
hits g r (k ∷ ks) i = cond (in_row g r k i) 1 0 + hits g r ks i

no_hits : (g : Public) (r : Request) (k : List ℕ) (ks : List (List ℕ)) (i : ℕ) → list_all (before k) ks ≡ true → same (key_at g r.group i) k ≡ true → hits g r ks i ≡ 0
no_hits g r k [] i e s = refl
no_hits g r k (x ∷ ks) i e s =
    let both = and_parts (before k x) (list_all (before k) ks) e in
    let here : key_at g r.group i ≡ k = same_eq (key_at g r.group i) k s in
    apart (is_picked g r i) (same (key_at g r.group i) x) refl (λ t. before_not_itself x (subst (λ y. before y x ≡ true) (sym here ∙ same_eq (key_at g r.group i) x t) both.0)) (no_hits g r k ks i both.1 s)
  where
    apart : (a b : Bool) → same (key_at g r.group i) x ≡ b → (b ≡ true → ⊥) → hits g r ks i ≡ 0 → cond (a && b) 1 0 + hits g r ks i ≡ 0
    apart false b e n h = omega (arith, h)
    apart true false e n h = omega (arith, h)
    apart true true e n h = absurd (n refl)

one_hit : (g : Public) (r : Request) (ks : List (List ℕ)) (i : ℕ) → IsIncreasing ks → hits g r ks i ≤ 1
one_hit g r [] i inc = omega arith
one_hit g r (k ∷ ks) i inc = go (is_picked g r i) (same (key_at g r.group i) k) refl (one_hit g r ks i inc.1)
  where
    go : (a b : Bool) → same (key_at g r.group i) k ≡ b → hits g r ks i ≤ 1 → cond (a && b) 1 0 + hits g r ks i ≤ 1
    go false b e h = omega (arith, h)
    go true false e h = omega (arith, h)
    go true true e h = let none = no_hits g r k ks i inc.0 e in omega (arith, none)

one_place : (g : Public) (r : Request) (ks : List (List ℕ)) (i : ℕ) (is : List ℕ) → in_rows g r ks (i ∷ is) ≡ hits g r ks i + in_rows g r ks is
one_place g r [] i is = refl
one_place g r (k ∷ ks) i is = go (in_row g r k i) (one_place g r ks i is)
  where
    go : (b : Bool) → in_rows g r ks (i ∷ is) ≡ hits g r ks i + in_rows g r ks is
        → length (cond b (i ∷ filter (in_row g r k) is) (filter (in_row g r k) is)) + in_rows g r ks (i ∷ is) ≡ (cond b 1 0 + hits g r ks i) + (length (filter (in_row g r k) is) + in_rows g r ks is)
    go true e = omega (arith, e)
    go false e = omega (arith, e)

no_place : (g : Public) (r : Request) (ks : List (List ℕ)) → in_rows g r ks [] ≡ 0
no_place g r [] = refl
no_place g r (k ∷ ks) = let more = no_place g r ks in omega (arith, more)

each_once : (g : Public) (r : Request) (ks : List (List ℕ)) (is : List ℕ) → IsIncreasing ks → in_rows g r ks is ≤ length is
each_once g r ks [] inc = let none = no_place g r ks in omega (arith, none)
each_once g r ks (i ∷ is) inc =
    let first = one_place g r ks i is in
    let one = one_hit g r ks i inc in
    let more = each_once g r ks is inc in
    omega (arith, first, one, more)

links_in_rows : (g : Public) (r : Request) (ks : List (List ℕ)) → length (flat_map (λ (row : Row). linked row.places) (map (row_at g r) ks)) ≤ in_rows g r ks (places g)
links_in_rows g r [] = omega arith
links_in_rows g r (k ∷ ks) =
    let few = linked_few (filter (in_row g r k) (places g)) in
    let more = links_in_rows g r ks in
    let split = length-append (linked (filter (in_row g r k) (places g))) (flat_map (λ (row : Row). linked row.places) (map (row_at g r) ks)) in
    rw split (omega (arith, few, more))

pub links_few : (g : Public) (r : Request) → length (links g r) ≤ length g.shape.points
unfolding links
links_few g r =
    let rows_few = links_in_rows g r (row_keys g r) in
    let once = each_once g r (row_keys g r) (places g) (in_order_increasing (map (key_at g r.group) (filter (is_picked g r) (places g)))) in
    let long : length (places g) ≡ length g.shape.points = length-count_from 0 (length g.shape.points) in
    omega (arith, rows_few, once, long)
