-- The cells with one fact alone at each place, and the rows that are grouped for them.
use Rattle.std.specs.List.{list_all}
use Rattle.std.proofs.Common.{◌≡◌, ℕ, suc, Bool, true, false, cond, List, [], ◌∷◌, length, map, filter, get_or, None, All, refl, ap, ◌∙◌, subst}
use Rattle.cube_model.specs.declared.answer.Row.{Row}
use Rattle.cube_model.specs.Cubes.{Dimension, Public, in_order, key_at, places, are_levels}
use Rattle.cube_model.specs.Dims.{Dims, plains}
use Rattle.cube_model.specs.Requests.{row_at, rows}
use Rattle.cube_model.specs.Safe.{finest}
use Rattle.cube_source.specs.Blocks.{whole}
use Rattle.cube_source.proofs.Cuts.{row_covers, keys_whole}
use Rattle.cube_source.proofs.Fewer.{cell}
use Rattle.cube_advise.specs.Lone.{has_one_fact, is_lone, lone_count}
use Rattle.cube_advise.proofs.Narrowing.{get_or_in}
use Rattle.cube_advise.proofs.Opening.{listed_levels}

counted_alike : {X Y Z : Type 0} (f : Z → X) (h : Z → Y) (p : X → Bool) (q : Y → Bool) (zs : List Z) → ((z : Z) → p (f z) ≡ q (h z)) → length (filter p (map f zs)) ≡ length (filter q (map h zs))
counted_alike f h p q [] e = refl
counted_alike f h p q (z ∷ zs) e = go (p (f z)) (q (h z)) (e z) (counted_alike f h p q zs e)
  where
    go : (a b : Bool) → a ≡ b → length (filter p (map f zs)) ≡ length (filter q (map h zs)) → length (cond a (f z ∷ filter p (map f zs)) (filter p (map f zs))) ≡ length (cond b (h z ∷ filter q (map h zs)) (filter q (map h zs)))
    go true true s r = ap suc r
    go true false s r = absurd (cc)
    go false true s r = absurd (cc)
    go false false s r = r

-- as many rows of all places have one fact alone at each of theirs as there are such cells
pub lone_counted : (g : Public) (c : List ℕ) → length (filter (λ (row : Row). list_all (has_one_fact g) row.places) (rows g (whole c))) ≡ lone_count g c
lone_counted g c =
    ap (λ (ks : List (List ℕ)). length (filter (λ (row : Row). list_all (has_one_fact g) row.places) (map (row_at g (whole c)) ks))) (keys_whole g c)
    ∙ counted_alike (row_at g (whole c)) (cell c) (λ (row : Row). list_all (has_one_fact g) row.places) (is_lone g) (in_order (map (key_at g c) (places g)))
    (λ key. ap (list_all (has_one_fact g)) (row_covers g c key))

-- each of the finest safe cuboids has its levels in range
pub finest_levels : (s : Dims) (g : Public) (m : ℕ) → g.dimensions ≡ plains s → All (λ c. are_levels (plains s) c ≡ true) (finest g m)
finest_levels s g m e k d lt =
    subst (λ (ds : List Dimension). are_levels ds (get_or (finest g m) k d) ≡ true) e (listed_levels g None m (get_or (finest g m) k d) (get_or_in (finest g m) k d lt))
