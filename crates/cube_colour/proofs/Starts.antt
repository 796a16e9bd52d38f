-- Places by themselves, and the marks of the guarded ones.
use Rattle.std.specs.List.{All}
use Rattle.std.proofs.Common.{◌≡◌, ◌≢◌, ℕ, zero, suc, ◌+◌, ◌<◌, Bool, true, false, ◌||◌, List, [], ◌∷◌, ◌++◌, length, map, take, get_or, set, refl, sym, ap, ◌∙◌, subst, arith, eqb, ⊎_elim}
use Rattle.std.proofs.lemmas.Bool.{cases_eq, eq-eqb, ne_eqb, or_right}
use Rattle.std.proofs.lemmas.List.{map-append, length-map, length-set, get_or-set_same, get_or-set_other, ext_get_or, take_more}
use Rattle.cube_model.specs.Cubes.{count_from}
use Rattle.cube_model.specs.Protection.{listed}
use Rattle.cube_model.proofs.DimsFacts.{count_from-more}
use Rattle.cube_model.proofs.Sums.{length-count_from}
use Rattle.cube_colour.specs.declared.forest.Node.{Node}
use Rattle.cube_colour.specs.Forests.{no_node, node_at, alone}

-- one more place by itself
pub one_more : (nodes new : List Node) (k : ℕ) → nodes ≡ map (alone []) (count_from 0 k) → new ≡ nodes ++ alone [] k ∷ [] → new ≡ map (alone []) (count_from 0 (k + 1))
one_more nodes new k is more =
    let e : 0 + k ≡ k = omega arith in
    let counted : count_from 0 (k + 1) ≡ count_from 0 k ++ k ∷ [] = rw e at (count_from-more 0 k) in
    more ∙ ap (λ (ns : List Node). ns ++ alone [] k ∷ []) is ∙ sym (ap (map (alone [])) counted ∙ map-append (alone []) (count_from 0 k) (k ∷ []))

-- where a place is among places by themselves
pub at_place : (f : ℕ → Node) (s n i : ℕ) → i < n → node_at (map f (count_from s n)) i ≡ f (s + i)
at_place f s zero i lt = absurd (omega arith)
at_place f s (suc n) zero lt = let e : s ≡ s + 0 = omega arith in ap f e
at_place f s (suc n) (suc i) lt = let e : suc s + i ≡ s + suc i = omega arith in at_place f (suc s) n i (omega (arith, lt)) ∙ ap f e

pub lone_at : (guards : List ℕ) (n i : ℕ) → i < n → node_at (map (alone guards) (count_from 0 n)) i ≡ alone guards i
lone_at guards n i lt = let e : 0 + i ≡ i = omega arith in at_place (alone guards) 0 n i lt ∙ ap (alone guards) e

pub lone_long : (guards : List ℕ) (n : ℕ) → length (map (alone guards) (count_from 0 n)) ≡ n
lone_long guards n = length-map (count_from 0 n) (alone guards) ∙ length-count_from 0 n

listed_push : (i g : ℕ) (gs : List ℕ) → listed i (gs ++ g ∷ []) ≡ (listed i gs || eqb i g)
listed_push i g [] = or_nil (eqb i g)
  where
    or_nil : (b : Bool) → (b || false) ≡ (false || b)
    or_nil true = refl
    or_nil false = refl
listed_push i g (x ∷ gs) = ap (λ (b : Bool). eqb i x || b) (listed_push i g gs) ∙ or_assoc (eqb i x) (listed i gs) (eqb i g)
  where
    or_assoc : (a b c : Bool) → (a || (b || c)) ≡ ((a || b) || c)
    or_assoc true b c = refl
    or_assoc false b c = refl

marked : ℕ → Bool → Node
marked i b = record { parent = i; opposite = false; rank = 0; guarded = b }

-- one more guarded place is marked
pub mark_more : (gs : List ℕ) (n g : ℕ) → g < n → set (map (alone gs) (count_from 0 n)) g (record (node_at (map (alone gs) (count_from 0 n)) g) { guarded = true }) ≡ map (alone (gs ++ g ∷ [])) (count_from 0 n)
unfolding marked
mark_more gs n g lt = ext_get_or no_node written nodes' (long ∙ sym (lone_long (gs ++ g ∷ []) n)) (λ i li. same i (omega (arith, li, long)))
  where
    nodes : List Node
    nodes = map (alone gs) (count_from 0 n)

    nodes' : List Node
    nodes' = map (alone (gs ++ g ∷ [])) (count_from 0 n)

    written : List Node
    written = set nodes g (record (node_at nodes g) { guarded = true })

    long : length written ≡ n
    long = length-set nodes g (record (node_at nodes g) { guarded = true }) ∙ lone_long gs n

    same : (i : ℕ) → i < n → node_at written i ≡ node_at nodes' i
    same i li = ⊎_elim
        (λ (e : i ≡ g). subst (λ (j : ℕ). node_at written j ≡ node_at nodes' j) (sym e) (get_or-set_same nodes g (record (node_at nodes g) { guarded = true }) no_node (subst (λ (m : ℕ). g < m) (sym (lone_long gs n)) lt)
        ∙ ap (λ (x : Node). record x { guarded = true }) (lone_at gs n g lt) ∙ ap (marked g) (sym (listed_push g g gs ∙ or_right (listed g gs) (eqb g g) (eq-eqb g g refl))) ∙ sym (lone_at (gs ++ g ∷ []) n g lt)))
        (λ (e : i ≢ g). get_or-set_other nodes g i (record (node_at nodes g) { guarded = true }) no_node e ∙ lone_at gs n i li ∙ ap (marked i) (sym (listed_push i g gs ∙ ap (λ (b : Bool). listed i gs || b) (ne_eqb i g e) ∙ or_false (listed i gs))) ∙ sym (lone_at (gs ++ g ∷ []) n i li))
        (cases_eq i g)
      where
        or_false : (b : Bool) → (b || false) ≡ b
        or_false true = refl
        or_false false = refl

-- the same at an index of the guarded places
pub mark_at : (guards : List ℕ) (nodes new : List Node) (n k : ℕ) → k < length guards → All (λ place. place < n) guards → nodes ≡ map (alone (take k guards)) (count_from 0 n) → new ≡ set nodes (get_or guards k 0) (record (node_at nodes (get_or guards k 0)) { guarded = true }) → new ≡ map (alone (take (k + 1) guards)) (count_from 0 n)
mark_at guards nodes new n k lt below is more =
    more ∙ ap (λ (ns : List Node). set ns (get_or guards k 0) (record (node_at ns (get_or guards k 0)) { guarded = true })) is ∙ mark_more (take k guards) n (get_or guards k 0) (below k 0 lt) ∙ ap (λ (gs : List ℕ). map (alone gs) (count_from 0 n)) (sym (take_more guards k 0 lt))
