-- The weight of nodes: it never grows, so ranks are small.
use Rattle.std.specs.Prelude.{◌^◌}
use Rattle.std.proofs.Common.{◌≡◌, ◌≢◌, ℕ, zero, suc, ◌+◌, ◌-◌, ◌*◌, ◌<◌, ◌≤◌, max, Bool, true, false, List, [], ◌∷◌, length, map, set, refl, sym, ap, ap₂, ◌∙◌, subst, arith, eqb, ⊎_elim}
use Rattle.std.proofs.lemmas.Bool.{cases_eq}
use Rattle.std.proofs.lemmas.List.{get_or-set_other, length-set}
use Rattle.std.proofs.Math.Nat.{pow-succ'}
use Rattle.std.proofs.Math.Pow.{pow_mono}
use Rattle.cube_model.specs.Cubes.{count_from}
use Rattle.cube_colour.specs.declared.forest.Node.{Node}
use Rattle.cube_colour.specs.declared.forest.Change.{Change}
use Rattle.cube_colour.specs.declared.forest.Change.TheVariants.{Fix, Join}
use Rattle.cube_colour.specs.Forests.{no_node, node_at, alone, rooted, weight, topped, changed, IsChange, HasRoom}
use Rattle.cube_colour.proofs.Nodes.{cond_eq, cond_ne}

-- places by themselves weigh one each
pub lone_weight : (guards : List ℕ) (s n : ℕ) → weight s (map (alone guards) (count_from s n)) ≡ n
lone_weight guards s zero = refl
lone_weight guards s (suc n) =
    let here : rooted s (alone guards s) ≡ 1 = cond_eq s s 1 0 refl in
    let rest = lone_weight guards (suc s) n in
    omega (arith, here, rest)

-- a node weighs no more than all
pub one_weight : (s : ℕ) (nodes : List Node) (i : ℕ) → i < length nodes → rooted (s + i) (node_at nodes i) ≤ weight s nodes
one_weight s [] i lt = absurd (omega (arith, lt))
one_weight s (x ∷ xs) zero lt = let e : s + 0 ≡ s = omega arith in let h : rooted (s + 0) x ≡ rooted s x = ap (λ (j : ℕ). rooted j x) e in omega (arith, h)
one_weight s (x ∷ xs) (suc i) lt =
    let e : suc s + i ≡ s + suc i = omega arith in
    let h : rooted (suc s + i) (node_at xs i) ≡ rooted (s + suc i) (node_at xs i) = ap (λ (j : ℕ). rooted j (node_at xs i)) e in
    let rest = one_weight (suc s) xs i (omega (arith, lt)) in
    omega (arith, h, rest)

-- a node is put in the place of another
pub set_weight : (s : ℕ) (nodes : List Node) (i : ℕ) (y : Node) → i < length nodes → weight s (set nodes i y) + rooted (s + i) (node_at nodes i) ≡ weight s nodes + rooted (s + i) y
set_weight s [] i y lt = absurd (omega (arith, lt))
set_weight s (x ∷ xs) zero y lt =
    let e : s + 0 ≡ s = omega arith in
    let h : rooted (s + 0) x ≡ rooted s x = ap (λ (j : ℕ). rooted j x) e in
    let k : rooted (s + 0) y ≡ rooted s y = ap (λ (j : ℕ). rooted j y) e in
    omega (arith, h, k)
set_weight s (x ∷ xs) (suc i) y lt =
    let e : suc s + i ≡ s + suc i = omega arith in
    let h : rooted (suc s + i) (node_at xs i) ≡ rooted (s + suc i) (node_at xs i) = ap (λ (j : ℕ). rooted j (node_at xs i)) e in
    let k : rooted (suc s + i) y ≡ rooted (s + suc i) y = ap (λ (j : ℕ). rooted j y) e in
    let rest = set_weight (suc s) xs i y (omega (arith, lt)) in
    omega (arith, h, k, rest)

-- of two roots the one on top weighs no more than both
top_power : (a b : ℕ) → a ≤ b → 2 ^ max b (a + 1) ≤ 2 ^ a + 2 ^ b
top_power a b le = ⊎_elim
    (λ (e : a ≡ b).
    let m : max b (a + 1) ≡ suc a = omega (arith, e) in
    let twice : 2 ^ max b (a + 1) ≡ 2 * 2 ^ a = ap (λ (r : ℕ). 2 ^ r) m ∙ pow-succ' 2 a in
    let same : 2 ^ a ≡ 2 ^ b = ap (λ (r : ℕ). 2 ^ r) e in
    omega (arith, twice, same))
    (λ (ne : a ≢ b).
    let m : max b (a + 1) ≡ b = omega (arith, le, ne) in
    let same : 2 ^ max b (a + 1) ≡ 2 ^ b = ap (λ (r : ℕ). 2 ^ r) m in
    omega (arith, same))
    (cases_eq a b)

root_weight : (nodes : List Node) (i : ℕ) → (node_at nodes i).parent ≡ i → rooted (0 + i) (node_at nodes i) ≡ 2 ^ (node_at nodes i).rank
root_weight nodes i e = let z : 0 + i ≡ i = omega arith in cond_eq (node_at nodes i).parent (0 + i) (2 ^ (node_at nodes i).rank) 0 (e ∙ sym z)

pub change_weight : (nodes : List Node) (change : Change) → IsChange nodes change → weight 0 (changed change nodes) ≤ weight 0 nodes
change_weight nodes (Fix r) h = let e = set_weight 0 nodes r (record (node_at nodes r) { opposite = true }) h.0 in omega (arith, e)
change_weight nodes (Join c p b) h =
    let z : 0 + c ≡ c = omega arith in
    let lower : Node = record (node_at nodes c) { parent = p; opposite = b } in
    let upper : Node = topped (node_at nodes c) (node_at nodes p) in
    let below : List Node = set nodes c lower in
    let first = set_weight 0 nodes c lower h.0 in
    let gone : rooted (0 + c) lower ≡ 0 = cond_ne p (0 + c) (2 ^ lower.rank) 0 (λ e. h.2 (sym (e ∙ z))) in
    let second = set_weight 0 below p upper (subst (λ (m : ℕ). p < m) (sym (length-set nodes c lower)) h.1) in
    let there : node_at below p ≡ node_at nodes p = get_or-set_other nodes c p lower no_node (λ e. h.2 (sym e)) in
    let old : rooted (0 + p) (node_at below p) ≡ 2 ^ (node_at nodes p).rank = ap (λ (x : Node). rooted (0 + p) x) there ∙ root_weight nodes p h.4 in
    let q : 0 + p ≡ p = omega arith in
    let new : rooted (0 + p) upper ≡ 2 ^ max (node_at nodes p).rank ((node_at nodes c).rank + 1) = cond_eq (node_at nodes p).parent (0 + p) (2 ^ upper.rank) 0 (h.4 ∙ sym q) in
    let one = root_weight nodes c h.3 in
    let top = top_power (node_at nodes c).rank (node_at nodes p).rank h.5 in
    omega (arith, first, gone, second, old, new, one, top)

-- ranks below 2 ^ 32 places
small : (r n : ℕ) → 2 ^ r ≤ n → n < 2 ^ 32 → r < 2 ^ 8 - 1
small r n le lt = ⊎_elim
    (λ (f : 32 ≤ r). let up = pow_mono f in absurd (omega (arith, up, le, lt)))
    (λ (f : r < 32). omega (arith, f))
    (low r)
  where
    low : (r : ℕ) → Rattle.std.proofs.Common.◌⊎◌ (32 ≤ r) (r < 32)
    low r = grind arith

pub weight_room : (nodes : List Node) (change : Change) (n : ℕ) → IsChange nodes change → weight 0 nodes ≤ n → n < 2 ^ 32 → HasRoom nodes change
weight_room nodes (Fix r) n h light lt = record {}
weight_room nodes (Join c p b) n h light lt =
    let one = one_weight 0 nodes c h.0 in
    let root = root_weight nodes c h.3 in
    small (node_at nodes c).rank n (omega (arith, one, root, light)) lt
