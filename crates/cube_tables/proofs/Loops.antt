-- Loops over items, each checked behind the earlier ones: at the item at hand.
use Rattle.std.proofs.Common.{◌≡◌, ℕ, ◌+◌, ◌<◌, ◌≤◌, List, [], ◌∷◌, ◌++◌, length, get_or, take, map, sym, ap, subst, ◌∙◌, arith}
use Rattle.std.proofs.lemmas.List.{length-map, get_or-map, map_more, take_all}
use Rattle.cube_model.specs.Checks.{in_turn}
use Rattle.cube_tables.proofs.Turns.{Refused, turn_fault, turn_next}

-- ---- the items as they are

module _ {X F : Type 0} (f : List X → X → List F) (items : List X) where
  pub item_fault : (no_memory e : F) (i : ℕ) (item : X) → i < length items → item ≡ get_or items i item → in_turn f [] (take i items) ≡ [] → Refused no_memory e (f (take i items) item) → Refused no_memory e (in_turn f [] items)
  item_fault no_memory e i item l at none h = turn_fault f no_memory e items i item l none (subst (λ x. Refused no_memory e (f (take i items) x)) at h)

  pub item_next : (i : ℕ) (item : X) → i < length items → item ≡ get_or items i item → in_turn f [] (take i items) ≡ [] → f (take i items) item ≡ [] → in_turn f [] (take (i + 1) items) ≡ []
  item_next i item l at none h = turn_next f items i item l none (subst (λ x. f (take i items) x ≡ []) at h)

pub item_made : {X Y : Type 0} (g : X → Y) (items : List X) (i : ℕ) (item : X) (y : Y) (made : List Y) → i < length items → item ≡ get_or items i item → made ≡ map g (take i items) → y ≡ g item → made ++ y ∷ [] ≡ map g (take (i + 1) items)
item_made g items i item y made l at read is =
    ap (λ ys. ys ++ y ∷ []) read
    ∙ ap (λ x. map g (take i items) ++ x ∷ []) (is ∙ ap g at)
    ∙ sym (map_more g items i item l)

-- all items are made where the last one is behind
pub all_made : {X Y : Type 0} (g : X → Y) (items : List X) (i : ℕ) (made : List Y) → length items ≤ i → made ≡ map g (take i items) → map g items ≡ made
all_made g items i made l read = ap (map g) (sym (take_all i items l)) ∙ sym read

-- ---- what is seen of the items

module _ {V X : Type 0} (seen : V → X) (items : List V) where
  pub seen_length : length (map seen items) ≡ length items
  seen_length = length-map items seen

  pub seen_within : (i : ℕ) → i < length items → i < length (map seen items)
  seen_within i l = let k = length-map items seen in omega (arith, k, l)

  pub seen_at : (i : ℕ) (item : V) → i < length items → item ≡ get_or items i item → seen item ≡ get_or (map seen items) i (seen item)
  seen_at i item l at = ap seen at ∙ sym (get_or-map seen items i item (seen item) l)

  pub seen_end : (i : ℕ) → length items ≤ i → length (map seen items) ≤ i
  seen_end i l = let k = length-map items seen in omega (arith, k, l)
