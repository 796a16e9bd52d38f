-- The walk over the cells that an old cube protects, to the first that a new one does not.
use Rattle.std.specs.List.{list_any, All}
use Rattle.std.specs.Option.{option_map}
use Rattle.std.proofs.Common.{◌≡◌, ℕ, ◌<◌, inl, inr, Bool, true, false, cond, not, ◌&&◌, List, [], ◌∷◌, length, map, filter, find, get_or, Some, None, refl, sym, ap, ap₂, ◌∙◌, subst}
use Rattle.std.proofs.lemmas.Bool.{false≢true, and_parts, and_from, lt-ltb}
use Rattle.cube_model.specs.declared.answer.Row.{Row}
use Rattle.cube_model.specs.declared.cell.Cell.{Cell}
use Rattle.cube_model.specs.declared.policy.Object.{Object}
use Rattle.cube_model.specs.declared.policy.Policy.{Policy}
use Rattle.cube_model.specs.Cores.{Core, IsCore}
use Rattle.cube_model.specs.Cubes.{Public, Dimension, Each, IsPoint, up, ancestors, core, same, in_order, key_at, covers, places, is_finer, are_levels, cuboids_below, IsIn}
use Rattle.cube_model.specs.Dims.{plains}
use Rattle.cube_model.specs.Protection.{in_slice, guards, touched, under}
use Rattle.cube_model.specs.Requests.{row_at, rows}
use Rattle.cube_model.proofs.Finer.{is_finer_trans}
use Rattle.cube_model.proofs.Members.{tested, IsIn-flat_map, same_refl}
use Rattle.cube_model.proofs.Objects.{below_finer, touched_is}
use Rattle.cube_model.proofs.Orders.{rows_are_rows, place_of}
use Rattle.cube_model.proofs.Sources.{Each-get_or}
use Rattle.cube_model.proofs.Walks.{any_from, any_has}
use Rattle.cube_carry.specs.Names.{carried_levels}
use Rattle.cube_carry.proofs.Dimensions.{in_at, stands as stands_at}
use Rattle.cube_carry.proofs.Orders.{finer_in_range}
use Rattle.cube_source.specs.Blocks.{bare, whole, row_cell}
use Rattle.cube_source.specs.Few.{guards_row}
use Rattle.cube_source.proofs.Cuts.{keys_whole, row_covers, any_filter, find_kept}
use Rattle.cube_source.proofs.Fewer.{cell, row_guarded}
use Rattle.cube_source.proofs.Ordered.{kept_keys}
use Rattle.cube_carrying.specs.Exposed.{is_exposed_at, is_exposed}
use Rattle.cube_carrying.specs.KeptCells.{is_kept, Carries, StandsSuffice}
use Rattle.cube_carrying.specs.Shields.{is_shielded, is_shielded_over}
use Rattle.cube_carrying.proofs.Opened.{is_named}

-- ---- small things

pub find_nothing : {X : Type 0} (test : X → Bool) (xs : List X) → ((x : X) → IsIn x xs → test x ≡ false) → find test xs ≡ None
find_nothing test [] h = refl
find_nothing test (x ∷ xs) h = ap (λ (b : Bool). cond b (Some x) (find test xs)) (h x (inl refl)) ∙ find_nothing test xs (λ y k. h y (inr k))

-- what would be a contradiction if it were false
pub shown_by : (b : Bool) → (b ≡ false → ⊥) → b ≡ true
shown_by b fails = tested b (λ t. t) (λ f. absurd (fails f))

pub chosen : {X : Type 0} (b : Bool) (x y : X) → cond b (Some x) None ≡ Some y → (b ≡ true) × (x ≡ y)
chosen true x y e = (refl, cc)
chosen false x y e = absurd (cc)

pub unchosen : {X : Type 0} (b : Bool) (x : X) → cond b (Some x) None ≡ None → b ≡ false
unchosen true x e = absurd (cc)
unchosen false x e = refl

-- ---- the rows of a cuboid

-- a row has places that its cell covers
pub row_covered : (g : Public) (ls : List ℕ) (all : List Row) (i : ℕ) (row : Row) → all ≡ rows g (whole ls) → i < length all → row ≡ get_or all i row → All (λ place. covers g (row_cell ls row) place ≡ true) row.places
row_covered g ls all i row are l is = λ k d below.
    let here : IsIn row (rows g (whole ls)) = subst (IsIn row) are (subst (λ (r : Row). IsIn r all) (sym is) (in_at row all i l)) in
    let own = ((rows_are_rows g (whole ls)).exactly row here (get_or row.places k d)).0 (in_at d row.places k below) in
    ap (λ (ks : List ℕ). same ks row.key) own.2 ∙ same_refl row.key

-- the first row that the object guards whose cell does not pass is the first touched cell that does not
pub first_row : (g : Public) (o : Object) (ls : List ℕ) (kept : Cell → Bool) → option_map (row_cell ls) (find (λ row. guards_row g o row.places && not (kept (row_cell ls row))) (rows g (whole ls))) ≡ find (λ t. not (kept t)) (touched g o ls)
first_row g o ls kept =
    ap (λ (ks : List (List ℕ)). option_map (row_cell ls) (find (λ row. guards_row g o row.places && not (kept (row_cell ls row))) (map (row_at g (whole ls)) ks))) (keys_whole g ls)
    ∙ find_kept (row_at g (whole ls)) ls (λ row. guards_row g o row.places && not (kept (row_cell ls row))) (λ k. list_any (λ i. guards g o ls i && same (key_at g ls i) k) (places g)) (λ t. not (kept t)) (in_order (map (key_at g ls) (places g)))
    (λ k. refl)
    (λ k. ap (λ (b : Bool). b && not (kept (cell ls k))) (ap (guards_row g o) (row_covers g ls k) ∙ row_guarded g o ls k ∙ any_filter (guards g o ls) (covers g (cell ls k)) (places g)))
    ∙ ap (λ (ks : List (List ℕ)). find (λ t. not (kept t)) (map (cell ls) ks)) (sym (kept_keys (key_at g ls) (guards g o ls) (places g)))

-- ---- what is passed over

-- what stands over levels stands over finer ones
stands_below : (g : Public) (os : List Object) (m : ℕ) (x y : List ℕ) (i : ℕ) → is_finer x y ≡ true → is_shielded_over g os m y i ≡ true → is_shielded_over g os m x i ≡ true
stands_below g os m x y i finer over =
    let n = any_from (λ (o : Object). is_finer y o.levels && is_shielded g m o i) os over in
    let a = and_parts (is_finer y n.0.levels) (is_shielded g m n.0 i) n.2 in
    any_has (λ (o : Object). is_finer x o.levels && is_shielded g m o i) n.0 os n.1 (and_from (is_finer x n.0.levels) (is_shielded g m n.0 i) (is_finer_trans x y n.0.levels finer a.0) a.1)

module _ (c d : Core) (q : Policy) (m : ℕ) (js : List ℕ) (suffice : StandsSuffice c d q m js) (o : Object) where
  -- a place that is not exposed stands under a new object
  stands : (ls : List ℕ) (i : ℕ) → list_any (is_exposed_at c o d q.objects m ls js) (places (bare c)) ≡ false → i < length c.shape.points → in_slice (bare c) o i ≡ true → is_shielded_over (bare d) q.objects m ls (get_or js i 0) ≡ true
  stands ls i none l s = shown_by (is_shielded_over (bare d) q.objects m ls (get_or js i 0)) (λ fails.
      false≢true (sym none ∙ any_has (is_exposed_at c o d q.objects m ls js) i (places (bare c)) (place_of (bare c) i l)
      (and_from (in_slice (bare c) o i) (not (is_shielded_over (bare d) q.objects m ls (get_or js i 0))) s (ap not fails))))

  pub none_at : (ls : List ℕ) → are_levels (plains c.dims) ls ≡ true → list_any (is_exposed_at c o d q.objects m (carried_levels c.dims d.dims ls) js) (places (bare c)) ≡ false → find (λ t. not (is_kept c d q m t)) (touched (bare c) o ls) ≡ None
  none_at ls valid none = find_nothing (λ t. not (is_kept c d q m t)) (touched (bare c) o ls) (λ t is_in.
      let r = touched_is (bare c) o ls t is_in in
      let over = stands (carried_levels c.dims d.dims ls) r.1.1.0 none r.1.1.1 r.1.1.2 in
      ap not (suffice t r.1.1.0 (subst (λ (x : List ℕ). are_levels (plains c.dims) x ≡ true) r.0 valid) r.1.1.1 r.1.1.3
      (subst (λ (x : List ℕ). is_shielded_over (bare d) q.objects m (carried_levels c.dims d.dims x) (get_or js r.1.1.0 0) ≡ true) r.0 over)))

  pub none_under : Carries c d q m js → are_levels (plains c.dims) o.levels ≡ true → is_exposed c d q.objects m js o ≡ false → find (λ t. not (is_kept c d q m t)) (under (bare c) o) ≡ None
  none_under carries valid none = find_nothing (λ t. not (is_kept c d q m t)) (under (bare c) o) (λ t is_in.
      let a = IsIn-flat_map (touched (bare c) o) t (cuboids_below o.levels) is_in in
      let r = touched_is (bare c) o a.0 t a.2 in
      let finer : is_finer t.levels o.levels ≡ true = subst (λ (x : List ℕ). is_finer x o.levels ≡ true) r.0 (below_finer o.levels a.0 a.1) in
      let in_range = finer_in_range (plains c.dims) t.levels o.levels finer valid in
      let over = stands (carried_levels c.dims d.dims o.levels) r.1.1.0 none r.1.1.1 r.1.1.2 in
      ap not (suffice t r.1.1.0 in_range r.1.1.1 r.1.1.3
      (stands_below (bare d) q.objects m (carried_levels c.dims d.dims t.levels) (carried_levels c.dims d.dims o.levels) (get_or js r.1.1.0 0) (carries.finer t.levels o.levels in_range finer) over)))

-- ---- core cells

pub core_first : (keep : ℕ → Bool) (kept : Cell → Bool) (make : ℕ → Cell) (is : List ℕ) → option_map make (find (λ i. keep i && not (kept (make i))) is) ≡ find (λ t. not (kept t)) (map make (filter keep is))
core_first keep kept make [] = refl
core_first keep kept make (i ∷ is) = go (keep i) (not (kept (make i))) refl (core_first keep kept make is)
  where
    go : (a b : Bool) → not (kept (make i)) ≡ b → option_map make (find (λ i. keep i && not (kept (make i))) is) ≡ find (λ t. not (kept t)) (map make (filter keep is))
        → option_map make (cond (a && b) (Some i) (find (λ i. keep i && not (kept (make i))) is)) ≡ find (λ t. not (kept t)) (map make (cond a (i ∷ filter keep is) (filter keep is)))
    go true true q r = sym (ap (λ (z : Bool). cond z (Some (make i)) (find (λ t. not (kept t)) (map make (filter keep is)))) q)
    go true false q r = r ∙ sym (ap (λ (z : Bool). cond z (Some (make i)) (find (λ t. not (kept t)) (map make (filter keep is)))) q)
    go false b q r = r

-- what is guarded in both is kept
pub kept_both : (a b k : Bool) → (a && not b) ≡ false → (b ≡ true → k ≡ true) → (a && not k) ≡ false
kept_both false b k e f = refl
kept_both true true k e f = ap not (f refl)
kept_both true false k e f = absurd (false≢true (sym e))

-- ---- one cell, where it is looked for

pub passed_over : {X : Type 0} (a k : Bool) (x : X) → k ≡ true → None ≡ cond (a && not k) (Some x) None
passed_over true true x e = refl
passed_over true false x e = absurd (false≢true e)
passed_over false k x e = refl

pub taken : {X : Type 0} (a k : Bool) (x y : X) → a ≡ true → k ≡ false → y ≡ x → Some y ≡ cond (a && not k) (Some x) None
taken true true x y p q e = absurd (false≢true (sym q))
taken true false x y p q e = ap Some e
taken false k x y p q e = absurd (false≢true p)

all_in : {X : Type 0} (P : X → Type 0) (xs : List X) (x : X) → All P xs → IsIn x xs → P x
all_in P xs x h m = let r = stands_at x x xs m in subst P r.2 (h r.0 x r.1)

pub kept_by_place : (c d : Core) (q : Policy) (m : ℕ) (js : List ℕ) (t : Cell) (ls is : List ℕ) → StandsSuffice c d q m js → are_levels (plains c.dims) t.levels ≡ true → ls ≡ carried_levels c.dims d.dims t.levels
    → All (λ i. i < length c.shape.points) is → All (λ i. covers (bare c) t i ≡ true) is → list_any (λ i. is_shielded_over (bare d) q.objects m ls (get_or js i 0)) is ≡ true → is_kept c d q m t ≡ true
kept_by_place c d q m js t ls is suffice valid same_levels below covered over =
    let r = any_from (λ i. is_shielded_over (bare d) q.objects m ls (get_or js i 0)) is over in
    suffice t r.0 valid (all_in (λ i. i < length c.shape.points) is r.0 below r.1) (all_in (λ i. covers (bare c) t i ≡ true) is r.0 covered r.1)
    (ap (λ (xs : List ℕ). is_shielded_over (bare d) q.objects m xs (get_or js r.0 0)) (sym same_levels) ∙ r.2)

-- the key of a core cell is the point
core_key : (ds : List Dimension) (x : List ℕ) → Each (λ d. 0 < d.levels) ds → IsPoint ds x → ancestors ds (map {B = ℕ} (λ (d : Dimension). 0) ds) x ≡ x
unfolding up
core_key [] [] n h = refl
core_key [] (x ∷ xs) n h = absurd h
core_key (d ∷ ds) [] n h = absurd h
core_key (d ∷ ds) (x ∷ xs) n h = ap₂ (λ (y : ℕ) (ys : List ℕ). y ∷ ys) (ap (λ (b : Bool). cond b x 0) (lt-ltb 0 d.levels n.0)) (core_key ds xs n.1 h.1)

pub core_point : (c : Core) (i : ℕ) → IsCore c → i < length c.shape.points → get_or c.shape.points i [] ≡ key_at (bare c) (core (bare c)) i
unfolding key_at
core_point c i ok l = sym (core_key (plains c.dims) (get_or c.shape.points i []) (is_named c ok).world.named (Each-get_or (IsPoint (plains c.dims)) c.shape.points i [] ok.points l))
