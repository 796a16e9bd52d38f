-- Protected cells: each covers a place and has a level in each dimension; and the changes for one, put at their places.
use Rattle.std.specs.List.{list_any, All}
use Rattle.std.proofs.Common.{◌≡◌, ℕ, zero, suc, ◌≤◌, true, false, List, [], ◌∷◌, length, map, take, is_none, count_by, inl, inr, refl, sym, ap, ap₂, ◌∙◌, subst, arith}
use Rattle.std.proofs.lemmas.List.{length-map, get_or_past}
use Rattle.std.proofs.lemmas.List.Elements.{All-take}
use Rattle.cube_model.specs.declared.cell.Cell.{Cell}
use Rattle.cube_model.specs.declared.entry.Entry.{Entry}
use Rattle.cube_model.specs.declared.policy.Method.{Method}
use Rattle.cube_model.specs.declared.policy.Method.TheVariants.{Plain, Lattice, Parity}
use Rattle.cube_model.specs.declared.policy.Policy.{Policy}
use Rattle.cube_model.specs.declared.request.Request.{Request}
use Rattle.cube_model.specs.Cores.{Core, IsCore, shown, world}
use Rattle.cube_model.specs.Cubes.{Public, Dimension, IsIn, are_levels, covered, places}
use Rattle.cube_model.specs.Dims.{plains}
use Rattle.cube_model.specs.Policies.{IsPolicy, IsObject}
use Rattle.cube_model.specs.Protection.{method, protected, protected_by, guarded, core_cell, same_cell, first}
use Rattle.cube_model.specs.Twins.{changes, change_by, moves}
use Rattle.std.proofs.lemmas.Bool.{le-leb}
use Rattle.cube_model.proofs.Filled.{cores_are_worlds}
use Rattle.cube_model.proofs.Histories.{Each-at}
use Rattle.cube_model.proofs.Members.{IsIn-map, same_refl}
use Rattle.cube_model.proofs.Objects.{protected_are}
use Rattle.cube_model.proofs.Parities.{parity_place}
use Rattle.cube_model.proofs.Ranks.{finer_levels}
use Rattle.cube_model.proofs.Sources.{lattice_covers}
use Rattle.cube_model.proofs.Sums.{length-count_from}
use Rattle.cube_model.proofs.Walks.{any_has}
use Rattle.cube_witness.specs.TwinFile.{signs_of}
use Rattle.cube_witness.proofs.Spreads.{moves_are_changes}
use Rattle.cube_demo.specs.Hiding.{hides, hidden_among, rows_on, witness_count}
use Rattle.cube_demo.specs.Counting.{verdicts, history_behind}

-- what is protected is there
pub record IsThere (c : Core) (p : Policy) (m : ℕ) (t : Cell) : Type 0 where
  pub levels : are_levels (plains c.dims) t.levels ≡ true
  pub some : is_none (first (covered (shown c p) t)) ≡ false
  pub listed : list_any (same_cell t) (protected (shown c p) m) ≡ true

cell_same : (t : Cell) → same_cell t t ≡ true
cell_same t = rw (same_refl t.levels) (same_refl t.key)

core_levels : (ds : List Dimension) → are_levels ds (map (λ d. 0) ds) ≡ true
core_levels [] = refl
core_levels (d ∷ ds) = rw (le-leb 0 d.levels (omega arith)) (core_levels ds)

some_in : (is : List ℕ) (i : ℕ) → IsIn i is → is_none (first is) ≡ false
some_in [] i h = absurd h
some_in (x ∷ xs) i h = refl

pub is_there : (c : Core) (p : Policy) (m : ℕ) (t : Cell) → IsCore c → IsPolicy c.dims p → IsIn t (protected (shown c p) m) → IsThere c p m t
unfolding protected
is_there c p m t ok policy h = record { levels = fst; some = snd; listed = any_has (same_cell t) t (protected (shown c p) m) h (cell_same t) }
  where
    by_levels : (way : Method) → method (shown c p) m ≡ way → are_levels (plains c.dims) t.levels ≡ true
    by_levels Plain e = absurd (subst (λ (k : Method). IsIn t (protected_by k (shown c p) m)) e h)
    by_levels Lattice e =
        let it = (protected_are (shown c p) m t e).0 h in
        let rules : IsObject c.dims p it.0 = Each-at (IsObject c.dims p) it.0 p.objects policy.objects it.1 in
        finer_levels (plains c.dims) t.levels it.0.levels it.3 rules.levels
    by_levels Parity e =
        let a = IsIn-map (core_cell (shown c p)) t (guarded (shown c p) m) (subst (λ (k : Method). IsIn t (protected_by k (shown c p) m)) e h) in
        subst (λ (s : Cell). are_levels (plains c.dims) s.levels ≡ true) a.2 (core_levels (plains c.dims))

    fst : are_levels (plains c.dims) t.levels ≡ true
    fst = by_levels (method (shown c p) m) refl

    by_some : (way : Method) → method (shown c p) m ≡ way → is_none (first (covered (shown c p) t)) ≡ false
    by_some Plain e = absurd (subst (λ (k : Method). IsIn t (protected_by k (shown c p) m)) e h)
    by_some Lattice e = let a = lattice_covers (shown c p) m t e h in some_in (covered (shown c p) t) a.0 a.1
    by_some Parity e = ap is_none (parity_place (world c p) m t (cores_are_worlds c p ok policy.methods) e h).alone.is_first

    snd : is_none (first (covered (shown c p) t)) ≡ false
    snd = by_some (method (shown c p) m) refl

-- ---- changes

pub changes_long : (g : Public) (h : List Entry) (m : ℕ) (t : Cell) → length (changes g h m t) ≡ length g.shape.points
unfolding changes
changes_long g h m t = length-map (places g) (change_by (method g m) g h m t) ∙ length-count_from 0 (length g.shape.points)

pub spread : (c : Core) (p : Policy) (h : List Entry) (m : ℕ) (t : Cell) → signs_of (length c.shape.points) (moves (shown c p) (changes (shown c p) h m t)) ≡ changes (shown c p) h m t
spread c p h m t = moves_are_changes (shown c p) (changes (shown c p) h m t) (changes_long (shown c p) h m t)

-- ---- the first cells

pub all_here : {X : Type 0} (P : X → Type 0) (xs : List X) → ((x : X) → IsIn x xs → P x) → All P xs
all_here P [] h k d l = absurd (omega (arith, l))
all_here P (x ∷ xs) h zero d l = h x (inl refl)
all_here P (x ∷ xs) h (suc k) d l = all_here P xs (λ y i. h y (inr i)) k d (omega (arith, l))

pub first_protected : (g : Public) (m most : ℕ) (cells : List Cell) → cells ≡ take most (protected g m) → All (λ (t : Cell). IsIn t (protected g m)) cells
first_protected g m most cells is = subst (All (λ (t : Cell). IsIn t (protected g m))) (sym is) (All-take (λ (t : Cell). IsIn t (protected g m)) most (protected g m) (all_here (λ (t : Cell). IsIn t (protected g m)) (protected g m) (λ t i. i)))

-- a measure that there is none of
pub none_protected : (c : Core) (p : Policy) (m : ℕ) → IsPolicy c.dims p → length c.dims.measures ≤ m → protected (shown c p) m ≡ []
unfolding protected
none_protected c p m policy above = let even = policy.methods in ap (λ (k : Method). protected_by k (shown c p) m) (get_or_past p.methods m Plain (omega (arith, even, above)))

pub none_counted : (c : Core) (p : Policy) (m : ℕ) (rs : List Request) → IsPolicy c.dims p → length c.dims.measures ≤ m → 0 ≡ witness_count (shown c p) rs m
unfolding witness_count
none_counted c p m rs policy above =
    let g = shown c p in
    sym (ap (λ (ts : List Cell). count_by (λ (t : Cell). hides g (rows_on g m rs (verdicts g [] rs)) (changes g (history_behind g [] rs) m t) t) (take 100 ts)) (none_protected c p m policy above))

pub witnesses_are : (g : Public) (m n : ℕ) (rs : List Request) (vs : List Rattle.cube_model.specs.declared.verdict.Verdict.Verdict) (h : List Entry) (tables : List (List Rattle.cube_model.specs.declared.answer.Row.Row)) (cells : List Cell)
    → vs ≡ verdicts g [] rs → h ≡ history_behind g [] rs → tables ≡ rows_on g m rs vs → cells ≡ take 100 (protected g m)
    → n ≡ count_by (λ (t : Cell). hides g tables (changes g h m t) t) cells → n ≡ witness_count g rs m
unfolding witness_count
witnesses_are g m n rs vs h tables cells judged left rows_are cells_are is =
    is
    ∙ ap (λ (ts : List Cell). count_by (λ (t : Cell). hides g tables (changes g h m t) t) ts) cells_are
    ∙ ap₂ (λ (rows : List (List Rattle.cube_model.specs.declared.answer.Row.Row)) (k : List Entry). hidden_among g 100 rows k m) (rows_are ∙ ap (rows_on g m rs) judged) left
