-- The cells that lines on cubes name are of members that there are.
use Rattle.std.proofs.Common.{◌≡◌, refl, sym, ap, ◌∙◌, subst, ℕ, true, length, arith}
use Rattle.std.proofs.lemmas.List.{length-map}
use Rattle.cube_model.specs.declared.cell.Cell.{Cell}
use Rattle.cube_model.specs.declared.policy.Method.{Method}
use Rattle.cube_model.specs.declared.policy.Method.TheVariants.{Plain, Lattice, Parity}
use Rattle.cube_model.specs.declared.policy.Policy.{Policy}
use Rattle.cube_model.specs.Cores.{Core, IsCore, shown}
use Rattle.cube_model.specs.Cubes.{IsIn, are_levels, key_at}
use Rattle.cube_model.specs.Dims.{plains}
use Rattle.cube_model.specs.Policies.{IsPolicy, IsObject}
use Rattle.cube_model.specs.Protection.{method, protected, guarded, core_cell}
use Rattle.cube_model.proofs.Histories.{length-levels, Each-at}
use Rattle.cube_model.proofs.Members.{same_eq, count_from_has, IsIn-map}
use Rattle.cube_model.proofs.Objects.{protected_are}
use Rattle.cube_model.proofs.Parities.{guarded_below}
use Rattle.cube_model.proofs.Ranks.{finer_levels}
use Rattle.cube_text.specs.Keys.{KeyFits}
use Rattle.cube_answers.specs.VerdictText.{CellFits}
use Rattle.cube_answers.proofs.Keys.{key_there, point_at, cell_fits}

lattice_fits : (c : Core) (p : Policy) (m : ℕ) (t : Cell) → IsCore c → IsPolicy c.dims p → method (shown c p) m ≡ Lattice → IsIn t (protected (shown c p) m) → CellFits c.dims t
unfolding key_at
lattice_fits c p m t ok policy way within =
    let it = (protected_are (shown c p) m t way).0 within in
    let rules : IsObject c.dims p it.0 = Each-at (IsObject c.dims p) it.0 p.objects policy.objects it.1 in
    let levels : are_levels (plains c.dims) t.levels ≡ true = finer_levels (plains c.dims) t.levels it.0.levels it.3 rules.levels in
    let long : length t.levels ≡ length c.dims.dimensions = length-levels (plains c.dims) t.levels levels ∙ simp length-map in
    let place = point_at c p it.5 ok (count_from_has it.5 0 (length c.shape.points) (omega arith) (let below = it.6 in omega (arith, below))) in
    let there = key_there c.dims t.levels _ ok.dims long place in
    let key : key_at (shown c p) t.levels it.5 ≡ t.key = same_eq (key_at (shown c p) t.levels it.5) t.key it.8 in
    record { levels = long; key = ap length (sym key) ∙ there.0; there = subst (KeyFits c.dims t.levels) key there.1 }

-- the core cell of a place
pub stop_cell : (c : Core) (p : Policy) (m : ℕ) (t : Cell) → IsCore c → ((i : ℕ) × IsIn i (guarded (shown c p) m) × (t ≡ core_cell (shown c p) i)) → CellFits c.dims t
unfolding key_at
stop_cell c p m t ok it = subst (CellFits c.dims) (sym it.2) (cell_fits c it.0 ok (guarded_below (shown c p) m it.0 it.1))

-- a protected cell
pub breach_cell : (c : Core) (p : Policy) (m : ℕ) (t : Cell) → IsCore c → IsPolicy c.dims p → IsIn t (protected (shown c p) m) → CellFits c.dims t
unfolding protected
breach_cell c p m t ok policy within = go (method (shown c p) m) refl
  where
    go : (way : Method) → method (shown c p) m ≡ way → CellFits c.dims t
    go Plain way = absurd (rw way at within)
    go Lattice way = lattice_fits c p m t ok policy way within
    go Parity way =
        let it = IsIn-map (core_cell (shown c p)) t (guarded (shown c p) m) (rw way at within) in
        stop_cell c p m t ok (it.0, it.1, sym it.2)
