-- The small cubes meet what the laws ask of worlds, cores, histories and boxes.
use Rattle.std.proofs.Common.{◌≡◌, ℕ, zero, suc, ◌<◌, ◌≤◌, [], ◌∷◌, None, refl, sym, ap, ◌∙◌, arith, ltb, true}
use Rattle.std.proofs.lemmas.Bool.{lt-ltb}
use Rattle.cube_model.specs.declared.entry.Entry.TheVariants.{Source}
use Rattle.cube_model.specs.Cubes.{Dimension, IsWorld, up, key_at, IsHierarchy}
use Rattle.cube_model.specs.Requests.{is_picked, grain, is_valid}
use Rattle.cube_model.specs.Protection.{protected, cutting_pairs}
use Rattle.cube_model.specs.Links.{suiting}
use Rattle.cube_model.specs.Entries.{is_allowed}
use Rattle.cube_model.specs.Verdicts.{source, links_of, verdict, taken, IsAdmissible}
use Rattle.cube_model.specs.EvenBoxes.{IsFull, IsEvenBox}
use Rattle.cube_model.specs.Examples.{pay_cube, empty_cube, two_row_cube, full_cube, two, two_links, region, time, row, column, months, range, leaves}
use Rattle.cube_model.proofs.Boxes.{all_points, spread, full_if}

-- with at most two levels each member has one parent, since leaves are told apart
two_levels : (d : Dimension) → 0 < d.levels → d.levels ≤ 2 → IsHierarchy d
unfolding up
two_levels d a b zero x y l h k e = ap (up d 1) (leaf x ∙ e ∙ sym (leaf y))
  where
    leaf : (z : ℕ) → z ≡ up d 0 z
    leaf z = let t : ltb 0 d.levels ≡ true = lt-ltb 0 d.levels a in rw t refl
two_levels d a b (suc n) x y l h k e = absurd (omega arith)

pub pay_world : IsWorld pay_cube
pay_world = record {
  named = (omega arith, (omega arith, tt));
  even = ((refl, (refl, (refl, tt))), ((refl, (refl, tt)), tt));
  leaves = (refl, (refl, tt));
  hierarchies = (two_levels region (omega arith) (omega arith), (two_levels time (omega arith) (omega arith), tt));
  points = ((omega arith, (omega arith, tt)), ((omega arith, (omega arith, tt)), ((omega arith, (omega arith, tt)), ((omega arith, (omega arith, tt)), ((omega arith, (omega arith, tt)), tt)))));
  increasing = (refl, (refl, (refl, (refl, (refl, tt)))));
  facts = refl;
  counted = (omega arith, (omega arith, (omega arith, (omega arith, (omega arith, tt)))));
  methods = refl;
  values = (refl, (refl, tt));
}

pub full_world : IsWorld full_cube
full_world = record {
  named = (omega arith, (omega arith, tt));
  even = ((refl, (refl, tt)), ((refl, (refl, (refl, tt))), tt));
  leaves = (refl, (refl, tt));
  hierarchies = (two_levels row (omega arith) (omega arith), (two_levels column (omega arith) (omega arith), tt));
  points = ((omega arith, (omega arith, tt)), ((omega arith, (omega arith, tt)), ((omega arith, (omega arith, tt)), ((omega arith, (omega arith, tt)), ((omega arith, (omega arith, tt)), ((omega arith, (omega arith, tt)), tt))))));
  increasing = (refl, (refl, (refl, (refl, (refl, (refl, tt))))));
  facts = refl;
  counted = (omega arith, (omega arith, (omega arith, (omega arith, (omega arith, (omega arith, tt))))));
  methods = refl;
  values = (refl, tt);
}

pub full_is_full : IsFull full_cube.shown
unfolding all_points spread
full_is_full = full_if full_cube.shown refl

pub even_box : IsEvenBox full_cube.shown (range 0 1 None (leaves 0 1))
unfolding is_valid up is_picked
even_box = record {
  valid = refl;
  ungrouped = refl;
  consecutive = ((0, 2, refl), ((0, 2, refl), tt));
  even = refl;
  some = omega arith;
}

pub pay_history : IsAdmissible pay_cube.shown (months ∷ [])
unfolding up key_at is_picked grain protected cutting_pairs source verdict is_valid is_allowed taken
pay_history = (refl, refl, tt)

pub pay_source : IsAdmissible pay_cube.shown (Source 0 (two 2 0) ∷ [])
unfolding up key_at is_picked grain protected cutting_pairs source verdict is_valid is_allowed taken
pay_source = (refl, refl, tt)

pub two_row_links : IsAdmissible two_row_cube.shown two_links
unfolding up key_at suiting links_of is_allowed taken
two_row_links = (refl, refl, (refl, refl, tt))

pub small_box : IsEvenBox full_cube.shown (range 0 1 (leaves 0 0) (leaves 0 1))
unfolding is_valid up is_picked
small_box = record {
  valid = refl;
  ungrouped = refl;
  consecutive = ((0, 1, refl), ((0, 2, refl), tt));
  even = refl;
  some = omega arith;
}

pub empty_world : IsWorld empty_cube
empty_world = record {
  named = (omega arith, (omega arith, tt));
  even = ((refl, (refl, (refl, tt))), ((refl, (refl, tt)), tt));
  leaves = (refl, (refl, tt));
  hierarchies = (two_levels region (omega arith) (omega arith), (two_levels time (omega arith) (omega arith), tt));
  points = tt;
  increasing = tt;
  facts = refl;
  counted = tt;
  methods = refl;
  values = (refl, (refl, tt));
}
