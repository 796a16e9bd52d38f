-- The worked cubes meet what the laws ask of two lives.
use Rattle.std.proofs.Common.{◌≡◌, ℕ, zero, suc, ◌<◌, ◌≤◌, true, [], ◌∷◌, refl, sym, ap, ◌∙◌, arith, ltb}
use Rattle.std.proofs.lemmas.Bool.{lt-ltb}
use Rattle.cube_model.specs.declared.entry.Entry.TheVariants.{Source}
use Rattle.cube_model.specs.Cubes.{Dimension, up, key_at, IsHierarchy}
use Rattle.cube_model.specs.Dims.{plain}
use Rattle.cube_model.specs.Requests.{is_picked, grain, is_valid}
use Rattle.cube_model.specs.Protection.{protected, cutting_pairs}
use Rattle.cube_model.specs.Entries.{is_allowed}
use Rattle.cube_model.specs.Verdicts.{source, verdict, taken}
use Rattle.cube_model.specs.Examples.{two, slice, ask}
use Rattle.cube_carry.specs.Names.{IsNamed}
use Rattle.cube_carry.specs.TwoLives.{AreLives}
use Rattle.cube_carry.specs.Rows.{pay_by, two_months, three_months, region, time, cities, pay_from, pay_with_march}

-- with at most two levels each member has one parent, since leaves are told apart
two_levels : (d : Dimension) → 0 < d.levels → d.levels ≤ 2 → IsHierarchy d
unfolding up
two_levels d a b zero x y l h k e = ap (up d 1) (leaf x ∙ e ∙ sym (leaf y))
  where
    leaf : (z : ℕ) → z ≡ up d 0 z
    leaf z = let t : ltb 0 d.levels ≡ true = lt-ltb 0 d.levels a in rw t refl
two_levels d a b (suc n) x y l h k e = absurd (omega arith)

pub two_month_world : IsNamed (pay_by (two 0 0) two_months) (pay_from 10)
two_month_world = record {
  world = record {
    named = (omega arith, (omega arith, tt));
    even = ((refl, (refl, (refl, (refl, tt)))), ((refl, (refl, tt)), tt));
    leaves = (refl, (refl, tt));
    hierarchies = (two_levels (plain (region cities)) (omega arith) (omega arith), (two_levels (plain (time two_months)) (omega arith) (omega arith), tt));
    points = ((omega arith, (omega arith, tt)), ((omega arith, (omega arith, tt)), ((omega arith, (omega arith, tt)), ((omega arith, (omega arith, tt)), ((omega arith, (omega arith, tt)), ((omega arith, (omega arith, tt)), ((omega arith, (omega arith, tt)), ((omega arith, (omega arith, tt)), tt))))))));
    increasing = (refl, (refl, (refl, (refl, (refl, (refl, (refl, (refl, tt))))))));
    facts = refl;
    counted = (omega arith, (omega arith, (omega arith, (omega arith, (omega arith, (omega arith, (omega arith, (omega arith, tt))))))));
    methods = refl;
    values = (refl, tt);
  };
  dimensions = refl;
  measures = refl;
  methods = refl;
  objects = (refl, tt);
}

pub three_month_world : IsNamed (pay_by (two 0 0) three_months) pay_with_march
three_month_world = record {
  world = record {
    named = (omega arith, (omega arith, tt));
    even = ((refl, (refl, (refl, (refl, tt)))), ((refl, (refl, (refl, tt))), tt));
    leaves = (refl, (refl, tt));
    hierarchies = (two_levels (plain (region cities)) (omega arith) (omega arith), (two_levels (plain (time three_months)) (omega arith) (omega arith), tt));
    points = ((omega arith, (omega arith, tt)), ((omega arith, (omega arith, tt)), ((omega arith, (omega arith, tt)), ((omega arith, (omega arith, tt)), ((omega arith, (omega arith, tt)), ((omega arith, (omega arith, tt)), ((omega arith, (omega arith, tt)), ((omega arith, (omega arith, tt)), ((omega arith, (omega arith, tt)), ((omega arith, (omega arith, tt)), ((omega arith, (omega arith, tt)), ((omega arith, (omega arith, tt)), tt))))))))))));
    increasing = (refl, (refl, (refl, (refl, (refl, (refl, (refl, (refl, (refl, (refl, (refl, (refl, tt))))))))))));
    facts = refl;
    counted = (omega arith, (omega arith, (omega arith, (omega arith, (omega arith, (omega arith, (omega arith, (omega arith, (omega arith, (omega arith, (omega arith, (omega arith, tt))))))))))));
    methods = refl;
    values = (refl, tt);
  };
  dimensions = refl;
  measures = refl;
  methods = refl;
  objects = (refl, tt);
}

pub march_lives : AreLives (pay_by (two 0 0) two_months) (pay_by (two 0 0) three_months) (pay_from 10) pay_with_march [] (ask (slice 0 1 2) ∷ []) (ask (slice 0 1 0) ∷ []) (Source 0 (two 1 0) ∷ [])
unfolding up key_at is_picked grain protected cutting_pairs source verdict is_valid is_allowed taken
march_lives = record {
  old_named = two_month_world;
  new_named = three_month_world;
  continues = record { dimensions = refl; no_other = refl; levels = refl; paths = refl; measures = refl; points = refl; cells = refl };
  same_values = refl;
  admissible = tt;
  carried = refl;
  later_admissible = (refl, refl, tt);
  extends = ([], refl);
}
