use Rattle.std.proofs.Common.{◌<◌, ℕ, [], length, sym, arith}
use Rattle.cube_model.specs.Cubes.{count_from}
use Rattle.cube_model.specs.Dims.{dimension_at, no_dimension}
use Rattle.cube_carry.specs.Continues.{has_dimension, has_levels, has_path}
use Rattle.cube_model.proofs.Members.{IsIn-count_from}
use Rattle.cube_carrying.specs.Firsts.{first_failing}
use Rattle.cube_carrying.proofs.Breached.{none_failing, failing_below, with_found_at, no_dimension_first, other_dimension_first, other_levels_first, no_path_first, have_paths}
use Rattle.cube_carrying.proofs.breach.dims_breach.Goals as goal

pub returns-in-Some : goal.returns-in-Some
returns-in-Some c =
    let s = c.args.old.now in
    let z = c.args.new.now in
    (no_dimension_first s z c.in-Some.number (sym c.in-Some.ensures), failing_below (has_dimension z) s.dimensions c.in-Some.number no_dimension (sym c.in-Some.ensures))

pub returns-in-Some-missing_dimension : goal.returns-in-Some-missing_dimension
returns-in-Some-missing_dimension c =
    let s = c.args.old.now in
    let z = c.args.new.now in (
      other_dimension_first s z c.in-Some-missing_dimension.number (none_failing (has_dimension z) s.dimensions (sym c.in_default.ensures)) (sym c.in-Some-missing_dimension.ensures),
      failing_below (has_dimension s) z.dimensions c.in-Some-missing_dimension.number no_dimension (sym c.in-Some-missing_dimension.ensures),
    )

pub returns-in-Some-other_levels : goal.returns-in-Some-other_levels
returns-in-Some-other_levels c =
    let s = c.args.old.now in
    let z = c.args.new.now in (
      other_levels_first s z c.in-Some-other_levels.number (none_failing (has_dimension z) s.dimensions (sym c.in_default.ensures)) (none_failing (has_dimension s) z.dimensions (sym c.in_default-missing_dimension.ensures)) (sym c.in-Some-other_levels.ensures),
      failing_below (has_levels z) s.dimensions c.in-Some-other_levels.number no_dimension (sym c.in-Some-other_levels.ensures),
    )

pub missing_path-requires : goal.missing_path-requires
missing_path-requires c = none_failing (has_dimension c.args.new.now) c.args.old.now.dimensions (sym c.in_default.ensures)

pub returns-in-Some-missing_path : goal.returns-in-Some-missing_path
returns-in-Some-missing_path c =
    let s = c.args.old.now in
    let z = c.args.new.now in
    let d = c.in-Some-missing_path.number in
    let n = c.in-Some-missing_path.path in
    let at = with_found_at (λ (d : ℕ). first_failing (has_path z (dimension_at s d)) (dimension_at s d).paths) (count_from 0 (length s.dimensions)) d n (sym c.in-Some-missing_path.ensures) in
    let range = IsIn-count_from d 0 (length s.dimensions) at.0 in
    let below : d < length s.dimensions = omega (arith, range.1) in (
      no_path_first s z d n (none_failing (has_dimension z) s.dimensions (sym c.in_default.ensures)) (none_failing (has_dimension s) z.dimensions (sym c.in_default-missing_dimension.ensures))
          (none_failing (has_levels z) s.dimensions (sym c.in_default-other_levels.ensures)) (sym c.in-Some-missing_path.ensures),
      (below, failing_below (has_path z (dimension_at s d)) (dimension_at s d).paths n [] at.1),
    )

pub returns : goal.returns
returns c =
    let s = c.args.old.now in
    let z = c.args.new.now in
    record {
      dimensions = none_failing (has_dimension z) s.dimensions (sym c.in_default.ensures);
      no_other = none_failing (has_dimension s) z.dimensions (sym c.in_default-missing_dimension.ensures);
      levels = none_failing (has_levels z) s.dimensions (sym c.in_default-other_levels.ensures);
      paths = have_paths s z (sym c.in_default-missing_path.ensures);
    }
