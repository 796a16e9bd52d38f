use Rattle.std.proofs.Common.{◌<◌, ◌&&◌, ℕ, not, find, length, sym, ◌∙◌, arith}
use Rattle.cube_model.specs.Cubes.{count_from, places}
use Rattle.cube_model.specs.Protection.{protected}
use Rattle.cube_model.specs.declared.cell.Cell.{Cell}
use Rattle.cube_model.proofs.Members.{IsIn-count_from}
use Rattle.cube_carry.specs.Continues.{has_measure, has_point, has_values, protects}
use Rattle.cube_carry.specs.Names.{named, known}
use Rattle.cube_carrying.proofs.Answered.{has_dims, in_dims}
use Rattle.cube_carrying.proofs.Breached.{none_numbered, number_below, with_found_at, found_in, all_both, measure_first, point_first, cell_first, nothing_keeps}
use Rattle.cube_carrying.proofs.breach.compare.Goals as goal

pub returns-in-Some : goal.returns-in-Some
returns-in-Some c =
    let a = named c.args.old.now c.args.old_policy.now in
    let b = named c.args.new.now c.args.new_policy.now in
    in_dims a b c.args.old.now.cube c.args.new.now.cube c.dims.result.now c.dims-2.result.now c.in-Some.breach c.dims.ensures.dims c.dims-2.ensures.dims
    (record { is_first = c.in-Some.ensures.0; is_there = c.in-Some.ensures.1 })

pub returns-in-Some-missing_measure : goal.returns-in-Some-missing_measure
returns-in-Some-missing_measure c =
    let a = named c.args.old.now c.args.old_policy.now in
    let b = named c.args.new.now c.args.new_policy.now in
    let dims = has_dims c.dims.result.now c.dims-2.result.now a.dims b.dims c.dims.ensures.dims c.dims-2.ensures.dims c.in_default.ensures in
    let m = c.in-Some-missing_measure.measure in
    (measure_first a b c.args.old.now.cube c.args.new.now.cube m dims (sym c.in-Some-missing_measure.ensures), number_below (λ k. not (has_measure a b k)) (length a.dims.measures) m (sym c.in-Some-missing_measure.ensures))

pub missing_point-requires-clause-measures : goal.missing_point-requires-clause-measures
missing_point-requires-clause-measures c =
    let a = named c.args.old.now c.args.old_policy.now in
    let b = named c.args.new.now c.args.new_policy.now in
    none_numbered (has_measure a b) (count_from 0 (length a.dims.measures)) (sym c.in_default-missing_measure.ensures)

pub returns-in-Some-2 : goal.returns-in-Some-2
returns-in-Some-2 c =
    let a = named c.args.old.now c.args.old_policy.now in
    let b = named c.args.new.now c.args.new_policy.now in
    let dims = has_dims c.dims.result.now c.dims-2.result.now a.dims b.dims c.dims.ensures.dims c.dims-2.ensures.dims c.in_default.ensures in
    let measures = none_numbered (has_measure a b) (count_from 0 (length a.dims.measures)) (sym c.in_default-missing_measure.ensures) in
    let i = c.in-Some-2.place in
    let found = sym c.in_ok-place.ensures ∙ c.in-Some-2.is in (
      point_first a b c.args.old.now.cube c.args.new.now.cube i dims measures found,
      number_below (λ k. not (has_point a b k && has_values a b c.args.old.now.cube c.args.new.now.cube k)) (length a.shape.points) i found,
    )

pub unprotected_cell-requires-clause-measures : goal.unprotected_cell-requires-clause-measures
unprotected_cell-requires-clause-measures c =
    let a = named c.args.old.now c.args.old_policy.now in
    let b = named c.args.new.now c.args.new_policy.now in
    none_numbered (has_measure a b) (count_from 0 (length a.dims.measures)) (sym c.in_default-missing_measure.ensures)

pub unprotected_cell-requires-clause-points : goal.unprotected_cell-requires-clause-points
unprotected_cell-requires-clause-points c =
    let a = named c.args.old.now c.args.old_policy.now in
    let b = named c.args.new.now c.args.new_policy.now in
    let old = c.args.old.now.cube in
    let new = c.args.new.now.cube in
    (all_both (has_point a b) (has_values a b old new) (places (known a)) (none_numbered (λ k. has_point a b k && has_values a b old new k) (places (known a)) (sym c.in_ok-place.ensures ∙ c.in_default-2.is))).0

pub returns-in-Some-3 : goal.returns-in-Some-3
returns-in-Some-3 c =
    let a = named c.args.old.now c.args.old_policy.now in
    let b = named c.args.new.now c.args.new_policy.now in
    let old = c.args.old.now.cube in
    let new = c.args.new.now.cube in
    let dims = has_dims c.dims.result.now c.dims-2.result.now a.dims b.dims c.dims.ensures.dims c.dims-2.ensures.dims c.in_default.ensures in
    let measures = none_numbered (has_measure a b) (count_from 0 (length a.dims.measures)) (sym c.in_default-missing_measure.ensures) in
    let points = none_numbered (λ k. has_point a b k && has_values a b old new k) (places (known a)) (sym c.in_ok-place.ensures ∙ c.in_default-2.is) in
    let m = c.in-Some-3.measure in
    let t = c.in-Some-3.cell in
    let found = sym c.in_ok-measure.ensures ∙ c.in-Some-3.is in
    let at = with_found_at (λ (m : ℕ). find (λ t. not (protects a b m t)) (protected (known a) m)) (count_from 0 (length a.dims.measures)) m t found in
    let range = IsIn-count_from m 0 (length a.dims.measures) at.0 in
    let below : m < length a.dims.measures = omega (arith, range.1) in
    (cell_first a b old new m t dims measures points found, (below, found_in (λ (t : Cell). not (protects a b m t)) (protected (known a) m) t at.1))

pub returns-in-None : goal.returns-in-None
returns-in-None c =
    let a = named c.args.old.now c.args.old_policy.now in
    let b = named c.args.new.now c.args.new_policy.now in
    let old = c.args.old.now.cube in
    let new = c.args.new.now.cube in
    let dims = has_dims c.dims.result.now c.dims-2.result.now a.dims b.dims c.dims.ensures.dims c.dims-2.ensures.dims c.in_default.ensures in
    let measures = none_numbered (has_measure a b) (count_from 0 (length a.dims.measures)) (sym c.in_default-missing_measure.ensures) in
    let points = none_numbered (λ k. has_point a b k && has_values a b old new k) (places (known a)) (sym c.in_ok-place.ensures ∙ c.in_default-2.is) in
    let all = nothing_keeps a b old new dims measures points (sym c.in_ok-measure.ensures ∙ c.in-None.is) in
    (all.0, all.1, c.in_ok-places.ensures)
