use Rattle.std.proofs.Common.{◌<◌, ◌&&◌, ℕ, true, not, length, ap, sym, ◌∙◌, arith}
use Rattle.cube_source.proofs.Steps.{first_number, no_number}
use Rattle.cube_carrying.specs.Places.{place_in}
use Rattle.cube_carrying.specs.Points.{has_facts, has_values}
use Rattle.cube_carrying.proofs.Firsts.{up_to}
use Rattle.cube_carrying.proofs.Keeping.{place_read, places_long}
use Rattle.cube_carrying.proofs.points.first_missing.Goals as goal

pub bounds-places-place : goal.bounds-places-place
bounds-places-place g c =
    let long = places_long c.args.old.now c.args.new.now c.args.places.now c.requires.places in
    omega (arith, long, c.len-place-end.ensures.len, c.places-test.true)

pub returns-then-not-has_point : goal.returns-then-not-has_point
returns-then-not-has_point g c =
    let old = c.args.old.now in
    let new = c.args.new.now in
    let p = λ (i : ℕ). has_facts old new i (place_in old new i) && has_values old new i (place_in old new i) in
    let n = length old.shape.points in
    let below : c.places.place < n = omega (arith, c.len-place-end.ensures.len, c.places-test.true) in
    let there = place_read old new c.args.places.now c.places.place c.requires.places below in
    let fails = sym (ap (λ (j : ℕ). has_facts old new c.places.place j && has_values old new c.places.place j) there) ∙ sym c.has_point.ensures ∙ c.if-not-has_point.true in
    sym (first_number (λ k. not (p k)) 0 n c.places.place (omega arith) (omega (arith, below)) (λ j l. ap not (c.places.invariant j l)) (ap not fails))

pub returns : goal.returns
returns g c =
    let old = c.args.old.now in
    let new = c.args.new.now in
    let p = λ (i : ℕ). has_facts old new i (place_in old new i) && has_values old new i (place_in old new i) in
    let n = length old.shape.points in
    sym (no_number (λ k. not (p k)) 0 n (λ j l. ap not (c.places.invariant j (omega (arith, l, c.len-place-end.ensures.len, c.places-test.false)))))

pub places-preserved : goal.places-preserved
places-preserved g c =
    let old = c.args.old.now in
    let new = c.args.new.now in
    let p = λ (i : ℕ). has_facts old new i (place_in old new i) && has_values old new i (place_in old new i) in
    let below : c.places.place < length old.shape.points = omega (arith, c.len-place-end.ensures.len, c.places-test.true) in
    let there = place_read old new c.args.places.now c.places.place c.requires.places below in
    let passes = sym (ap (λ (j : ℕ). has_facts old new c.places.place j && has_values old new c.places.place j) there) ∙ sym c.has_point.ensures ∙ c.if-not-has_point.false in
    up_to p true c.places.place c.places.invariant passes
