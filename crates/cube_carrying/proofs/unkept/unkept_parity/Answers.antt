use Rattle.std.specs.Option.{option_map}
use Rattle.std.proofs.Common.{ℕ, false, not, ◌&&◌, length, Some, sym, ap, ◌∙◌, arith}
use Rattle.cube_model.specs.Cubes.{places}
use Rattle.cube_model.specs.Protection as protection
use Rattle.cube_source.specs.Blocks.{bare}
use Rattle.cube_source.specs.Objects.{of_measure}
use Rattle.cube_source.proofs.Steps.{first_number, no_number}
use Rattle.cube_carrying.specs.KeptCells as said
use Rattle.cube_carrying.proofs.Firsts.{up_to}
use Rattle.cube_carrying.proofs.Walked.{chosen, unchosen, core_first}
use Rattle.cube_carrying.proofs.unkept.unkept_parity.Goals as goal

pub returns-in-Some : goal.returns-in-Some
returns-in-Some c =
    let core = protection.core_cell (bare c.args.crossing.now.old.now) in
    let guard = protection.is_guarded (bare c.args.crossing.now.old.now) (of_measure c.args.old_measure c.args.crossing.now.old_policy.now.objects) in
    let kept = said.is_kept c.args.crossing.now.old.now c.args.crossing.now.new.now c.args.crossing.now.new_policy.now c.args.crossing.now.measure in
    let test = λ (i : ℕ). guard i && not (kept (core i)) in
    let hit = chosen (test c.places.place) (core c.places.place) c.in-Some.cell (sym c.in_ok-found.ensures ∙ c.in-Some.is) in
    let size = c.len-place-end.ensures.len in
    ap Some (sym hit.1)
    ∙ ap (option_map core) (sym (first_number test 0 (length c.args.crossing.now.old.now.shape.points) c.places.place (omega arith) (omega (arith, size, c.places-test.true)) c.places.invariant hit.0))
    ∙ core_first guard kept core (places (bare c.args.crossing.now.old.now))

pub places-preserved : goal.places-preserved
places-preserved c =
    let core = protection.core_cell (bare c.args.crossing.now.old.now) in
    let guard = protection.is_guarded (bare c.args.crossing.now.old.now) (of_measure c.args.old_measure c.args.crossing.now.old_policy.now.objects) in
    let kept = said.is_kept c.args.crossing.now.old.now c.args.crossing.now.new.now c.args.crossing.now.new_policy.now c.args.crossing.now.measure in
    let test = λ (i : ℕ). guard i && not (kept (core i)) in
    up_to test false c.places.place c.places.invariant (unchosen (test c.places.place) (core c.places.place) (sym c.in_ok-found.ensures ∙ c.in_default.is))

pub returns : goal.returns
returns c =
    let core = protection.core_cell (bare c.args.crossing.now.old.now) in
    let guard = protection.is_guarded (bare c.args.crossing.now.old.now) (of_measure c.args.old_measure c.args.crossing.now.old_policy.now.objects) in
    let kept = said.is_kept c.args.crossing.now.old.now c.args.crossing.now.new.now c.args.crossing.now.new_policy.now c.args.crossing.now.measure in
    let test = λ (i : ℕ). guard i && not (kept (core i)) in
    let size = c.len-place-end.ensures.len in
    ap (option_map core) (sym (no_number test 0 (length c.args.crossing.now.old.now.shape.points) (λ j l. c.places.invariant j (omega (arith, l, size, c.places-test.false)))))
    ∙ core_first guard kept core (places (bare c.args.crossing.now.old.now))
