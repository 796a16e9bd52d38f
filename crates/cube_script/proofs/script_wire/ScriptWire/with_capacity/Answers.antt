use Rattle.std.proofs.Common.{map, refl, arith}
use Rattle.std.proofs.lemmas.List.{map-append}
use Rattle.cube_model.specs.Cubes.{Each}
use Rattle.cube_script.specs.Plays.{played}
use Rattle.cube_script.specs.Capacity.{IsPlayable}
use Rattle.cube_script.proofs.Playable.{script_playable}
use Rattle.cube_script.proofs.Ready.{ready_start, listening_start}
use Rattle.cube_script.proofs.script_wire.ScriptWire.with_capacity.Goals as goal

pub invariant_of-result : goal.invariant_of-result
invariant_of-result c =
    let each : Each IsPlayable (map played c.push.new.self.items) = rw (c.in_ok-push.ensures.items, map-append) (script_playable c.args.script.now (map played c.in_ok-plays.plays.items) (rw c.as_slice.ensures at c.in_ok-plays.ensures)) in
    let made = c.in_ok-with_capacity.ensures in
    let entries = rw c.deref.ensures.value at c.in-Some.ensures.entries in
    let pieces = rw c.deref.ensures.value at c.in-Some.ensures.bytes in
    let all = c.in-Some-checked_add.ensures in
    let capacity = c.in-Some-checked_add-2.ensures in
    let addresses = c.in_ok-with_capacity-2.ensures in
    (ready_start _ (map played c.in_ok-plays.plays.items) _ _ (rw (c.in_ok-push.ensures.items, map-append) refl) each made.0 (omega (arith, made.1, all.1, entries)) (omega (arith, made.2, capacity.1, pieces)) (omega (arith, made.1, all.0, all.1)), listening_start c.in_ok-with_capacity-2.field-0 addresses.0 addresses.1 addresses.2)
