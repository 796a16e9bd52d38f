use Rattle.std.proofs.Common.{◌≡◌, ◌||◌, true, sym, subst, arith, length}
use Rattle.cube_io.specs.Wires.{IsSound}
use Rattle.cube_script.specs.Playing.{Playing, passes_capacity_by}
use Rattle.cube_script.proofs.Ready.{torn_owes, ready_torn, ready_sent, fails_behind, fails_sends, fails_bytes}
use Rattle.cube_script.proofs.script_wire.ScriptWireWire.send.Goals as goal
use Rattle.cube_script.proofs.script_wire.ScriptWireWire.send.Goals.{then-self-via-then-self, then-self-via-else-self+then-self-eq0, then-self-via-else-self+else-self-eq0+then-self-piece}

pub add-requires-clause-entry : goal.add-requires-clause-entry
add-requires-clause-entry c =
    let sound = subst (λ (w : Playing). IsSound c.args.c w.log) (sym c.self.view_is) c.requires in
    (torn_owes _ _ c.args.c c.self.invariant.0 sound).1

pub overflow_sub-self : goal.overflow_sub-self
overflow_sub-self c =
    let sound = subst (λ (w : Playing). IsSound c.args.c w.log) (sym c.self.view_is) c.requires in
    (torn_owes _ _ c.args.c c.self.invariant.0 sound).0

pub invariant_of-self : goal.invariant_of-self
invariant_of-self c =
    let sound = subst (λ (w : Playing). IsSound c.args.c w.log) (sym c.self.view_is) c.requires in
    let len = length c.args.piece.now in
    let why : (c.self.inside.overrun || passes_capacity_by c.self.inside.most c.self.inside.scroll.log len) ≡ true =
    elim c.then-self.branch [
      | then-self-via-then-self w ↦ fails_behind c.self.inside.overrun c.self.inside.most c.self.inside.scroll.log len w.if-self.true
      | then-self-via-else-self+then-self-eq0 w ↦ fails_sends _ _ len c.self.invariant.0 w.if-self-eq0.true
      | then-self-via-else-self+else-self-eq0+then-self-piece w ↦ fails_bytes _ _ len c.self.invariant.0 w.if-self-piece.true
    ] in
    (ready_torn _ _ c.args.c len _ c.add.new.self c.self.invariant.0 sound why (omega (arith, c.saturating_add-self-inside.ensures)) c.add.ensures.log c.add.ensures.entries c.add.ensures.bytes, c.self.invariant.1)

pub invariant_of-self-2 : goal.invariant_of-self-2
invariant_of-self-2 c =
    (ready_sent _ _ c.args.c c.args.piece.now c.add-2.new.self c.self.invariant.0 c.if-self.false (omega (arith, c.if-self-eq0.false)) c.if-self-piece.false c.add-2.ensures.log c.add-2.ensures.entries c.add-2.ensures.bytes, c.self.invariant.1)
