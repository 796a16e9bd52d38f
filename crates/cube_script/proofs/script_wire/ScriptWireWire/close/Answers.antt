use Rattle.std.proofs.Common.{sym, subst}
use Rattle.cube_io.specs.Wires.{IsOpen}
use Rattle.cube_script.specs.Playing.{Playing}
use Rattle.cube_script.proofs.Ready.{shut_owes, ready_shut}
use Rattle.cube_script.proofs.script_wire.ScriptWireWire.close.Goals as goal

pub add-requires-clause-entry : goal.add-requires-clause-entry
add-requires-clause-entry c =
    let opens = subst (λ (w : Playing). IsOpen c.args.c w.log) (sym c.self.view_is) c.requires in
    (shut_owes _ _ c.args.c c.self.invariant.0 opens).1

pub overflow_sub-self : goal.overflow_sub-self
overflow_sub-self c =
    let opens = subst (λ (w : Playing). IsOpen c.args.c w.log) (sym c.self.view_is) c.requires in
    (shut_owes _ _ c.args.c c.self.invariant.0 opens).0

pub invariant_of-self : goal.invariant_of-self
invariant_of-self c =
    let opens = subst (λ (w : Playing). IsOpen c.args.c w.log) (sym c.self.view_is) c.requires in
    (ready_shut _ _ c.args.c c.add.new.self c.self.invariant.0 opens c.add.ensures.log c.add.ensures.entries c.add.ensures.bytes, c.self.invariant.1)
