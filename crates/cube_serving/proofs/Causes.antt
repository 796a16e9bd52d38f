-- Why a run ended on its wire or behind its script.
use Rattle.std.proofs.Common.{◌≡◌, ◌≢◌, Bool, true, false, inl, inr, refl}
use Rattle.std.specs.Prelude.{Result, Ok, Err, OnOk, OnErr, is_err}
use Rattle.cube_io.specs.Causes.{Rose}
use Rattle.cube_io.specs.Seen.{SinkState, WireState, Seen}
use Rattle.cube_io.specs.declared.faults.Failed.{Failed}
use Rattle.cube_opening.specs.Causes.{HasCauses, only_out, only_wire}
use Rattle.cube_opening.specs.declared.report.Report.{Report}
use Rattle.cube_opening.proofs.Causes.{own, at_out, at_wire}
use Rattle.cube_server.specs.declared.serving.ServeFault.{ServeFault}
use Rattle.cube_server.specs.declared.serving.ServeFault.TheVariants.{WireFailed, Spent}
use Rattle.cube_serving.specs.Replaying.{played_status}
use Rattle.cube_serving.specs.Serving.{served_status}
use Rattle.cube_starting.proofs.Unstarted as groups

-- on a wire
pub at_serving : {W : Type 0} (wire : Seen WireState W) (r : Report) (end : Result (Unit {0}) ServeFault) → r.status ≡ served_status end → (end ≡ Err WireFailed → Rose wire.before.faults wire.after.faults) → (end ≢ Err WireFailed → wire.after.faults ≡ wire.before.faults) → HasCauses (only_wire wire) r
at_serving wire r (Ok u) is rose still = own (inl is) (record { files = refl; input = refl; out = refl; wire = still (λ e. cc) })
at_serving wire r (Err WireFailed) is rose still = at_wire is (rose refl) refl refl refl
at_serving wire r (Err (Spent requests events)) is rose still = own (inr (inr (inr (inr (inl is))))) (record { files = refl; input = refl; out = refl; wire = still (λ e. cc) })

-- behind a script, whose wire fails only where a send passed the space
pub at_play : {O : Type 0} (P Q : Type 0) (out : Seen SinkState O) (r : Report) (done : Result (Unit {0}) Failed) (torn : Bool) (end : Result (Unit {0}) ServeFault) → OnOk done ((r.status ≡ played_status torn end) × P) → (is_err done ≡ true → (r.status ≡ 6) × Q)
    → OnOk done (out.after.faults ≡ out.before.faults) → OnErr done (Rose out.before.faults out.after.faults) → (torn ≡ false → end ≢ Err WireFailed) → HasCauses (only_out out) r
at_play P Q out r (Err failed) torn end put unput still rose none = at_out (unput refl).0 rose refl refl refl
at_play P Q out r (Ok u) true end put unput still rose none = own (inr (inr (inr (inr (inl put.0))))) (record { files = refl; input = refl; out = still; wire = refl })
at_play P Q out r (Ok u) false (Ok v) put unput still rose none = own (inl put.0) (record { files = refl; input = refl; out = still; wire = refl })
at_play P Q out r (Ok u) false (Err WireFailed) put unput still rose none = absurd (none refl refl)
at_play P Q out r (Ok u) false (Err (Spent requests events)) put unput still rose none = own (inr (inr (inr (inr (inl put.0))))) (record { files = refl; input = refl; out = still; wire = refl })
