-- What a run asked for where it was to listen, and how its serving ended.
use Rattle.std.proofs.Common.{◌≡◌, ◌≢◌, ◌++◌, ◌∷◌, ◌⊎◌, ℕ, Bool, false, IsTrue, List, [], inl, inr, refl, sym, ap, arith}
use Rattle.std.specs.Prelude.{◌-◌, ◌<◌, Result, Ok, Err, OnOk, OnErr, IfErr, length}
use Rattle.cube_model.specs.declared.outcome.Outcome.{Outcome}
use Rattle.cube_io.specs.Causes.{RoseBy}
use Rattle.cube_io.specs.Desks.{faults_in}
use Rattle.cube_io.specs.Wires.{Arrival, LogEntry, events_in}
use Rattle.cube_io.specs.Wires.Arrival.{End}
use Rattle.cube_opening.specs.declared.report.Report.{Report}
use Rattle.cube_server.specs.Seen.{DeskState}
use Rattle.cube_server.specs.Steps.{IsCounted, has_end}
use Rattle.cube_server.specs.declared.serving.ServeFault.{ServeFault}
use Rattle.cube_server.specs.declared.serving.ServeFault.TheVariants.{WireFailed, Spent}
use Rattle.cube_talk.specs.Talk.{max_input}
use Rattle.cube_serving.specs.Serving.{served_status, Ends}

-- the address was asked for, or the wire failed before
pub heard_or_failed : (address : List ℕ) (idle : ℕ) (old new : List (List ℕ × ℕ)) (r : Report) → (new ≡ old) ⊎ (new ≡ old ++ (address, idle) ∷ []) → r.status ≡ 8 → (new ≡ old ++ (address, idle) ∷ []) ⊎ ((new ≡ old) × (r.status ≡ 8))
heard_or_failed address idle old new r (inl e) status = inr (e, status)
heard_or_failed address idle old new r (inr e) status = inl e

-- ---- the status of a serving

served_not : (n : ℕ) → (n ≡ 0 → ⊥) → (n ≡ 8 → ⊥) → (n ≡ 10 → ⊥) → (end : Result (Unit {0}) ServeFault) → served_status end ≡ n → ⊥
served_not n zero eight ten (Ok u) e = zero (sym e)
served_not n zero eight ten (Err WireFailed) e = eight (sym e)
served_not n zero eight ten (Err (Spent requests events)) e = ten (sym e)

-- neither of these is the status of one
pub not_seven : (end : Result (Unit {0}) ServeFault) → served_status end ≡ 7 → ⊥
not_seven end e = served_not 7 (λ k. omega (arith, k)) (λ k. omega (arith, k)) (λ k. omega (arith, k)) end e

pub not_nine : (end : Result (Unit {0}) ServeFault) → served_status end ≡ 9 → ⊥
not_nine end e = served_not 9 (λ k. omega (arith, k)) (λ k. omega (arith, k)) (λ k. omega (arith, k)) end e

-- where the wire did not fail and not the most was taken, it is 0
pub all_served : (end : Result (Unit {0}) ServeFault) → served_status end ≢ 10 → (end ≡ Err WireFailed → ⊥) → served_status end ≡ 0
all_served (Ok u) some none = refl
all_served (Err WireFailed) some none = absurd (none refl)
all_served (Err (Spent requests events)) some none = absurd (some refl)

-- ---- how it ended

pub ends : (end : Result (Unit {0}) ServeFault) (told : Bool) (old new : DeskState) (log : List LogEntry) → (IsTrue told → OnOk end ((es : List Arrival) × (events_in log ≡ es ++ End ∷ []) × (length es < max_input)))
    → (IsTrue told → OnErr end (has_end log ≡ false)) → OnOk end (0 < new.capacity) → IfErr end (λ fault. IsCounted fault told old new max_input log) → Ends end told old new log
ends (Ok u) told old new log ended unended capacity spent = (capacity, ended)
ends (Err fault) told old new log ended unended capacity spent = (spent, unended)

-- the count of the store rose for each ask in which the journal failed, where none was asked before
pub rose_for : (first os : List Outcome) (before now : ℕ) → first ≡ [] → RoseBy (faults_in os - faults_in first) before now → RoseBy (faults_in os) before now
rose_for first os before now unasked rose = let none : faults_in first ≡ 0 = ap faults_in unasked in omega (arith, rose, none)
