-- What is said of a query or of a cell, or carried over, from what it comes to.
use Rattle.std.specs.Prelude.{IfOk, IfErr, IsOk, Result}
use Rattle.std.proofs.Common.{◌≡◌, ◌⊎◌, ℕ, List, Ok, Err, inl, inr}
use Rattle.std.proofs.lemmas.Bool.{false≢true}
use Rattle.cube_model.specs.Cores.{Core}
use Rattle.cube_io.specs.Seen.{SinkState, Seen}
use Rattle.cube_opening.specs.declared.report.Report.{Report}
use Rattle.cube_query.specs.Faults.{request_of}
use Rattle.cube_query.specs.declared.fault.RequestFault.{RequestFault}
use Rattle.cube_commands.specs.Cells.{IsTold}
use Rattle.cube_commands.specs.Reasons.{IsUnread, IsUnsaid, Unasked}
use Rattle.cube_commands.specs.Saying.{IsRefusal, IsUnsaidBy, SaysOne, SaysSo}
use Rattle.cube_commands.specs.declared.saying.Unsaid.{Unsaid}
use Rattle.cube_commands.specs.declared.saying.Unsaid.TheVariants.{Line, NoMemory}

-- where the texts and the lines are those of this meaning
pub says_by : {O : Type 0} (before : List ℕ) (Is : Result (List ℕ) (List ℕ) → Type 0) (said : Result (List ℕ) Unsaid) (out : Seen SinkState O) (r : Report)
    → IfOk said (λ text. Is (Ok text)) → IfErr said (IsUnsaidBy Is) → SaysSo before said out r → SaysOne before Is out r
says_by before Is (Ok text) out r ok err says = inl (Ok text, ok, says)
says_by before Is (Err (Line line)) out r ok err says = inl (Err line, err, says)
says_by before Is (Err NoMemory) out r ok err says = inr says

-- no line refuses where none has that meaning
pub not_refused : (Is : Result (List ℕ) (List ℕ) → Type 0) (said : Result (List ℕ) Unsaid) → IfErr said (IsUnsaidBy Is) → ((line : List ℕ) → Is (Err line) → ⊥) → IsRefusal said → ⊥
not_refused Is (Ok text) err none is = is
not_refused Is (Err (Line line)) err none is = none line err
not_refused Is (Err NoMemory) err none is = is

-- the status of what is put, where nothing is refused and the output does not fail
pub done_by : (n : ℕ) → (n ≡ 0) ⊎ (n ≡ 3) ⊎ (n ≡ 6) ⊎ (n ≡ 7) → (n ≡ 3 → ⊥) → (n ≡ 6 → ⊥) → (n ≡ 0) ⊎ (n ≡ 7)
done_by n (inl e) three six = inl e
done_by n (inr (inl e)) three six = absurd (three e)
done_by n (inr (inr (inl e))) three six = absurd (six e)
done_by n (inr (inr (inr e))) three six = inr e

-- ---- of a query

-- what is no request is no request by that fault
pub unread_is : (core : Core) (query : List ℕ) (fault : RequestFault) (u : Unsaid) → request_of core.dims query ≡ Err fault → IsUnread fault u → IsUnsaid core query u
unread_is core query fault (Line line) e is = record { fault = fault; unread = e; line_is = is }
unread_is core query fault NoMemory e is = tt

-- a query that is read is not refused
pub not_unasked : (core : Core) (query : List ℕ) → IsOk (request_of core.dims query) → (line : List ℕ) → Unasked core query line → ⊥
not_unasked core query ok line u = false≢true (rw u.unread at ok)

-- ---- of a cell

-- what is there is not refused
pub not_untold : (found : Result (List ℕ) (ℕ × List ℕ)) → IsOk found → (line : List ℕ) → IsTold found (Err line) → ⊥
not_untold found ok line e = false≢true (rw e.1 at ok)
