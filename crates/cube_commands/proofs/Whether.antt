-- A line on whether something is so: the status that was all done says it too.
use Rattle.std.proofs.Common.{◌≡◌, ◌≢◌, ◌⊎◌, ◌∙◌, ℕ, zero, suc, Bool, true, false, List, inl, inr, refl, sym, subst, arith}
use Rattle.cube_io.specs.Seen.{SinkState, Seen}
use Rattle.cube_opening.specs.Causes.{Counts, HasCauses, IsOwn, IsStatus}
use Rattle.cube_opening.specs.Reports.{Prints, PrintsWith}
use Rattle.cube_opening.specs.declared.report.Report.{Report}
use Rattle.cube_opening.proofs.Causes.{own}
use Rattle.cube_commands.specs.Saying.{status_on}

-- one report as another, but for the status where all was done
pub record IsTurned (so : Bool) (q r : Report) : Type 0 where
  pub done : q.status ≡ 0 → r.status ≡ status_on so
  pub other : q.status ≢ 0 → r.status ≡ q.status
  pub text : r.text ≡ q.text
  pub outcomes : r.outcomes ≡ q.outcomes

pub printed_with : {O : Type 0} (so : Bool) (text : List ℕ) (out : Seen SinkState O) (q r : Report) → IsTurned so q r → Prints text out q → PrintsWith (status_on so) text out r
printed_with so text out q r t (inl e) = inl ((t.done e.0.0, t.outcomes ∙ e.0.1, t.text ∙ e.0.2), e.1)
printed_with so text out q r t (inr (inl e)) = inr (inl ((t.other (λ z. omega (arith, z, e.0.0)) ∙ e.0.0, t.outcomes ∙ e.0.1, t.text ∙ e.0.2), e.1))
printed_with so text out q r t (inr (inr e)) = inr (inr ((t.other (λ z. omega (arith, z, e.0.0)) ∙ e.0.0, t.outcomes ∙ e.0.1, t.text ∙ e.0.2), e.1))

zero_or_not : (n : ℕ) → (n ≡ 0) ⊎ (n ≢ 0)
zero_or_not zero = inl refl
zero_or_not (suc n) = inr (λ e. omega (arith, e))

own_on : (so : Bool) {n : ℕ} → n ≡ status_on so → IsOwn n
own_on true e = inl e
own_on false e = inr (inr (inr (inr (inr e))))

pub caused_with : {c : Counts} (so : Bool) (q r : Report) → IsTurned so q r → HasCauses c q → HasCauses c r
caused_with {c} so q r t x = by (zero_or_not q.status)
  where
    by : (q.status ≡ 0) ⊎ (q.status ≢ 0) → HasCauses c r
    by (inl e) = own (own_on so (t.done e)) (record {
      files = (x.steady (λ k. omega (arith, e, k))).0;
      input = (x.steady (λ k. omega (arith, e, k))).1;
      out = x.output_steady (λ k. omega (arith, e, k));
      wire = x.wire_steady (λ k. omega (arith, e, k));
    })
    by (inr n) =
        let same = t.other n in
        record {
          status = subst IsStatus (sym same) x.status;
          unreadable = λ k. x.unreadable (sym same ∙ k);
          output = λ k. x.output (sym same ∙ k);
          unheard = λ k. x.unheard (sym same ∙ k);
          unkept = λ k. ((x.unkept (sym same ∙ k)).0, t.outcomes ∙ (x.unkept (sym same ∙ k)).1);
          steady = λ k. x.steady (λ five. k (same ∙ five));
          output_steady = λ k. x.output_steady (λ six. k (same ∙ six));
          wire_steady = λ k. x.wire_steady (λ eight. k (same ∙ eight));
        }

-- the statuses of such a line
pub statuses_with : (so : Bool) (q r : Report) → IsTurned so q r → (q.status ≡ 0) ⊎ (q.status ≡ 6) → (r.status ≡ 0) ⊎ (r.status ≡ 1) ⊎ (r.status ≡ 6) ⊎ (r.status ≡ 7)
statuses_with true q r t (inl e) = inl (t.done e)
statuses_with false q r t (inl e) = inr (inl (t.done e))
statuses_with so q r t (inr e) = inr (inr (inl (t.other (λ z. omega (arith, z, e)) ∙ e)))

-- of which one is of the output
pub judged : (n : ℕ) → (n ≡ 0) ⊎ (n ≡ 1) ⊎ (n ≡ 6) ⊎ (n ≡ 7) → (n ≡ 6 → ⊥) → ((n ≡ 0) ⊎ (n ≡ 7)) ⊎ (n ≡ 1)
judged n (inl e) none = inl (inl e)
judged n (inr (inl e)) none = inr e
judged n (inr (inr (inl e))) none = absurd (none e)
judged n (inr (inr (inr e))) none = inl (inr e)
