-- Each entry of an admissible history is allowed, and taken behind those before it.
use Rattle.std.specs.Prelude.{◌+◌}
use Rattle.std.proofs.Common.{◌≡◌, ℕ, zero, suc, ◌<◌, true, cond, List, [], ◌∷◌, ◌++◌, length, take, get_or, sym, ap, ◌∙◌, subst, arith, append_assoc, append-nil}
use Rattle.cube_model.specs.declared.entry.Entry.{Entry}
use Rattle.cube_model.specs.declared.entry.Taken.{Taken as Taking}
use Rattle.cube_model.specs.declared.entry.Taken.TheVariants.{Taken}
use Rattle.cube_model.specs.Cubes.{Public}
use Rattle.cube_model.specs.Entries.{is_allowed}
use Rattle.cube_model.specs.Logs.{is_taken}
use Rattle.cube_model.specs.Verdicts.{taken, AdmissibleFrom, IsAdmissible}
use Rattle.cube_admit.specs.Taking.{behind}

at_entry : (g : Public) (before es : List Entry) (k : ℕ) (d : Entry) → AdmissibleFrom g before es → k < length es → (is_allowed g (get_or es k d) ≡ true) × (taken g (before ++ take k es) (get_or es k d) ≡ Taken)
at_entry g before [] k d a l = absurd (omega arith)
at_entry g before (e ∷ es) zero d a l = (a.0, subst (λ h. taken g h e ≡ Taken) (sym (append-nil before)) a.1)
at_entry g before (e ∷ es) (suc k) d a l =
    let r = at_entry g (before ++ e ∷ []) es k d a.2 (omega arith) in
    (r.0, subst (λ h. taken g h (get_or es k d) ≡ Taken) (append_assoc before (e ∷ []) (take k es)) r.1)

pub entry_allowed : (g : Public) (h : List Entry) (k : ℕ) (d : Entry) → IsAdmissible g h → k < length h → is_allowed g (get_or h k d) ≡ true
entry_allowed g h k d a l = (at_entry g [] h k d a l).0

-- the history behind the first entries and one more
pub entry_enters : (g : Public) (h now new : List Entry) (k : ℕ) (d e : Entry) (t : Taking) → IsAdmissible g h → k < length h → get_or h k d ≡ e → now ≡ take k h → t ≡ taken g now e → new ≡ behind now e t → take (k + 1) h ≡ take k h ++ e ∷ [] → new ≡ take (k + 1) h
entry_enters g h now new k d e t a l is so_far judged put more =
    let taking : t ≡ Taken = judged ∙ ap (λ x. taken g x e) so_far ∙ ap (taken g (take k h)) (sym is) ∙ (at_entry g [] h k d a l).1 in
    put ∙ ap (λ x. cond (is_taken x) (now ++ e ∷ []) now) taking ∙ ap (λ x. x ++ e ∷ []) so_far ∙ sym more
