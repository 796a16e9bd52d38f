-- A run that ended at its files: its status, and that it reports no outcomes.
use Rattle.std.proofs.Common.{◌≡◌, ◌⊎◌, ◌∙◌, ℕ, List, [], inl, inr, sym, arith}
use Rattle.std.specs.Prelude.{Result}
use Rattle.cube_io.specs.Seen.{FolderState, Seen}
use Rattle.cube_opening.specs.Opening.{dims_said, facts_said, policy_said, Unopened, EndsUnopened}
use Rattle.cube_opening.specs.declared.cube_files.CubeFiles.{CubeFiles}
use Rattle.cube_opening.specs.declared.report.Report.{Report}

-- 3, 5 or 7
abbrev pub IsOfFiles : ℕ → Type 0
IsOfFiles n = (n ≡ 3) ⊎ (n ≡ 5) ⊎ (n ≡ 7)

pub one_status : {X F : Type 0} (said : List ℕ → Result X (List ℕ)) (name : List ℕ) (folder : Seen FolderState F) (r : Report) → Unopened said name folder r → IsOfFiles r.status
one_status said name folder r (inl e) = inr (inr e.0)
one_status said name folder r (inr (inl e)) = inr (inr e.0)
one_status said name folder r (inr (inr (inl e))) = inr (inl e.0.0)
one_status said name folder r (inr (inr (inr e))) = inl e.0.0

status : {F : Type 0} (cube : CubeFiles) (folder : Seen FolderState F) (r : Report) → EndsUnopened cube folder r → IsOfFiles r.status
status cube folder r (inl (inl e)) = one_status dims_said cube.dims folder r e.unopened
status cube folder r (inl (inr e)) = one_status (facts_said e.0) cube.facts folder r e.2.unopened
status cube folder r (inr e) = one_status (policy_said e.0.dims) cube.policy folder r e.2.unopened

pub other : (n k : ℕ) → (k ≡ 3 → ⊥) → (k ≡ 5 → ⊥) → (k ≡ 7 → ⊥) → IsOfFiles n → n ≡ k → ⊥
other n k three five seven (inl e) is = three (sym is ∙ e)
other n k three five seven (inr (inl e)) is = five (sym is ∙ e)
other n k three five seven (inr (inr e)) is = seven (sym is ∙ e)

pub not_nine : {F : Type 0} (cube : CubeFiles) (folder : Seen FolderState F) (r : Report) → EndsUnopened cube folder r → r.status ≡ 9 → ⊥
not_nine cube folder r e = other r.status 9 (λ k. omega (arith, k)) (λ k. omega (arith, k)) (λ k. omega (arith, k)) (status cube folder r e)

pub one_unasked : {X F : Type 0} (said : List ℕ → Result X (List ℕ)) (name : List ℕ) (folder : Seen FolderState F) (r : Report) → Unopened said name folder r → r.outcomes ≡ []
one_unasked said name folder r (inl e) = e.1
one_unasked said name folder r (inr (inl e)) = e.1
one_unasked said name folder r (inr (inr (inl e))) = e.0.1
one_unasked said name folder r (inr (inr (inr e))) = e.0.1

pub unasked : {F : Type 0} (cube : CubeFiles) (folder : Seen FolderState F) (r : Report) → EndsUnopened cube folder r → r.outcomes ≡ []
unasked cube folder r (inl (inl e)) = one_unasked dims_said cube.dims folder r e.unopened
unasked cube folder r (inl (inr e)) = one_unasked (facts_said e.0) cube.facts folder r e.2.unopened
unasked cube folder r (inr e) = one_unasked (policy_said e.0.dims) cube.policy folder r e.2.unopened
