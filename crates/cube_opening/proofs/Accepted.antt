-- Where three files are accepted, a run ends at them only for want of memory.
use Rattle.std.proofs.Common.{◌≡◌, ℕ, List, Some, None, Ok, Err, inl, inr, refl, sym, subst}
use Rattle.std.specs.Prelude.{IsSomeAnd, Result}
use Rattle.std.specs.declared.option.Option.{Option}
use Rattle.cube_model.specs.Cores.{Core}
use Rattle.cube_model.specs.Dims.{Dims}
use Rattle.cube_model.specs.declared.policy.Policy.{Policy}
use Rattle.cube_io.specs.Causes.{Rose}
use Rattle.cube_io.specs.Files.{file_of}
use Rattle.cube_io.specs.Seen.{FolderState, Seen}
use Rattle.cube_opening.specs.Opening.{dims_said, facts_said, policy_said, FileSays, Unopened, MakesCore, MakesAll, EndsAt, EndsUnfounded, EndsUnopened, HasAll, HasFile}
use Rattle.cube_opening.specs.declared.cube_files.CubeFiles.{CubeFiles}
use Rattle.cube_opening.specs.declared.report.Report.{Report}

-- ---- a file says one thing

ok_not_err : {X : Type 0} (x : X) (text : List ℕ) (r : Result X (List ℕ)) → r ≡ Ok x → r ≡ Err text → ⊥
ok_not_err x text r e k = cc

same_ok : {X : Type 0} (x y : X) (r : Result X (List ℕ)) → r ≡ Ok x → r ≡ Ok y → x ≡ y
same_ok x y r e k = cc

pub says_one : {X : Type 0} (said : List ℕ → Result X (List ℕ)) (x y : X) (o : Option (List ℕ)) → IsSomeAnd o (λ bytes. said bytes ≡ Ok x) → IsSomeAnd o (λ bytes. said bytes ≡ Ok y) → x ≡ y
says_one said x y None h k = absurd h
says_one said x y (Some bytes) h k = same_ok x y (said bytes) h k

not_both : {X : Type 0} (said : List ℕ → Result X (List ℕ)) (x : X) (text : List ℕ) (o : Option (List ℕ)) → IsSomeAnd o (λ bytes. said bytes ≡ Ok x) → IsSomeAnd o (λ bytes. said bytes ≡ Err text) → ⊥
not_both said x text None h k = h
not_both said x text (Some bytes) h k = ok_not_err x text (said bytes) h k

-- a core has the dimensions of its dimension file
pub one_core : (dims facts : List ℕ) (core other : Core) (known : List (List ℕ × List ℕ)) → MakesCore dims facts core known → MakesCore dims facts other known → core ≡ other
one_core dims facts core other known h k =
    let same : other.dims ≡ core.dims = says_one dims_said other.dims core.dims (file_of known dims) k.dims_are h.dims_are in
    says_one (facts_said core.dims) core other (file_of known facts) h.facts_are (subst (λ (s : Dims). FileSays (facts_said s) facts known (Ok other)) same k.facts_are)

-- ---- the end of a run

-- at a file that is accepted
pub accepted_one : {X F : Type 0} (said : List ℕ → Result X (List ℕ)) (name : List ℕ) (folder : Seen FolderState F) (known : List (List ℕ × List ℕ)) (r : Report) (x : X) → folder.before.files ≡ Some known → FileSays said name known (Ok x)
    → ¬ Rose folder.before.faults folder.after.faults → Unopened said name folder r → r.status ≡ 7
accepted_one said name folder known r x is says q (inl e) = e.0
accepted_one said name folder known r x is says q (inr (inl e)) = e.0
accepted_one said name folder known r x is says q (inr (inr (inl e))) = absurd (q e.1)
accepted_one said name folder known r x is says q (inr (inr (inr e))) = absurd (not_both said x r.text (file_of known name) says (rw is at e.1))

-- at the last file, where it is accepted
last_within : {X F : Type 0} (said : List ℕ → Result X (List ℕ)) (name : List ℕ) (folder : Seen FolderState F) (r : Report) (files : Option (List (List ℕ × List ℕ))) → folder.before.files ≡ files → Unopened said name folder r
    → IsSomeAnd files (λ known. (x : X) × FileSays said name known (Ok x)) → ¬ Rose folder.before.faults folder.after.faults → r.status ≡ 7
last_within said name folder r None is e h q = absurd h
last_within said name folder r (Some known) is e (x, says) q = accepted_one said name folder known r x is says q e

pub last_accepted : {X F : Type 0} (earlier : List (List ℕ)) (said : List ℕ → Result X (List ℕ)) (name : List ℕ) (folder : Seen FolderState F) (r : Report) → EndsAt earlier said name folder r → HasFile said name folder.before
    → ¬ Rose folder.before.faults folder.after.faults → r.status ≡ 7
last_accepted earlier said name folder r e h q = last_within said name folder r folder.before.files refl e.unopened h q

-- at the files of a core that they make
pub founded : {F : Type 0} (dims facts : List ℕ) (folder : Seen FolderState F) (known : List (List ℕ × List ℕ)) (r : Report) (core : Core) → folder.before.files ≡ Some known → MakesCore dims facts core known
    → ¬ Rose folder.before.faults folder.after.faults → EndsUnfounded dims facts folder r → r.status ≡ 7
founded dims facts folder known r core is m q (inl e) = accepted_one dims_said dims folder known r core.dims is m.dims_are q e.unopened
founded dims facts folder known r core is m q (inr (s, says, e)) =
    let same : s ≡ core.dims = says_one dims_said s core.dims (file_of known dims) (rw is at says) m.dims_are in
    accepted_one (facts_said s) facts folder known r core is (subst (λ (x : Dims). FileSays (facts_said x) facts known (Ok core)) (sym same) m.facts_are) q e.unopened

accepted : {F : Type 0} (cube : CubeFiles) (folder : Seen FolderState F) (known : List (List ℕ × List ℕ)) (r : Report) (core : Core) (policy : Policy) → folder.before.files ≡ Some known → MakesAll cube core policy known
    → ¬ Rose folder.before.faults folder.after.faults → EndsUnopened cube folder r → r.status ≡ 7
accepted cube folder known r core policy is m q (inl e) = founded cube.dims cube.facts folder known r core is m.0 q e
accepted cube folder known r core policy is m q (inr (other, makes, e)) =
    let same : other ≡ core = sym (one_core cube.dims cube.facts core other known m.0 (rw is at makes)) in
    accepted_one (policy_said other.dims) cube.policy folder known r policy is (subst (λ (x : Core). FileSays (policy_said x.dims) cube.policy known (Ok policy)) (sym same) m.1) q e.unopened

-- where the files make a core and a policy, and no fault was counted
within : {F : Type 0} (cube : CubeFiles) (folder : Seen FolderState F) (r : Report) (files : Option (List (List ℕ × List ℕ))) → folder.before.files ≡ files → EndsUnopened cube folder r
    → IsSomeAnd files (λ known. (core : Core) × ((policy : Policy) × MakesAll cube core policy known)) → ¬ Rose folder.before.faults folder.after.faults → r.status ≡ 7
within cube folder r None is e h q = absurd h
within cube folder r (Some known) is e (core, (policy, m)) q = accepted cube folder known r core policy is m q e

pub all_accepted : {F : Type 0} (cube : CubeFiles) (folder : Seen FolderState F) (r : Report) → EndsUnopened cube folder r → HasAll cube folder.before → ¬ Rose folder.before.faults folder.after.faults → r.status ≡ 7
all_accepted cube folder r e h q = within cube folder r folder.before.files refl e h q
