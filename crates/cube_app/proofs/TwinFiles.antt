-- The files of the other cube make it.
use Rattle.std.proofs.Common.{◌≡◌, ◌≢◌, ◌∙◌, refl, sym, ap, subst, ℕ, ◌<◌, List, [], length, ℤ, Some, None, Ok, Err, inl, inr, arith}
use Rattle.std.specs.Prelude.{IsSomeAnd, Result, nat_lt, slice_set, slice_index_or, codes}
use Rattle.std.specs.declared.option.Option.{Option}
use Rattle.cube_model.specs.declared.outcome.Outcome.{Outcome}
use Rattle.cube_model.specs.declared.policy.Policy.{Policy}
use Rattle.cube_model.specs.declared.shape.Shape.{Shape}
use Rattle.cube_model.specs.Cores.{Core, IsCore, shown, world}
use Rattle.cube_model.specs.Cubes.{World}
use Rattle.cube_model.specs.Dims.{Dims}
use Rattle.cube_model.specs.Rooms.{Room, alone}
use Rattle.cube_model.specs.Twins.{changes, added}
use Rattle.cube_model.proofs.Members.{tested}
use Rattle.cube_model.proofs.Worlds.{length-changes}
use Rattle.cube_io.specs.Desks.{Manner}
use Rattle.cube_io.specs.Files.{max_file, file_of}
use Rattle.cube_facts.specs.FactFile.{filled_of}
use Rattle.cube_facts.specs.Words as facts
use Rattle.cube_facts.specs.declared.fault.FactsFault.{FactsFault}
use Rattle.cube_witness.specs.TwinFile.{facts_text, first_beyond}
use Rattle.cube_witness.proofs.Carried.{twins_read_back}
use Rattle.cube_witness.proofs.Spreads.{moves_are_changes}
use Rattle.cube_engine.specs.Headline.{twin_by}
use Rattle.cube_engine.specs.Steps.{manner}
use Rattle.cube_opening.specs.Opening.{dims_said, facts_said, policy_said, core_in, faulted, unless_long, fault_text, FileSays}
use Rattle.cube_opening.proofs.Accepted.{says_one}
use Rattle.cube_server.specs.Logs.{log_of}
use Rattle.cube_talk.specs.Asks as talked
use Rattle.cube_talk.specs.declared.talk.Ending.{Ending}
use Rattle.cube_talk.specs.declared.talk.Ending.TheVariants.{Ended, InputFailed, OutputFailed, NoMemory, Spent}
use Rattle.cube_app.specs.TwinFiles.{Hidden, changes_by, cube_with, Loaded, AreTwins, MakeTwins, Wrote, Logged, TwinsOf, TwinFilesMakeTwins, TwinTalksAreTheSame, TwinLogsAreTheSame}

-- ---- what files say

-- a file that is accepted says what its bytes say
short_is : {X : Type 0} (kind bytes : List ℕ) (said : Result X (List ℕ)) (x : X) → unless_long kind bytes said ≡ Ok x → said ≡ Ok x
short_is {X} kind bytes said x e = tested (nat_lt max_file (length bytes)) (λ t. absurd (not_ok _ (rw t at e))) (λ f. rw f at e)
  where
    not_ok : (text : List ℕ) → ◌≡◌ {A = Result X (List ℕ)} (Err text) (Ok x) → ⊥
    not_ok text k = cc

core_of_ok : (x y : Core) → ◌≡◌ {A = Result Core (List ℕ)} (Ok x) (Ok y) → y ≡ x
core_of_ok x y k = cc

-- the words of a fact file's fault
abbrev told : FactsFault → List ℕ
told fault = fault_text (codes "facts") (facts.fault_words fault)

said_of : (o : Option (List ℕ)) (bytes : List ℕ) (P : List ℕ → Type 0) → o ≡ Some bytes → IsSomeAnd o P → P bytes
said_of None bytes P e h = absurd h
said_of (Some other) bytes P e h = subst P (same other bytes e) h
  where
    same : (x y : List ℕ) → ◌≡◌ {A = Option (List ℕ)} (Some x) (Some y) → x ≡ y
    same x y k = cc

-- ---- the cube that they make

-- the core with other values
abbrev with_cube : Core → List (List ℤ) → Core
with_cube core cube = record { dims = core.dims; shape = core.shape; cube = cube }

-- read under the dimensions of a core, the fact file of the cube with the changes is that cube
read_back : (core core' : Core) (policy : Policy) (h : Hidden) → IsCore core → h.measure < length core.dims.measures → first_beyond core.shape (cube_with core policy h) h.measure ≡ None
    → facts_said core.dims (facts_text core.dims core.shape (cube_with core policy h)) ≡ Ok core' → core' ≡ with_cube core (cube_with core policy h)
read_back core core' policy h is_core lt within e =
    let bytes = facts_text core.dims core.shape (cube_with core policy h) in
    let read : filled_of core.dims bytes ≡ Ok (core.shape, cube_with core policy h) = twins_read_back core h.measure (changes_by core policy h.last h.measure h.cell) is_core lt within in
    let said : core_in core.dims (faulted told (filled_of core.dims bytes)) ≡ Ok core' = short_is (codes "facts") bytes _ core' e in
    core_of_ok (with_cube core (cube_with core policy h)) core' (sym (ap (λ (r : Result (Shape × List (List ℤ)) FactsFault). core_in core.dims (faulted told r)) read) ∙ said)

makes_twin : (a b : Loaded) (h : Hidden) → IsCore a.core → h.measure < length a.core.dims.measures → AreTwins a b h → b.core ≡ with_cube a.core (cube_with a.core a.policy h)
makes_twin a b h is_core lt twins =
    let bytes = facts_text a.core.dims a.core.shape (cube_with a.core a.policy h) in
    let dims : b.core.dims ≡ a.core.dims = says_one dims_said b.core.dims a.core.dims (file_of a.known a.cube.dims) (subst (λ (o : Option (List ℕ)). IsSomeAnd o (λ x. dims_said x ≡ Ok b.core.dims)) twins.dims (b.makes.0).dims_are) (a.makes.0).dims_are in
    let said : facts_said b.core.dims bytes ≡ Ok b.core = said_of (file_of b.known b.cube.facts) bytes (λ x. facts_said b.core.dims x ≡ Ok b.core) twins.facts (b.makes.0).facts_are in
    read_back a.core b.core a.policy h is_core lt twins.within (subst (λ (s : Dims). facts_said s bytes ≡ Ok b.core) dims said)

-- a world by its values
abbrev world_by : Core → Policy → ℕ → List ℤ → World
world_by core policy m signs = record { shown = shown core policy; cube = slice_set core.cube m (added (slice_index_or core.cube m []) signs) }

pub twin_files_make_twins : TwinFilesMakeTwins
twin_files_make_twins a b h is_core lt twins =
    let made : b.core ≡ with_cube a.core (cube_with a.core a.policy h) = makes_twin a b h is_core lt twins in
    let dims : b.core.dims ≡ a.core.dims = ap (λ (c : Core). c.dims) made in
    let under = subst (λ (s : Dims). FileSays (policy_said s) b.cube.policy b.known (Ok b.policy)) dims b.makes.1 in
    let same : b.policy ≡ a.policy = says_one (policy_said a.core.dims) b.policy a.policy (file_of a.known a.cube.policy) (subst (λ (o : Option (List ℕ)). IsSomeAnd o (λ bytes. policy_said a.core.dims bytes ≡ Ok b.policy)) twins.policies under) a.makes.1 in
    let g = shown a.core a.policy in
    let signs = moves_are_changes g (changes g h.last h.measure h.cell) (length-changes g h.last h.measure h.cell) in
    record {
      dims = dims;
      worlds = ap (λ (c : Core). world c b.policy) made ∙ ap (λ (p : Policy). world (with_cube a.core (cube_with a.core a.policy h)) p) same ∙ ap (λ (x : List ℤ). world_by a.core a.policy h.measure x) signs;
    }

-- ---- what is written over it

says_one_thing : (e : Ending) (m : Manner) (rooms : List Room) (stated : ℕ) (os : List Outcome) (text written new new' : List ℕ) → e ≢ OutputFailed → talked.Says e m rooms stated os text (Some written) (Some new) → talked.Says e m rooms stated os text (Some written) (Some new') → new' ≡ new
says_one_thing Ended m rooms stated os text written new new' sound x y = y.3 ∙ sym x.3
says_one_thing InputFailed m rooms stated os text written new new' sound x y = y.3 ∙ sym x.3
says_one_thing OutputFailed m rooms stated os text written new new' sound x y = absurd (sound refl)
says_one_thing NoMemory m rooms stated os text written new new' sound x y = absurd x
says_one_thing Spent m rooms stated os text written new new' sound (inl x) (inl y) = y.2 ∙ sym x.2
says_one_thing Spent m rooms stated os text written new new' sound (inl x) (inr y) = absurd (omega (arith, x.0, y.1))
says_one_thing Spent m rooms stated os text written new new' sound (inr x) (inl y) = absurd (omega (arith, x.1, y.0))
says_one_thing Spent m rooms stated os text written new new' sound (inr x) (inr y) = y.3 ∙ sym x.3

-- ---- two runs

-- what was observed would be so of the other cube
hidden : (a b : Loaded) (h : Hidden) (observed : World → Type 0) → TwinsOf a b h observed → observed (twin_by (world a.core a.policy) h.last h.measure h.cell)
hidden a b h observed x = (x.hides.hides h.last x.admissible x.goes_on h.measure h.cell x.protects).same

made : (a b : Loaded) (h : Hidden) (observed : World → Type 0) → TwinsOf a b h observed → MakeTwins a b h
made a b h observed x = twin_files_make_twins a b h x.core x.measure x.files

pub twin_talks_are_the_same : TwinTalksAreTheSame
twin_talks_are_the_same a b h first talk text before after after' x sound y =
    let observed = λ (w : World). Wrote a w first talk text before after in
    let make = made a b h observed x in
    let w = twin_by (world a.core a.policy) h.last h.measure h.cell in
    let there = subst (λ (v : World). Wrote b v first talk text before after') make.worlds y in
    let here = subst (λ (s : Dims). talked.Says talk.ending (manner s) (alone w first) talk.stated talk.outcomes text (Some before) (Some after')) make.dims there in
    says_one_thing talk.ending (manner a.core.dims) (alone w first) talk.stated talk.outcomes text before after after' sound (hidden a b h observed x) here

pub twin_logs_are_the_same : TwinLogsAreTheSame
twin_logs_are_the_same a b h first events luck log log' x y =
    let observed = λ (w : World). Logged a w first events luck log in
    let make = made a b h observed x in
    let w = twin_by (world a.core a.policy) h.last h.measure h.cell in
    let there = subst (λ (v : World). Logged b v first events luck log') make.worlds y in
    let here = subst (λ (s : Dims). log' ≡ log_of (manner s) (alone w first) events luck) make.dims there in
    here ∙ sym (hidden a b h observed x)
