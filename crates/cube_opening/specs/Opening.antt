-- What the dimension file, the fact file and the policy file of a command hold, read in turn; and how a run ends at a file.
use Rattle.std.specs.Prelude.{◌≡◌, ◌≢◌, ◌⊎◌, ◌<◌, ℕ, ℤ, nat_lt, List, [], ◌∷◌, ◌++◌, length, codes, if◌then◌else◌, IfSome, IsSomeAnd, OnOk, IfErr, Result, Ok, Err}
use Rattle.cube_model.specs.declared.shape.Shape.{Shape}
use Rattle.cube_model.specs.Cores.{Core}
use Rattle.cube_model.specs.Dims.{Dims}
use Rattle.cube_model.specs.declared.policy.Policy.{Policy}
use Rattle.cube_io.specs.Causes.{Rose}
use Rattle.cube_io.specs.Files.{max_file, file_of}
use Rattle.cube_io.specs.Seen.{FolderState, Seen}
use Rattle.cube_dims.specs.DimsFile.{dims_of}
use Rattle.cube_dims.specs.Words as dims
use Rattle.cube_facts.specs.FactFile.{filled_of}
use Rattle.cube_facts.specs.Flat.{Flat, flat_of}
use Rattle.cube_facts.specs.Words as facts
use Rattle.cube_policy.specs.PolicyFile.{policy_of}
use Rattle.cube_policy.specs.Words as policy
use Rattle.cube_opening.specs.Reports.{IsReport, NoMessage}
use Rattle.cube_opening.specs.declared.cube_files.CubeFiles.{CubeFiles}
use Rattle.cube_opening.specs.declared.report.Report.{Report}

-- ---- what a file says: a value, or the text on its fault

-- the text on a fault of a file of this kind
abbrev pub fault_text : List ℕ → List ℕ → List ℕ
fault_text kind words = kind ++ codes ": " ++ words ++ codes "\n"

abbrev pub faulted : {X F : Type 0} → (F → List ℕ) → Result X F → Result X (List ℕ)
faulted text (Ok x) = Ok x
faulted text (Err fault) = Err (text fault)

-- a file of this kind is no longer than a file may be, and says this
abbrev pub unless_long : {X : Type 0} → List ℕ → List ℕ → Result X (List ℕ) → Result X (List ℕ)
unless_long kind bytes said = if nat_lt max_file (length bytes) then Err (kind ++ codes ": limit file 67108864\n") else said

abbrev pub dims_said : List ℕ → Result Dims (List ℕ)
dims_said bytes = unless_long (codes "dims") bytes (faulted (λ fault. fault_text (codes "dims") (dims.fault_words fault)) (dims_of bytes))

abbrev pub core_in : Dims → Result (Shape × List (List ℤ)) (List ℕ) → Result Core (List ℕ)
core_in s (Ok filled) = Ok (record { dims = s; shape = filled.0; cube = filled.1 })
core_in s (Err text) = Err text

abbrev pub facts_said : Dims → List ℕ → Result Core (List ℕ)
facts_said s bytes = unless_long (codes "facts") bytes (core_in s (faulted (λ fault. fault_text (codes "facts") (facts.fault_words fault)) (filled_of s bytes)))

abbrev pub flat_said : List ℕ → Result Flat (List ℕ)
flat_said bytes = unless_long (codes "facts") bytes (faulted (λ fault. fault_text (codes "facts") (facts.fault_words fault)) (flat_of bytes))

-- a policy file, which a report calls so
abbrev pub policy_said_as : List ℕ → Dims → List ℕ → Result Policy (List ℕ)
policy_said_as kind s bytes = unless_long kind bytes (faulted (λ fault. fault_text kind (policy.fault_words fault)) (policy_of s bytes))

abbrev pub policy_said : Dims → List ℕ → Result Policy (List ℕ)
policy_said s bytes = policy_said_as (codes "policy") s bytes

-- ---- one file

-- the file of this name is there and says this
abbrev pub FileSays : {X : Type 0} → (List ℕ → Result X (List ℕ)) → List ℕ → List (List ℕ × List ℕ) → Result X (List ℕ) → Type 0
FileSays said name known result = IsSomeAnd (file_of known name) (λ bytes. said bytes ≡ result)

abbrev pub unreadable_text : List ℕ → List ℕ
unreadable_text name = codes "cannot read " ++ name ++ codes "\n"

-- How a run ends at a file of this kind whose bytes it was to read: memory ran out, or the file was not read, or it is too long.
abbrev pub Unread : {F : Type 0} → List ℕ → List ℕ → Seen FolderState F → Report → Type 0
Unread kind name folder r =
    NoMessage r
    ⊎ IsReport 7 (codes "no memory\n") r
    ⊎ (IsReport 5 (unreadable_text name) r × Rose folder.before.faults folder.after.faults)
    ⊎ (IsReport 3 (kind ++ codes ": limit file 67108864\n") r × IfSome folder.before.files (λ known. IsSomeAnd (file_of known name) (λ bytes. max_file < length bytes)))

-- How a run ends at a file: memory ran out, or the file was not read, or it is refused.
abbrev pub Unopened : {X F : Type 0} → (List ℕ → Result X (List ℕ)) → List ℕ → Seen FolderState F → Report → Type 0
Unopened said name folder r =
    NoMessage r
    ⊎ IsReport 7 (codes "no memory\n") r
    ⊎ (IsReport 5 (unreadable_text name) r × Rose folder.before.faults folder.after.faults)
    ⊎ (IsReport 3 r.text r × IfSome folder.before.files (λ known. FileSays said name known (Err r.text)))

-- the folder counted no fault
abbrev pub IsSteady : {F : Type 0} → Seen FolderState F → Type 0
IsSteady folder = folder.after.faults ≡ folder.before.faults

-- memory ran out, or the folder failed
abbrev pub Failed : {F : Type 0} → Seen FolderState F → Report → Type 0
Failed folder r = (r.status ≡ 7) ⊎ ((r.status ≡ 5) × Rose folder.before.faults folder.after.faults)

-- these names were asked for in turn, and nothing else was
abbrev pub AskedFor : {F : Type 0} → List (List ℕ) → Seen FolderState F → Type 0
AskedFor names folder = IfSome folder.before.asked (λ o. IsSomeAnd folder.after.asked (λ n. n ≡ o ++ names))

-- these names and then this one, and none behind it; where memory ran out, or where the folder failed, it may lack
abbrev pub AskedUpTo : {F : Type 0} → List (List ℕ) → List ℕ → Seen FolderState F → Report → Type 0
AskedUpTo earlier name folder r = AskedFor (earlier ++ name ∷ []) folder ⊎ (AskedFor earlier folder × Failed folder r)

-- A run ended at the file of this name, behind files of those names.
pub record EndsAt {X F : Type 0} (earlier : List (List ℕ)) (said : List ℕ → Result X (List ℕ)) (name : List ℕ) (folder : Seen FolderState F) (r : Report) : Type 0 where
  pub unopened : Unopened said name folder r
  pub asked : AskedUpTo earlier name folder r

-- A run got behind the files of these names: they were asked for in turn, nothing else was, and the folder counted no fault.
pub record GotBehind {F : Type 0} (names : List (List ℕ)) (folder : Seen FolderState F) : Type 0 where
  pub asked : AskedFor names folder
  pub steady : IsSteady folder

-- A call that reads files: the folder tells the same of them, and it counted a fault only where the run ended at one that was not read.
pub record Reads {X F : Type 0} (folder : Seen FolderState F) (result : Result X Report) : Type 0 where
  pub files : folder.after.files ≡ folder.before.files
  pub steady : OnOk result (IsSteady folder)
  pub steady_err : IfErr result (λ r. r.status ≢ 5 → IsSteady folder)

-- ---- the files of a core

-- the dimension file and the fact file of these names are there and make this core
pub record MakesCore (dims facts : List ℕ) (core : Core) (known : List (List ℕ × List ℕ)) : Type 0 where
  pub dims_are : FileSays dims_said dims known (Ok core.dims)
  pub facts_are : FileSays (facts_said core.dims) facts known (Ok core)

-- How a run ends at the files of a core: at the dimension file, or at the fact file, by what that one says.
abbrev pub EndsUnfounded : {F : Type 0} → List ℕ → List ℕ → Seen FolderState F → Report → Type 0
EndsUnfounded dims facts folder r =
    EndsAt [] dims_said dims folder r
    ⊎ ((s : Dims) × IfSome folder.before.files (λ known. FileSays dims_said dims known (Ok s)) × EndsAt (dims ∷ []) (facts_said s) facts folder r)

-- ---- the three files of a cube

-- with the policy file they make this core and this policy
abbrev pub MakesAll : CubeFiles → Core → Policy → List (List ℕ × List ℕ) → Type 0
MakesAll cube core policy known = MakesCore cube.dims cube.facts core known × FileSays (policy_said core.dims) cube.policy known (Ok policy)

-- the files make this core and this policy, where the folder tells them
abbrev pub Make : CubeFiles → FolderState → Core → Policy → Type 0
Make cube folder core policy = IfSome folder.files (MakesAll cube core policy)

-- the names of the three files, in the turn in which they are read
abbrev pub names_of : CubeFiles → List (List ℕ)
names_of cube = cube.dims ∷ cube.facts ∷ cube.policy ∷ []

-- How a run ends at the files: at those of the core, or at the policy file, by what the core is.
abbrev pub EndsUnopened : {F : Type 0} → CubeFiles → Seen FolderState F → Report → Type 0
EndsUnopened cube folder r =
    EndsUnfounded cube.dims cube.facts folder r
    ⊎ ((core : Core) × IfSome folder.before.files (MakesCore cube.dims cube.facts core) × EndsAt (cube.dims ∷ cube.facts ∷ []) (policy_said core.dims) cube.policy folder r)

-- the files are there and are accepted
abbrev pub HasAll : CubeFiles → FolderState → Type 0
HasAll cube folder = IsSomeAnd folder.files (λ known. (core : Core) × ((policy : Policy) × MakesAll cube core policy known))

-- ---- one file more, behind the three

-- the names of all four, in the turn in which they are read
abbrev pub names_with : CubeFiles → List ℕ → List (List ℕ)
names_with cube name = names_of cube ++ name ∷ []

-- the three files make a core and a policy, and the run ended at the file of this name
pub record EndsAtLast {X F : Type 0} (cube : CubeFiles) (said : List ℕ → Result X (List ℕ)) (name : List ℕ) (folder : Seen FolderState F) (r : Report) : Type 0 where
  pub core : Core
  pub policy : Policy
  pub files_make : Make cube folder.before core policy
  pub ends : EndsAt (names_of cube) said name folder r

-- the file of this name is there and is accepted
abbrev pub HasFile : {X : Type 0} → (List ℕ → Result X (List ℕ)) → List ℕ → FolderState → Type 0
HasFile {X} said name folder = IsSomeAnd folder.files (λ known. (value : X) × FileSays said name known (Ok value))
