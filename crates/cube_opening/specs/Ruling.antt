-- Groups of users, each with a policy of its own over one core: what their files hold, read in turn.
use Rattle.std.specs.Prelude.{◌≡◌, ◌⊎◌, ⊤, ℕ, ◌≤◌, ◌==◌, List, [], ◌∷◌, ◌++◌, length, map, codes, if◌then◌else◌, IfSome, IsSomeAnd, Result, Ok}
use Rattle.cube_model.specs.declared.policy.Policy.{Policy}
use Rattle.cube_model.specs.Cores.{Core}
use Rattle.cube_model.specs.Cubes.{Each}
use Rattle.cube_model.specs.Dims.{Dims}
use Rattle.cube_model.specs.Policies.{IsPolicy}
use Rattle.cube_groups.specs.GroupsFile.{groups_of}
use Rattle.cube_groups.specs.Rules.{AreNew}
use Rattle.cube_groups.specs.Words as groups
use Rattle.cube_groups.specs.declared.group.GroupFile.{GroupFile}
use Rattle.cube_io.specs.Seen.{FolderState, Seen}
use Rattle.cube_opening.specs.Opening.{fault_text, faulted, unless_long, policy_said_as, FileSays, AskedFor, EndsAt, EndsUnfounded, MakesCore}
use Rattle.cube_opening.specs.Reports.{NoMessage}
use Rattle.cube_opening.specs.declared.cube_files.Rules.{Rules}
use Rattle.cube_opening.specs.declared.cube_files.Rules.TheVariants.{One, Groups}
use Rattle.cube_opening.specs.declared.cube_files.RuledFiles.{RuledFiles}
use Rattle.cube_opening.specs.declared.report.Report.{Report}
use Rattle.cube_opening.specs.declared.ruling.RuledGroup.{RuledGroup}

-- ---- what the files say

abbrev pub groups_said : List ℕ → Result (List GroupFile) (List ℕ)
groups_said bytes = unless_long (codes "groups") bytes (faulted (λ fault. fault_text (codes "groups") (groups.fault_words fault)) (groups_of bytes))

-- what a report calls the file of a group: its kind, and the name of the group where it has one
abbrev pub called : List ℕ → List ℕ → List ℕ
called kind name = kind ++ (if length name == 0 then [] else codes " " ++ name)

-- what the policy file of a group says
abbrev pub group_policy_said : Dims → List ℕ → List ℕ → Result Policy (List ℕ)
group_policy_said s name bytes = policy_said_as (called (codes "policy") name) s bytes

-- who is under one policy is a group without a name
abbrev pub one_group : List ℕ → List GroupFile
one_group policy = record { name = []; policy = policy } ∷ []

-- the groups that are ruled: one without a name, or those of the groups file
abbrev pub Lists : Rules → List (List ℕ × List ℕ) → List GroupFile → Type 0
Lists (One policy) known list = list ≡ one_group policy
Lists (Groups name) known list = FileSays groups_said name known (Ok list)

-- under one policy there is that group alone, whatever the folder tells
abbrev pub IsAlone : Rules → List GroupFile → Type 0
IsAlone (One policy) fs = fs ≡ one_group policy
IsAlone (Groups name) fs = ⊤

-- so many groups there are at most
abbrev pub most_groups : Rules → ℕ
most_groups (One policy) = 1
most_groups (Groups name) = 16

-- the policy file of the group says this policy
abbrev pub IsRuledBy : Dims → List (List ℕ × List ℕ) → GroupFile → RuledGroup → Type 0
IsRuledBy s known f g = FileSays (group_policy_said s f.name) f.policy known (Ok g.policy)

-- so for all of them in turn
abbrev pub AreRuledBy : Dims → List (List ℕ × List ℕ) → List GroupFile → List RuledGroup → Type 0
AreRuledBy s known [] gs = ⊤
AreRuledBy s known (f ∷ fs) [] = ⊤
AreRuledBy s known (f ∷ fs) (g ∷ gs) = IsRuledBy s known f g × AreRuledBy s known fs gs

-- the groups have the names that are listed
abbrev pub HaveNames : List GroupFile → List RuledGroup → Type 0
HaveNames fs gs = map (λ (g : RuledGroup). g.name) gs ≡ map (λ (f : GroupFile). f.name) fs

-- ---- the names that are asked for

-- of the file that lists the groups
abbrev pub list_names : Rules → List (List ℕ)
list_names (One policy) = []
list_names (Groups name) = name ∷ []

-- of the policy files
abbrev pub policy_names : List GroupFile → List (List ℕ)
policy_names fs = map (λ (f : GroupFile). f.policy) fs

-- of all files, in the turn in which they are read
abbrev pub ruled_names : RuledFiles → List GroupFile → List (List ℕ)
ruled_names cube fs = (cube.dims ∷ cube.facts ∷ list_names cube.rules) ++ policy_names fs

-- ---- how a run ends at them

-- at the policy file of one of the groups, behind the files of those names, where the policies of the groups before it are accepted; or
-- behind them all, for want of memory
abbrev pub EndsAtOne : {F : Type 0} → Dims → List (List ℕ) → List GroupFile → Seen FolderState F → Report → Type 0
EndsAtOne s earlier [] folder r = NoMessage r × AskedFor earlier folder
EndsAtOne s earlier (f ∷ fs) folder r =
    EndsAt earlier (group_policy_said s f.name) f.policy folder r
    ⊎ (((policy : Policy) × IfSome folder.before.files (λ known. FileSays (group_policy_said s f.name) f.policy known (Ok policy))) × EndsAtOne s (earlier ++ f.policy ∷ []) fs folder r)

-- at the file that lists the groups, or at one of theirs
abbrev pub EndsAtRules : {F : Type 0} → Dims → List (List ℕ) → Rules → Seen FolderState F → Report → Type 0
EndsAtRules s earlier (One policy) folder r = EndsAtOne s earlier (one_group policy) folder r
EndsAtRules s earlier (Groups name) folder r =
    EndsAt earlier groups_said name folder r
    ⊎ ((fs : List GroupFile) × IfSome folder.before.files (λ known. FileSays groups_said name known (Ok fs)) × EndsAtOne s (earlier ++ name ∷ []) fs folder r)

-- How a run ends at its files: at those of the core, or at those that rule the users, by what the core is.
abbrev pub EndsUnruled : {F : Type 0} → RuledFiles → Seen FolderState F → Report → Type 0
EndsUnruled cube folder r =
    EndsUnfounded cube.dims cube.facts folder r
    ⊎ ((core : Core) × IfSome folder.before.files (MakesCore cube.dims cube.facts core) × EndsAtRules core.dims (cube.dims ∷ cube.facts ∷ []) cube.rules folder r)

-- ---- what they make

-- 1 to 16 groups with names of their own, each with a policy for these dimensions
pub record AreGroups (s : Dims) (gs : List RuledGroup) : Type 0 where
  pub some : 1 ≤ length gs
  pub few : length gs ≤ 16
  pub short : Each (λ g. length g.name ≤ 32) gs
  pub apart : AreNew [] (map (λ (g : RuledGroup). g.name) gs)
  pub policies : Each (λ g. IsPolicy s g.policy) gs

-- The groups were read: they are listed, their files say their policies, and these files were asked for.
pub record IsRead {F : Type 0} (rules : Rules) (s : Dims) (fs : List GroupFile) (gs : List RuledGroup) (folder : Seen FolderState F) : Type 0 where
  pub said : IfSome folder.before.files (λ known. Lists rules known fs × AreRuledBy s known fs gs)
  pub alone : IsAlone rules fs
  pub named : HaveNames fs gs
  pub asked : AskedFor (list_names rules ++ policy_names fs) folder

-- The files of these names make this core, these groups are listed, and their files say these policies.
pub record MakesGroups (cube : RuledFiles) (core : Core) (fs : List GroupFile) (gs : List RuledGroup) (known : List (List ℕ × List ℕ)) : Type 0 where
  pub founded : MakesCore cube.dims cube.facts core known
  pub listed : Lists cube.rules known fs
  pub ruled : AreRuledBy core.dims known fs gs

-- so it is where the folder tells them
pub record MakeGroups (cube : RuledFiles) (folder : FolderState) (core : Core) (fs : List GroupFile) (gs : List RuledGroup) : Type 0 where
  pub make : IfSome folder.files (MakesGroups cube core fs gs)
  pub alone : IsAlone cube.rules fs
  pub named : HaveNames fs gs

-- the files are there and are accepted
abbrev pub HasGroups : RuledFiles → FolderState → Type 0
HasGroups cube folder = IsSomeAnd folder.files (λ known. (core : Core) × ((fs : List GroupFile) × ((gs : List RuledGroup) × (HaveNames fs gs × MakesGroups cube core fs gs known))))
