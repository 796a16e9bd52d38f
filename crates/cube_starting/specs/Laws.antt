-- One policy for all users: they are one group without a name, whose room is the cube by itself.
use Rattle.std.specs.Prelude.{◌≡◌, List, [], ◌∷◌, codes}
use Rattle.cube_groups.specs.declared.group.GroupFile.{GroupFile}
use Rattle.cube_io.specs.Seen.{FolderState}
use Rattle.cube_model.specs.declared.policy.Policy.{Policy}
use Rattle.cube_model.specs.Cores.{Core, world}
use Rattle.cube_model.specs.Cubes.{World}
use Rattle.cube_model.specs.Rooms.{alone, with_world}
use Rattle.cube_opening.specs.Opening.{Make, names_of}
use Rattle.cube_opening.specs.Ruling.{MakeGroups, ruled_names}
use Rattle.cube_opening.specs.declared.cube_files.CubeFiles.{CubeFiles}
use Rattle.cube_opening.specs.declared.cube_files.Rules.TheVariants.{One}
use Rattle.cube_opening.specs.declared.cube_files.RuledFiles.{RuledFiles}
use Rattle.cube_opening.specs.declared.ruling.RuledGroup.{RuledGroup}
use Rattle.cube_starting.specs.Grouping.{GroupRun, first_rooms, last_rooms, journal_of, ruled}
use Rattle.cube_starting.specs.OneCube.{everyone, under}

-- the files of a cube, whose policy rules all users
abbrev pub under_one : CubeFiles → RuledFiles
under_one cube = record { dims = cube.dims; facts = cube.facts; rules = One cube.policy }

-- What files make of groups is then what they make of a cube, and the groups are the one of all users, whose journal is called just that.
pub record IsTheCube (cube : CubeFiles) (folder : FolderState) (core : Core) (fs : List GroupFile) (gs : List RuledGroup) : Type 0 where
  pub policy : Policy
  pub groups_are : gs ≡ under policy
  pub files_make : Make cube folder core policy
  pub names_are : ruled_names (under_one cube) fs ≡ names_of cube
  pub journal : journal_of (everyone policy) ≡ codes "journal"

abbrev pub OneGroupIsTheCube : Type 0
OneGroupIsTheCube = (cube : CubeFiles) (folder : FolderState) (core : Core) (fs : List GroupFile) (gs : List RuledGroup) → MakeGroups (under_one cube) folder core fs gs → IsTheCube cube folder core fs gs

-- In a run such a group is the cube by itself, from its first history to its last; and with another world in its room it is that world.
pub record IsAlone (core : Core) (policy : Policy) (gs : List GroupRun) : Type 0 where
  pub run : GroupRun
  pub runs_are : gs ≡ run ∷ []
  pub policy_is : run.policy ≡ policy
  pub first : first_rooms core gs ≡ alone (world core policy) run.first
  pub last : last_rooms core gs ≡ alone (world core policy) run.last
  pub others : (w : World) → with_world run.name w (first_rooms core gs) ≡ alone w run.first

abbrev pub OneRunIsTheCube : Type 0
OneRunIsTheCube = (core : Core) (policy : Policy) (gs : List GroupRun) → ruled gs ≡ under policy → IsAlone core policy gs
