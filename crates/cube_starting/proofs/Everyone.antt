-- Who is under one policy is a group without a name.
use Rattle.std.proofs.Common.{◌≡◌, refl, sym, ap, ap₂, subst, ℕ, List, [], ◌∷◌, map, Option, Some, None}
use Rattle.std.specs.Prelude.{IfSome}
use Rattle.cube_groups.specs.declared.group.GroupFile.{GroupFile}
use Rattle.cube_io.specs.Seen.{FolderState}
use Rattle.cube_model.specs.declared.policy.Policy.{Policy}
use Rattle.cube_model.specs.Cores.{Core, world}
use Rattle.cube_model.specs.Rooms.{Room, alone, other_world}
use Rattle.cube_opening.specs.Opening.{MakesAll}
use Rattle.cube_opening.specs.Ruling.{HaveNames, MakeGroups, MakesGroups, one_group}
use Rattle.cube_opening.specs.declared.cube_files.CubeFiles.{CubeFiles}
use Rattle.cube_opening.specs.declared.ruling.RuledGroup.{RuledGroup}
use Rattle.cube_starting.specs.Grouping.{GroupRun, ruled, ruled_by}
use Rattle.cube_starting.specs.OneCube.{everyone, under}
use Rattle.cube_starting.specs.Laws.{under_one, IsTheCube, OneGroupIsTheCube, OneRunIsTheCube}

each_some : {X : Type 0} (o : Option X) (P Q : X → Type 0) → ((x : X) → P x → Q x) → IfSome o P → IfSome o Q
each_some (Some x) P Q f h = f x h
each_some None P Q f h = tt

-- a group by its name and its policy
abbrev group_of : List ℕ → Policy → RuledGroup
group_of name policy = record { name = name; policy = policy }

made : (cube : CubeFiles) (folder : FolderState) (core : Core) (gs : List RuledGroup) → MakeGroups (under_one cube) folder core (one_group cube.policy) gs → IsTheCube cube folder core (one_group cube.policy) gs
made cube folder core [] m = absurd (none m.named)
  where
    none : HaveNames (one_group cube.policy) [] → ⊥
    none e = cc
made cube folder core (g ∷ []) m = record {
  policy = g.policy;
  groups_are = ap (λ (n : List ℕ). group_of n g.policy ∷ []) (unnamed m.named);
  files_make = each_some folder.files (MakesGroups (under_one cube) core (one_group cube.policy) (g ∷ [])) (MakesAll cube core g.policy) (λ known x. (x.founded, (x.ruled).0)) m.make;
  names_are = refl;
  journal = refl;
}
  where
    unnamed : HaveNames (one_group cube.policy) (g ∷ []) → g.name ≡ []
    unnamed e = cc
made cube folder core (g ∷ h ∷ gs) m = absurd (more m.named)
  where
    more : HaveNames (one_group cube.policy) (g ∷ h ∷ gs) → ⊥
    more e = cc

pub one_group_is_the_cube : OneGroupIsTheCube
one_group_is_the_cube cube folder core fs gs m =
    subst (λ (l : List GroupFile). IsTheCube cube folder core l gs) (sym m.alone) (made cube folder core gs (subst (λ (l : List GroupFile). MakeGroups (under_one cube) folder core l gs) m.alone m))

-- ---- in a run

-- the room of a group by its name and its policy
abbrev room_by : Core → GroupRun → List ℕ → Policy → List Room
room_by core g name policy = record { name = name; world = world core policy; history = g.first } ∷ []

abbrev room_at : Core → GroupRun → List ℕ → Policy → List Room
room_at core g name policy = record { name = name; world = world core policy; history = g.last } ∷ []

first_is : (a b : RuledGroup) → a ∷ [] ≡ b ∷ [] → a ≡ b
first_is a b e = cc

pub one_run_is_the_cube : OneRunIsTheCube
one_run_is_the_cube core policy [] e = absurd (cc)
one_run_is_the_cube core policy (g ∷ []) e = record {
  run = g;
  runs_are = refl;
  policy_is = same e;
  first = ap₂ (room_by core g) (unnamed e) (same e);
  last = ap₂ (room_at core g) (unnamed e) (same e);
  others = λ w. subst (λ (n : List ℕ). map (other_world n w) (room_by core g n g.policy) ≡ alone w g.first) (sym (unnamed e)) refl;
}
  where
    unnamed : ruled (g ∷ []) ≡ under policy → g.name ≡ []
    unnamed k = ap (λ (x : RuledGroup). x.name) (first_is (ruled_by g) (everyone policy) k)

    same : ruled (g ∷ []) ≡ under policy → g.policy ≡ policy
    same k = ap (λ (x : RuledGroup). x.policy) (first_is (ruled_by g) (everyone policy) k)
one_run_is_the_cube core policy (g ∷ h ∷ gs) e = absurd (cc)
