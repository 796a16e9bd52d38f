-- The rules that a list of groups keeps.
use Rattle.std.specs.Prelude.{◌≡◌, ◌≤◌, ⊤, ℕ, true, false, List, [], ◌∷◌, ◌++◌, length, map}
use Rattle.std.specs.List.{list_any}
use Rattle.std.specs.Str.{bytes_eq}
use Rattle.cube_model.specs.Cubes.{Each}
use Rattle.cube_model.specs.Names.{is_group_name}
use Rattle.cube_groups.specs.declared.group.GroupFile.{GroupFile}

-- each of these names is new behind the earlier ones
abbrev pub AreNew : List (List ℕ) → List (List ℕ) → Type 0
AreNew earlier [] = ⊤
AreNew earlier (n ∷ ns) = (list_any (bytes_eq n) earlier ≡ false) × AreNew (earlier ++ n ∷ []) ns

-- 1 to 16 groups, each with the name of a group, and no two with the same
pub record AreGroups (groups : List GroupFile) : Type 0 where
  pub some : 1 ≤ length groups
  pub few : length groups ≤ 16
  pub names : Each (λ g. is_group_name g.name ≡ true) groups
  pub new_names : AreNew [] (map (λ (g : GroupFile). g.name) groups)
