-- The table of a group, step by step.
use Rattle.std.proofs.Common.{◌≡◌, List, ℕ, [], codes, ap, ◌∙◌}
use Rattle.toml.specs.Data.{Members, as_str}
use Rattle.cube_tables.specs.Tables.{under, value_or}
use Rattle.cube_groups.specs.GroupsFile.{group_of, name_faults}
use Rattle.cube_groups.specs.declared.group.GroupFile.{GroupFile}

module _ (table : Members) (name policy : List ℕ) (names : value_or [] as_str (under (codes "name") table) ≡ name) where
  pub faults_same : (entry : List ℕ) (earlier : List GroupFile) → name_faults entry earlier (value_or [] as_str (under (codes "name") table)) ≡ name_faults entry earlier name
  faults_same entry earlier = ap (name_faults entry earlier) names

  pub group_same : value_or [] as_str (under (codes "policy") table) ≡ policy → group_of table ≡ record { name = name; policy = policy }
  unfolding group_of
  group_same policies =
      ap (λ n. record { name = n; policy = value_or [] as_str (under (codes "policy") table) }) names
      ∙ ap (λ p. record { name = name; policy = p }) policies
