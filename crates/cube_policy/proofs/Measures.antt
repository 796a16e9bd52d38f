-- The table of a measure, step by step.
use Rattle.std.proofs.Common.{◌≡◌, ℕ, List, [], codes, ap, ◌∙◌}
use Rattle.std.specs.Prelude.{unwrap_or}
use Rattle.toml.specs.Data.{Members, as_str}
use Rattle.cube_model.specs.Dims.{Dims}
use Rattle.cube_model.specs.declared.policy.Method.{Method}
use Rattle.cube_model.specs.declared.policy.Method.TheVariants.{Plain}
use Rattle.cube_tables.specs.Tables.{under, value_or}
use Rattle.cube_policy.specs.PolicyFile.{method_of, declared_of, measure_named}
use Rattle.cube_policy.specs.declared.measure.Declared.{Declared}

module _ (s : Dims) (entry : List ℕ) (earlier : List Declared) (table : Members) (name word : List ℕ)
    (names : value_or [] as_str (under (codes "name") table) ≡ name) (words : value_or [] as_str (under (codes "method") table) ≡ word) where
  pub named_same : measure_named s entry earlier (value_or [] as_str (under (codes "name") table)) (value_or [] as_str (under (codes "method") table)) ≡ measure_named s entry earlier name word
  named_same =
      ap (λ n. measure_named s entry earlier n (value_or [] as_str (under (codes "method") table))) names
      ∙ ap (λ w. measure_named s entry earlier name w) words

  pub declared_same : (method : Method) → unwrap_or (method_of word) Plain ≡ method → declared_of table ≡ record { name = name; method = method }
  unfolding declared_of
  declared_same method is =
      ap (λ n. record { name = n; method = unwrap_or (method_of (value_or [] as_str (under (codes "method") table))) Plain }) names
      ∙ ap (λ m. record { name = name; method = m }) (ap (λ w. unwrap_or (method_of w) Plain) words ∙ is)
