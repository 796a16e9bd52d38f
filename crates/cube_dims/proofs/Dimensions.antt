-- A dimension's table, step by step: its parts, then its names and paths.
use Rattle.std.proofs.Common.{◌≡◌, ◌⊎◌, ℕ, ◌+◌, ◌≤◌, List, [], ◌++◌, length, codes, Ok, Err, sym, subst, ◌∙◌}
use Rattle.toml.specs.Data.{Members, as_str}
use Rattle.cube_model.specs.Checks.{unless}
use Rattle.cube_model.specs.Dims.{NamedDimension, IsDimension}
use Rattle.cube_tables.specs.Tables.{as_texts, entry_of, under}
use Rattle.cube_dims.specs.DimsFile.{dimension_in, dimension_of, dimension_kinds, dimension_faults, named_faults}
use Rattle.cube_dims.specs.declared.fault.DimsFault.{DimsFault}
use Rattle.cube_dims.specs.declared.fault.DimsFault.TheVariants.{NoMemory}
use Rattle.cube_tables.proofs.Turns.{Refused, first, next, both_nothing, nothing, value, refused, accepted, no_append}
use Rattle.cube_dims.proofs.Accepted.{has_items, is_dimension}

abbrev pub kinds : List ℕ → Members → List DimsFault
kinds entry table = dimension_kinds entry (under (codes "name") table) (under (codes "column") table) (under (codes "levels") table) (under (codes "paths") table)

abbrev pub parts : Members → NamedDimension
parts table = dimension_in (under (codes "name") table) (under (codes "column") table) (under (codes "levels") table) (under (codes "paths") table)

abbrev pub dimension_entry : List NamedDimension → List ℕ
dimension_entry earlier = entry_of (codes "dimension") (length earlier + 1)

pub parts_refused : (earlier : List NamedDimension) (table : Members) (entry : List ℕ) (e : DimsFault) (d : NamedDimension) → entry ≡ dimension_entry earlier → (e ≡ NoMemory) ⊎ (unless (kinds entry table) d ≡ Err e) → Refused NoMemory e (dimension_faults earlier table)
unfolding dimension_faults
parts_refused earlier table entry e d is h =
    first NoMemory e (kinds (dimension_entry earlier) table) (named_faults (dimension_entry earlier) earlier (dimension_of table))
    (subst (λ k. Refused NoMemory e (kinds k table)) is (refused NoMemory e (kinds entry table) d h))

-- what parts of the right kinds are
pub record AreParts (earlier : List NamedDimension) (table : Members) (entry : List ℕ) (d : NamedDimension) : Type 0 where
  pub entry_is : entry ≡ dimension_entry earlier
  pub none : kinds (dimension_entry earlier) table ≡ []
  pub same : dimension_of table ≡ d
  pub has_levels : 1 ≤ length d.levels
  pub has_leaves : 1 ≤ length d.paths

pub are_parts : (earlier : List NamedDimension) (table : Members) (entry : List ℕ) (d : NamedDimension) → entry ≡ dimension_entry earlier → unless (kinds entry table) (parts table) ≡ Ok d → AreParts earlier table entry d
unfolding dimension_of
are_parts earlier table entry d is h =
    let none = nothing (kinds entry table) (parts table) d h in
    let same = value (kinds entry table) (parts table) d h in
    let last = no_append _ _ none in
    let levels = no_append _ _ last.0 in
    record {
      entry_is = is;
      none = subst (λ k. kinds k table ≡ []) is none;
      same = same;
      has_levels = subst (λ (x : NamedDimension). 1 ≤ length x.levels) same (has_items as_str _ (under (codes "levels") table) levels.1);
      has_leaves = subst (λ (x : NamedDimension). 1 ≤ length x.paths) same (has_items as_texts _ (under (codes "paths") table) last.1);
    }

pub members_refused : (earlier : List NamedDimension) (table : Members) (entry : List ℕ) (e : DimsFault) (d : NamedDimension) (kept : List (List (List ℕ))) → AreParts earlier table entry d → (e ≡ NoMemory) ⊎ (unless (named_faults entry earlier d) kept ≡ Err e) → Refused NoMemory e (dimension_faults earlier table)
unfolding dimension_faults
members_refused earlier table entry e d kept s h =
    next NoMemory e (kinds (dimension_entry earlier) table) (named_faults (dimension_entry earlier) earlier (dimension_of table)) s.none
    (subst (λ x. Refused NoMemory e (named_faults (dimension_entry earlier) earlier x)) (sym s.same)
    (subst (λ k. Refused NoMemory e (named_faults k earlier d)) s.entry_is (refused NoMemory e (named_faults entry earlier d) kept h)))

pub keeps_rules : (earlier : List NamedDimension) (table : Members) (entry : List ℕ) (d : NamedDimension) (kept more : List (List (List ℕ))) → AreParts earlier table entry d → unless (named_faults entry earlier d) kept ≡ Ok more → IsDimension d
keeps_rules earlier table entry d kept more s h = is_dimension entry earlier d s.has_levels s.has_leaves (nothing (named_faults entry earlier d) kept more h)

pub dimension_said : (earlier : List NamedDimension) (table : Members) (entry : List ℕ) (d x : NamedDimension) (kept more : List (List (List ℕ))) → AreParts earlier table entry d → unless (named_faults entry earlier d) kept ≡ Ok more → x ≡ d → unless (dimension_faults earlier table) (dimension_of table) ≡ Ok x
unfolding dimension_faults
dimension_said earlier table entry d x kept more s h same =
    accepted (kinds (dimension_entry earlier) table ++ named_faults (dimension_entry earlier) earlier (dimension_of table)) (dimension_of table) x
    (both_nothing _ _ s.none
    (subst (λ y. named_faults (dimension_entry earlier) earlier y ≡ []) (sym s.same)
    (subst (λ k. named_faults k earlier d ≡ []) s.entry_is (nothing (named_faults entry earlier d) kept more h))))
    (s.same ∙ sym same)
