-- A measure's table, step by step: its parts, its names, its decimals.
use Rattle.std.proofs.Common.{◌≡◌, ◌⊎◌, ℕ, ◌+◌, List, [], ◌++◌, length, codes, Ok, Err, sym, ap, subst, ◌∙◌}
use Rattle.std.specs.Prelude.{Option, is_none, unwrap_or}
use Rattle.toml.specs.Data.{Members}
use Rattle.cube_model.specs.Checks.{unless, check}
use Rattle.cube_model.specs.Dims.{NamedDimension, NamedMeasure}
use Rattle.cube_tables.specs.Tables.{entry_of, under}
use Rattle.cube_dims.specs.DimsFile.{measure_of, measure_kinds, measure_naming, measure_faults, decimals_in}
use Rattle.cube_dims.specs.MeasureParts.{parts_in}
use Rattle.cube_dims.specs.declared.measure.Parts.{Parts}
use Rattle.cube_dims.specs.declared.fault.DimsFault.{DimsFault}
use Rattle.cube_dims.specs.declared.fault.DimsFault.TheVariants.{NoMemory, Limit}
use Rattle.cube_model.specs.declared.limit.LimitKind.TheVariants.{Decimals}
use Rattle.cube_tables.proofs.Turns.{Refused, first, next, both_nothing, nothing, value, refused, accepted}

abbrev pub kinds : List ℕ → Members → List DimsFault
kinds entry table = measure_kinds entry (under (codes "name") table) (under (codes "column") table) (under (codes "decimals") table)

abbrev pub measure_entry : List NamedMeasure → List ℕ
measure_entry earlier = entry_of (codes "measure") (length earlier + 1)

abbrev pub wide : Option ℕ → List DimsFault
wide stated = check (is_none stated) (Limit Decimals 6)

abbrev pub stated : Members → Option ℕ
stated table = decimals_in (under (codes "decimals") table)

abbrev pub naming : List ℕ → List NamedDimension → List NamedMeasure → NamedMeasure → List DimsFault
naming entry dimensions earlier m = measure_naming entry dimensions earlier m.name m.column

pub parts_refused : (dimensions : List NamedDimension) (earlier : List NamedMeasure) (table : Members) (entry : List ℕ) (e : DimsFault) (p : Parts) → entry ≡ measure_entry earlier → (e ≡ NoMemory) ⊎ (unless (kinds entry table) p ≡ Err e) → Refused NoMemory e (measure_faults dimensions earlier table)
unfolding measure_faults
parts_refused dimensions earlier table entry e p is h =
    first NoMemory e (kinds (measure_entry earlier) table ++ naming (measure_entry earlier) dimensions earlier (measure_of table)) (wide (stated table))
    (first NoMemory e (kinds (measure_entry earlier) table) (naming (measure_entry earlier) dimensions earlier (measure_of table))
    (subst (λ k. Refused NoMemory e (kinds k table)) is (refused NoMemory e (kinds entry table) p h)))

-- what parts of the right kinds are
pub record AreParts (earlier : List NamedMeasure) (table : Members) (entry : List ℕ) (p : Parts) : Type 0 where
  pub entry_is : entry ≡ measure_entry earlier
  pub none : kinds (measure_entry earlier) table ≡ []
  pub name : (measure_of table).name ≡ p.name
  pub column : (measure_of table).column ≡ p.column
  pub decimals : stated table ≡ p.decimals
  pub units : (measure_of table).decimals ≡ unwrap_or p.decimals 0

pub are_parts : (earlier : List NamedMeasure) (table : Members) (entry : List ℕ) (p : Parts) → entry ≡ measure_entry earlier → unless (kinds entry table) (parts_in table) ≡ Ok p → AreParts earlier table entry p
unfolding measure_of
are_parts earlier table entry p is h =
    let same = value (kinds entry table) (parts_in table) p h in
    record {
      entry_is = is;
      none = subst (λ k. kinds k table ≡ []) is (nothing (kinds entry table) (parts_in table) p h);
      name = ap (λ q. q.name) same;
      column = ap (λ q. q.column) same;
      decimals = ap (λ q. q.decimals) same;
      units = ap (λ q. unwrap_or q.decimals 0) same;
    }

-- the checks of the names, where the parts are known
named : (dimensions : List NamedDimension) (earlier : List NamedMeasure) (table : Members) (entry : List ℕ) (p : Parts) → AreParts earlier table entry p → measure_naming entry dimensions earlier p.name p.column ≡ naming (measure_entry earlier) dimensions earlier (measure_of table)
named dimensions earlier table entry p s =
    ap (λ k. measure_naming k dimensions earlier p.name p.column) s.entry_is
    ∙ ap (λ x. measure_naming (measure_entry earlier) dimensions earlier x p.column) (sym s.name)
    ∙ ap (λ x. measure_naming (measure_entry earlier) dimensions earlier (measure_of table).name x) (sym s.column)

pub naming_refused : (dimensions : List NamedDimension) (earlier : List NamedMeasure) (table : Members) (entry : List ℕ) (e : DimsFault) (p : Parts) → AreParts earlier table entry p → (e ≡ NoMemory) ⊎ (unless (measure_naming entry dimensions earlier p.name p.column) (tt {0}) ≡ Err e) → Refused NoMemory e (measure_faults dimensions earlier table)
unfolding measure_faults
naming_refused dimensions earlier table entry e p s h =
    first NoMemory e (kinds (measure_entry earlier) table ++ naming (measure_entry earlier) dimensions earlier (measure_of table)) (wide (stated table))
    (next NoMemory e (kinds (measure_entry earlier) table) (naming (measure_entry earlier) dimensions earlier (measure_of table)) s.none
    (subst (Refused NoMemory e) (named dimensions earlier table entry p s) h))

names_none : (dimensions : List NamedDimension) (earlier : List NamedMeasure) (table : Members) (entry : List ℕ) (p : Parts) → AreParts earlier table entry p → unless (measure_naming entry dimensions earlier p.name p.column) (tt {0}) ≡ Ok (tt {0}) → naming (measure_entry earlier) dimensions earlier (measure_of table) ≡ []
names_none dimensions earlier table entry p s h = sym (named dimensions earlier table entry p s) ∙ nothing _ _ _ h

pub decimals_refused : (dimensions : List NamedDimension) (earlier : List NamedMeasure) (table : Members) (entry : List ℕ) (e : DimsFault) (p : Parts) → AreParts earlier table entry p → unless (measure_naming entry dimensions earlier p.name p.column) (tt {0}) ≡ Ok (tt {0}) → (e ≡ NoMemory) ⊎ (unless (wide p.decimals) (unwrap_or p.decimals 0) ≡ Err e) → Refused NoMemory e (measure_faults dimensions earlier table)
unfolding measure_faults
decimals_refused dimensions earlier table entry e p s n h =
    next NoMemory e (kinds (measure_entry earlier) table ++ naming (measure_entry earlier) dimensions earlier (measure_of table)) (wide (stated table))
    (both_nothing _ _ s.none (names_none dimensions earlier table entry p s n))
    (subst (λ z. Refused NoMemory e (wide z)) (sym s.decimals) (refused NoMemory e (wide p.decimals) (unwrap_or p.decimals 0) h))

same_measure : (m n : NamedMeasure) → m.name ≡ n.name → m.column ≡ n.column → m.decimals ≡ n.decimals → m ≡ n
same_measure m n a b d =
    ap (λ x. record { name = x; column = m.column; decimals = m.decimals }) a
    ∙ ap (λ x. record { name = n.name; column = x; decimals = m.decimals }) b
    ∙ ap (λ (x : ℕ). record { name = n.name; column = n.column; decimals = x }) d

pub measure_said : (dimensions : List NamedDimension) (earlier : List NamedMeasure) (table : Members) (entry : List ℕ) (p : Parts) (d : ℕ) (m : NamedMeasure) → AreParts earlier table entry p → unless (measure_naming entry dimensions earlier p.name p.column) (tt {0}) ≡ Ok (tt {0}) → unless (wide p.decimals) (unwrap_or p.decimals 0) ≡ Ok d → m ≡ record { name = p.name; column = p.column; decimals = d } → unless (measure_faults dimensions earlier table) (measure_of table) ≡ Ok m
unfolding measure_faults
measure_said dimensions earlier table entry p d m s n w is =
    accepted (kinds (measure_entry earlier) table ++ naming (measure_entry earlier) dimensions earlier (measure_of table) ++ wide (stated table)) (measure_of table) m
    (both_nothing _ _ (both_nothing _ _ s.none (names_none dimensions earlier table entry p s n)) (ap wide s.decimals ∙ nothing (wide p.decimals) (unwrap_or p.decimals 0) d w))
    (same_measure (measure_of table) (record { name = p.name; column = p.column; decimals = d }) s.name s.column (s.units ∙ value (wide p.decimals) (unwrap_or p.decimals 0) d w) ∙ sym is)
