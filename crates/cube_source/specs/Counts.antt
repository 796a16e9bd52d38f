-- How many protected cells measures have.
use Rattle.std.specs.List.{sum_by, flat_map}
use Rattle.std.specs.Prelude.{ℕ, Bool, true, false, List, length, slice_index_or}
use Rattle.cube_model.specs.declared.policy.Method.TheVariants.{Plain}
use Rattle.cube_model.specs.declared.policy.Object.{Object}
use Rattle.cube_model.specs.declared.policy.Policy.{Policy}
use Rattle.cube_model.specs.Cores.{Core, shown}
use Rattle.cube_model.specs.Cubes.{Public, count_from}
use Rattle.cube_model.specs.Protection.{is_lattice, under, each_once, protected}
use Rattle.cube_source.specs.Objects.{of_measure, cells_over}

-- how many protected cells the measures have, each measure's counted on their own
abbrev pub protected_count : Core → Policy → ℕ
protected_count core policy = sum_by (λ m. length (protected (shown core policy) m)) (count_from 0 (length policy.methods))

-- the measure is under the source rule
abbrev pub has_source : Policy → ℕ → Bool
has_source p m = is_lattice (slice_index_or p.methods m Plain)

-- a number, but none where this holds
abbrev pub unless : Bool → ℕ → ℕ
unless true n = 0
unless false n = n

-- how many protected cells the measure has, if it is not under the source rule
abbrev pub other_count : Core → Policy → ℕ → ℕ
other_count core policy m = unless (has_source policy m) (length (protected (shown core policy) m))

-- how many cells the objects of the measure protect
abbrev pub under_count : Public → List Object → ℕ → ℕ
under_count g os m = length (each_once (flat_map (under g) (of_measure m os)))

-- how many cells of the cuboid the objects of each of the measures protect
abbrev pub count_over : Public → List Object → List ℕ → List ℕ → ℕ
count_over g os ms c = sum_by (λ m. length (cells_over g os m c)) ms
