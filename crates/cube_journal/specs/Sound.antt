-- What the entries of a log are.
use Rattle.std.specs.Prelude.{◌≡◌, ℕ, ◌&&◌, true, slice_index_or}
use Rattle.cube_model.specs.Cubes.{are_levels}
use Rattle.cube_model.specs.Dims.{Dims, plains}
use Rattle.cube_model.specs.Entries.{is_link}
use Rattle.cube_model.specs.Protection.{is_lattice, is_parity}
use Rattle.cube_model.specs.declared.entry.Entry.{Entry}
use Rattle.cube_model.specs.declared.entry.Entry.TheVariants.{Asked, Source, Linked}
use Rattle.cube_model.specs.declared.policy.Method.TheVariants.{Plain}
use Rattle.cube_model.specs.declared.policy.Policy.{Policy}
use Rattle.cube_query.specs.Canonical.{is_request}

-- a request of these dimensions; levels of a lattice measure; a link of a parity measure among so many places
abbrev pub IsSound : Dims → Policy → ℕ → Entry → Type 0
IsSound s p n (Asked r) = is_request s r ≡ true
IsSound s p n (Source m c) = (is_lattice (slice_index_or p.methods m Plain) && are_levels (plains s) c) ≡ true
IsSound s p n (Linked m l) = (is_parity (slice_index_or p.methods m Plain) && is_link n l) ≡ true
