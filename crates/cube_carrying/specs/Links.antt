-- Links whose places are looked up in a table.
use Rattle.std.specs.Prelude.{ℕ, List, slice_index_or}
use Rattle.cube_model.specs.declared.link.Link.{Link}
use Rattle.cube_model.specs.declared.link.Link.TheVariants.{Pair, Single}

-- a link with the places that a table has for its own
abbrev pub link_by : List ℕ → Link → Link
link_by places (Pair i j) = Pair (slice_index_or places i 0) (slice_index_or places j 0)
link_by places (Single i) = Single (slice_index_or places i 0)
