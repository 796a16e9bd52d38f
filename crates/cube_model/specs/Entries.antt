-- What a history is made of: requests that were answered, and what stands for earlier ones.
use Rattle.std.specs.Prelude.{length, ℕ, Bool, not, ◌&&◌, ◌==◌, nat_lt, List, [], ◌∷◌, filter, map}
use Rattle.cube_model.specs.declared.entry.Entry.{Entry}
use Rattle.cube_model.specs.declared.entry.Entry.TheVariants.{Asked, Source, Linked}
use Rattle.cube_model.specs.declared.link.Link.{Link}
use Rattle.cube_model.specs.declared.link.Link.TheVariants.{Pair, Single}
use Rattle.cube_model.specs.declared.request.Request.{Request}
use Rattle.cube_model.specs.Cubes.{Public, are_levels}
use Rattle.cube_model.specs.Requests.{is_valid, grain, asks}
use Rattle.cube_model.specs.Protection.{method, is_lattice, is_parity}
use Rattle.cube_model.specs.Links.{links}

-- the history that some requests make
abbrev pub asked : List Request → List Entry
asked rs = map Asked rs

-- the requests of a history
abbrev pub requests : List Entry → List Request
requests [] = []
requests (Asked r ∷ h) = r ∷ requests h
requests (Source m c ∷ h) = requests h
requests (Linked m l ∷ h) = requests h

-- the entry is on the measure
abbrev pub is_on : ℕ → Entry → Bool
is_on m (Asked r) = asks m r
is_on m (Source k c) = k == m
is_on m (Linked k l) = k == m

-- the entries of a history on a measure
abbrev pub on : ℕ → List Entry → List Entry
on m h = filter (is_on m) h

-- the levels that an entry brings: the grain of a request, or those of a source
abbrev pub levels_in : Entry → List (List ℕ)
levels_in (Asked r) = grain r ∷ []
levels_in (Source m c) = c ∷ []
levels_in (Linked m l) = []

-- the links that an entry brings: those of a request, or one
abbrev pub links_in : Public → Entry → List Link
links_in g (Asked r) = links g r
links_in g (Source m c) = []
links_in g (Linked m l) = l ∷ []

-- places in range, two in a pair
abbrev pub is_link : ℕ → Link → Bool
is_link n (Pair i j) = nat_lt i n && nat_lt j n && not (i == j)
is_link n (Single i) = nat_lt i n

-- what the entry names is there
unfoldable pub is_allowed : Public → Entry → Bool
is_allowed g (Asked r) = is_valid g r
is_allowed g (Source m c) = is_lattice (method g m) && are_levels g.dimensions c
is_allowed g (Linked m l) = is_parity (method g m) && is_link (length g.shape.points) l
