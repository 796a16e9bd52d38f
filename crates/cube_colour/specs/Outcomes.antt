-- What comes of adding links.
use Rattle.std.specs.Prelude.{◌≡◌, ℕ, List, [], ◌∷◌, ◌++◌, take, Option, Some, None}
use Rattle.cube_model.specs.declared.link.Link.{Link}
use Rattle.cube_model.specs.Links.{suiting, basis}
use Rattle.cube_model.specs.Verdicts.{fixed_by, first_stop}
use Rattle.cube_colour.specs.Colourings.{Colouring, IsColouring}
use Rattle.cube_colour.specs.declared.colouring.Added.{Added}
use Rattle.cube_colour.specs.declared.colouring.Added.TheVariants.{Fits, Stops}

-- the links are added, and no guarded place is fixed
pub record IsAdded (old new : Colouring) (links : List Link) : Type 0 where
  pub places : new.places ≡ old.places
  pub guarded : new.guarded ≡ old.guarded
  pub kept : new.kept ≡ basis old.places (old.kept ++ links)
  pub free : first_stop old.places old.guarded old.kept links ≡ None

-- nothing is added: so many links are the first that fix a guarded place, and this is the first of the guarded places that they fix
pub record IsStopped (old new : Colouring) (links : List Link) (index place : ℕ) : Type 0 where
  pub stays : new ≡ old
  pub stop : first_stop old.places old.guarded old.kept links ≡ Some index
  pub fixed : fixed_by (suiting old.places (old.kept ++ take index links)) old.guarded ≡ Some place

-- links are added, or nothing is
abbrev pub Adds : Colouring → Colouring → List Link → Added → Type 0
Adds old new links Fits = IsAdded old new links
Adds old new links (Stops index place) = IsStopped old new links index place

-- the link is added, unless it follows, and no guarded place is fixed
pub record IsGrown (old new : Colouring) (link : Link) : Type 0 where
  pub kept : new ≡ record old { kept = basis old.places (old.kept ++ link ∷ []) }
  pub rules : IsColouring new

-- the first guarded place that the link fixes, or none
abbrev pub Grows : Colouring → Colouring → Link → Option ℕ → Type 0
Grows old new link None = IsGrown old new link
Grows old new link (Some place) = (new ≡ old) × (fixed_by (suiting old.places (old.kept ++ link ∷ [])) old.guarded ≡ Some place)
