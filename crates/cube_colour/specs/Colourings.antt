-- What a colouring holds, and what always holds of it.
use Rattle.std.specs.List.{All}
use Rattle.std.specs.Prelude.{◌≡◌, ℕ, ◌<◌, ◌≤◌, true, List, length}
use Rattle.cube_model.specs.declared.link.Link.{Link}
use Rattle.cube_model.specs.LinkLaws.{AreOfPlaces}
use Rattle.cube_model.specs.Links.{is_free, basis}

-- so many places, those of them that have to stay free, and the links kept
pub record Colouring : Type 0 where
  pub places : ℕ
  pub guarded : List ℕ
  pub kept : List Link

-- the links kept are a basis of themselves, links of places, and leave each guarded place free
pub record IsColouring (c : Colouring) : Type 0 where
  pub own_basis : basis c.places c.kept ≡ c.kept
  pub short : length c.kept ≤ c.places
  pub of_places : AreOfPlaces c.places c.kept
  pub below : All (λ place. place < c.places) c.guarded
  pub free : All (λ place. is_free c.places c.kept place ≡ true) c.guarded
