-- What the steps of a colouring keep.
use Rattle.std.specs.List.{All}
use Rattle.std.specs.Prelude.{◌≡◌, ℕ, ◌<◌, ◌≤◌, List, [], ◌∷◌, length, map, take, drop}
use Rattle.cube_model.specs.declared.link.Link.{Link}
use Rattle.cube_model.specs.LinkLaws.{AreOfPlaces}
use Rattle.cube_model.specs.Links.{basis}
use Rattle.cube_colour.specs.declared.forest.Node.{Node}
use Rattle.cube_colour.specs.declared.step.Step.{Step}
use Rattle.cube_colour.specs.Forests.{IsRanked, weight, Labels, IsLabelled, AreLabels, AreGuarded, restored}

-- the links of steps
abbrev pub links_of : List Step → List Link
links_of steps = map (λ step. step.link) steps

-- the nodes before steps
abbrev pub undone : List Step → List Node → List Node
undone [] nodes = nodes
undone (step ∷ steps) nodes = restored step.saved (undone steps nodes)

-- the nodes are those of the links kept, and these leave each guarded place free; trees of a high rank are large, so their weight is at most the number of places
pub record IsGrown (n : ℕ) (guards : List ℕ) (kept : List Link) (nodes : List Node) : Type 0 where
  pub long : length nodes ≡ n
  pub ranked : IsRanked (length kept) nodes
  pub light : weight 0 nodes ≤ n
  pub labels : Labels
  pub labelled : IsLabelled nodes labels
  pub are_labels : AreLabels n kept labels
  pub are_guarded : AreGuarded guards labels

-- the nodes that a step changed are nodes
abbrev pub IsStep : ℕ → Step → Type 0
IsStep n step = (step.saved.first < n) × (step.saved.second < n)

-- the steps lead to the nodes, and back to each number of links
pub record Stands (n : ℕ) (guards : List ℕ) (steps : List Step) (nodes : List Node) : Type 0 where
  pub own_basis : basis n (links_of steps) ≡ links_of steps
  pub of_places : AreOfPlaces n (links_of steps)
  pub below : All (λ place. place < n) guards
  pub in_range : All (IsStep n) steps
  pub at_each : (k : ℕ) → k ≤ length steps → IsGrown n guards (links_of (take k steps)) (undone (drop k steps) nodes)
