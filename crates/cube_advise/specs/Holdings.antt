-- How much a history holds of what it could hold: links of a parity measure, and requests.
use Rattle.std.specs.Prelude.{◌≡◌, ◌≤◌, ℕ, ◌-◌, List, [], ◌∷◌, length}
use Rattle.cube_model.specs.declared.entry.Entry.{Entry}
use Rattle.cube_model.specs.declared.policy.Method.TheVariants.{Parity}
use Rattle.cube_model.specs.Cubes.{Public}
use Rattle.cube_model.specs.Entries.{requests}
use Rattle.cube_model.specs.Links.{basis}
use Rattle.cube_model.specs.Protection.{method, guarded}
use Rattle.cube_model.specs.Verdicts.{links_of, most_held, IsAdmissible}

-- the size of the basis of the links that the history holds on the measure
abbrev pub links_held : Public → List Entry → ℕ → ℕ
links_held g h m = length (basis (length g.shape.points) (links_of g h m))

-- the most links that do not follow from one another, of so many places: one for each place, or one less where a place has to stay free
abbrev pub most_apart : ℕ → List ℕ → ℕ
most_apart n [] = n
most_apart n (i ∷ is) = n - 1

-- the most links of a basis that leaves each protected place of the measure free
abbrev pub most_links : Public → ℕ → ℕ
most_links g m = most_apart (length g.shape.points) (guarded g m)

-- how many requests the history still takes
abbrev pub room : List Entry → ℕ
room h = most_held - length (requests h)

-- An admissible history never holds more links of a parity measure.
abbrev pub HeldLinksAreFew : Type 0
HeldLinksAreFew = (g : Public) (h : List Entry) (m : ℕ) → method g m ≡ Parity → IsAdmissible g h → links_held g h m ≤ most_links g m
