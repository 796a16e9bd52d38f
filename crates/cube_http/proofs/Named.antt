-- The values of the fields of a name, found one after another.
use Rattle.std.proofs.Common.{◌≡◌, ℕ, List, ◌∷◌, map, drop}
use Rattle.httparse.specs.declared.spans.HeaderSpan.{HeaderSpan}
use Rattle.httparse.specs.Spans.{header_bytes}
use Rattle.cube_http.specs.declared.fields.Found.{Found}
use Rattle.cube_http.specs.declared.fields.Found.TheVariants.{Absent, One, Many}
use Rattle.cube_http.specs.Checks.{named}

-- what was found is followed by what is left
abbrev pub Stands : Found → List (List ℕ) → List (List ℕ) → Type 0
Stands Absent all left = all ≡ left
Stands (One v) all left = all ≡ v.now ∷ left
Stands Many all left = ⊥

-- the values of the headers from i on
abbrev pub left : List ℕ → List HeaderSpan → List ℕ → ℕ → List (List ℕ)
left bytes headers name i = named name (map (header_bytes bytes) (drop i headers))
