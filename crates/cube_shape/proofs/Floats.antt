-- A shape has no float.
use Rattle.std.proofs.Common.{◌≡◌, ℕ, Bool, false, ◌||◌, List, [], ◌∷◌, refl, map, ap₂}
use Rattle.std.specs.Prelude.{zip}
use Rattle.serde_json.specs.Data.{Data, string}
use Rattle.serde_json.specs.View.{items_of}
use Rattle.serde_json.specs.Written.{has_float, items_have_float}
use Rattle.cube_model.specs.declared.policy.Method.{Method}
use Rattle.cube_model.specs.Cubes.{Public}
use Rattle.cube_model.specs.Dims.{Dims, NamedDimension, NamedMeasure}
use Rattle.cube_shape.specs.ShapeText.{texts_data, paths_data, dimension_data, measure_data, shape_data}

-- a list of items without a float
all_whole : {X : Type 0} (f : X → Data) (xs : List X) → ((x : X) → has_float (f x) ≡ false) → items_have_float (items_of (map f xs)) ≡ false
all_whole f [] h = refl
all_whole f (x ∷ xs) h = ap₂ (λ (a b : Bool). a || b) (h x) (all_whole f xs h)

texts_whole : (ts : List (List ℕ)) → has_float (texts_data ts) ≡ false
texts_whole ts = all_whole string ts (λ t. refl)

dimension_whole : (d : NamedDimension) → has_float (dimension_data d) ≡ false
dimension_whole d =
    let paths : has_float (paths_data d.paths) ≡ false = all_whole texts_data d.paths texts_whole in
    ap₂ (λ (a b : Bool). a || (false || (b || false))) (texts_whole d.levels) paths

measure_whole : (e : NamedMeasure × Method) → has_float (measure_data e) ≡ false
measure_whole e = refl

pub shape_whole : (s : Dims) (g : Public) → has_float (shape_data s g) ≡ false
shape_whole s g =
    ap₂ (λ (a b : Bool). a || (false || (b || (false || false)))) (all_whole dimension_data s.dimensions dimension_whole) (all_whole measure_data (zip s.measures g.policy.methods) measure_whole)
