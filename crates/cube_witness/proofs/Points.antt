-- The leaves of a point are there.
use Rattle.std.proofs.Common.{◌≡◌, ℕ, zero, suc, ◌<◌, List, [], ◌∷◌, length, map, get_or, refl, ap, ◌∙◌, arith}
use Rattle.std.proofs.lemmas.List.{length-map}
use Rattle.cube_model.specs.declared.shape.Shape.{Shape}
use Rattle.cube_model.specs.Cubes.{Each, IsPoint}
use Rattle.cube_model.specs.Dims.{Dims, IsDims, NamedDimension, plains, members, dimension_at}
use Rattle.cube_model.proofs.DimsFacts.{length-names_at}
use Rattle.cube_model.proofs.Sources.{Each-get_or}
use Rattle.cube_core.proofs.Points.{length-point, leaf_below, dimension_of}
use Rattle.cube_text.specs.Keys.{KeyFits}
use Rattle.cube_witness.specs.Leaves.{finest, leaves}

level_is : (ds : List NamedDimension) (k : ℕ) → get_or (map {B = ℕ} (λ (d : NamedDimension). 0) ds) k 0 ≡ 0
level_is [] k = refl
level_is (d ∷ ds) zero = refl
level_is (d ∷ ds) (suc k) = level_is ds k

pub levels_long : (s : Dims) (ls : List ℕ) → ls ≡ finest s → length ls ≡ length s.dimensions
levels_long s ls e = ap length e ∙ length-map s.dimensions (λ d. 0)

pub is_point : (s : Dims) (g : Shape) (i : ℕ) → Each (IsPoint (plains s)) g.points → i < length g.points → IsPoint (plains s) (leaves g i)
is_point s g i h l = Each-get_or (IsPoint (plains s)) g.points i [] h l

pub leaves_long : (s : Dims) (g : Shape) (i : ℕ) (xs : List ℕ) → Each (IsPoint (plains s)) g.points → i < length g.points → xs ≡ leaves g i → length xs ≡ length s.dimensions
leaves_long s g i xs h l e = ap length e ∙ length-point s.dimensions (leaves g i) (is_point s g i h l)

pub leaves_fit : (s : Dims) (g : Shape) (i : ℕ) (ls xs : List ℕ) → IsDims s → Each (IsPoint (plains s)) g.points → i < length g.points → ls ≡ finest s → xs ≡ leaves g i → KeyFits s ls xs
leaves_fit s g i ls xs ok h l e f k below low =
    let d = dimension_at s k in
    let zero_level : get_or ls k 0 ≡ 0 = ap (λ (ys : List ℕ). get_or ys k 0) e ∙ level_is s.dimensions k in
    let here : get_or xs k 0 ≡ get_or (leaves g i) k 0 = ap (λ (ys : List ℕ). get_or ys k 0) f in
    let leaf = leaf_below s.dimensions (leaves g i) k (is_point s g i h l) below in
    let names = ap length (dimension_of s.dimensions k ok.each_dimension below).distinct_leaves ∙ length-names_at d 0 in
    let many : length (members d (get_or ls k 0)) ≡ length (members d 0) = ap (λ (n : ℕ). length (members d n)) zero_level in
    omega (arith, here, leaf, names, many)
