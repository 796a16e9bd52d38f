-- The table of an object, step by step.
use Rattle.std.proofs.Common.{◌≡◌, ℕ, List, codes, length, map, get_or, Option, sym, ap, ◌∙◌}
use Rattle.toml.specs.Data.{Members}
use Rattle.cube_model.specs.Checks.{check}
use Rattle.cube_model.specs.Dims.{Dims}
use Rattle.cube_model.specs.declared.policy.Method.{Method}
use Rattle.cube_model.specs.declared.policy.Method.TheVariants.{Plain}
use Rattle.cube_model.specs.declared.policy.Within.{Within}
use Rattle.cube_tables.specs.Tables.{under}
use Rattle.cube_policy.specs.PolicyFile.{measure_number, levels_of, below_in, slice_in, within_of, by_dimension, fewer_in, object_of, is_misplaced, place_faults}
use Rattle.cube_policy.specs.declared.fault.PolicyFault.TheVariants.{ObjectOnMethod}

-- whether the object goes on its measure, by what was read
pub place_same : (methods : List Method) (entry : List ℕ) (number measure : ℕ) (below levels read : List ℕ) (method : Method) → number ≡ measure → below ≡ levels → read ≡ levels → method ≡ get_or methods measure Plain
    → place_faults methods entry number below ≡ check (is_misplaced method read) (ObjectOnMethod entry)
place_same methods entry number measure below levels read method m l r is =
    ap (λ (n : ℕ). place_faults methods entry n below) m
    ∙ ap (place_faults methods entry measure) (l ∙ sym r)
    ∙ ap (λ x. check (is_misplaced x read) (ObjectOnMethod entry)) (sym is)

pub object_same : (s : Dims) (t : Members) (measure : ℕ) (levels : List ℕ) (slice : List Within) (fewer : Option ℕ)
    → measure_number s (under (codes "measure") t) ≡ measure → levels_of s (below_in (under (codes "below") t)) ≡ levels
    → by_dimension (length s.dimensions) (map (within_of s) (slice_in (under (codes "slice") t))) ≡ slice → fewer_in (under (codes "fewer") t) ≡ fewer
    → object_of s t ≡ record { measure = measure; levels = levels; slice = slice; fewer = fewer }
unfolding object_of
object_same s t measure levels slice fewer m l w f =
    ap (λ (x : ℕ). record { measure = x; levels = levels_of s (below_in (under (codes "below") t)); slice = by_dimension (length s.dimensions) (map (within_of s) (slice_in (under (codes "slice") t))); fewer = fewer_in (under (codes "fewer") t) }) m
    ∙ ap (λ x. record { measure = measure; levels = x; slice = by_dimension (length s.dimensions) (map (within_of s) (slice_in (under (codes "slice") t))); fewer = fewer_in (under (codes "fewer") t) }) l
    ∙ ap (λ x. record { measure = measure; levels = levels; slice = x; fewer = fewer_in (under (codes "fewer") t) }) w
    ∙ ap (λ x. record { measure = measure; levels = levels; slice = slice; fewer = x }) f
