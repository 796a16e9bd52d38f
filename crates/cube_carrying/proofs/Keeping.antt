-- What is kept at an old place: its facts, and the value of each measure.
use Rattle.std.proofs.Common.{◌≡◌, ℕ, ◌<◌, Bool, true, false, List, length, map, get_or, sym, ap, ◌∙◌, arith}
use Rattle.std.specs.List.{list_all}
use Rattle.std.proofs.lemmas.Bool.{false≢true, and_parts, ltb-true}
use Rattle.std.proofs.lemmas.List.{length-map}
use Rattle.cube_model.specs.Cores.{Core}
use Rattle.cube_model.specs.Cubes.{count_from}
use Rattle.cube_model.specs.Dims.{Dims}
use Rattle.cube_model.proofs.Members.{tested, count_from_has, IsIn-count_from}
use Rattle.cube_model.proofs.Parities.{all_at, all_from}
use Rattle.cube_model.proofs.Sums.{length-count_from}
use Rattle.cube_carry.specs.Continues.{has_measure}
use Rattle.cube_carry.specs.Names.{Named, measure_in}
use Rattle.cube_carrying.specs.Places.{carried_places, place_in}
use Rattle.cube_carrying.specs.Points.{measures_in, HasMeasures}
use Rattle.cube_carrying.proofs.Tables.{counted_at}

-- ---- a table of numbers

pub length-counted : {X : Type 0} (f : ℕ → X) (n : ℕ) → length (map f (count_from 0 n)) ≡ n
length-counted f n = length-map (count_from 0 n) f ∙ length-count_from 0 n

-- ---- a test of the first numbers

pub all_pass : (p : ℕ → Bool) (n : ℕ) → ((k : ℕ) → k < n → p k ≡ true) → list_all p (count_from 0 n) ≡ true
all_pass p n h = all_from p (count_from 0 n) (λ k m. h k (let r = (IsIn-count_from k 0 n m).1 in omega (arith, r)))

pub pass_at : (p : ℕ → Bool) (n k : ℕ) → list_all p (count_from 0 n) ≡ true → k < n → p k ≡ true
pass_at p n k h l = all_at p k (count_from 0 n) h (count_from_has k 0 n (omega arith) (omega (arith, l)))

pub one_fails : (p : ℕ → Bool) (n k : ℕ) → k < n → p k ≡ false → list_all p (count_from 0 n) ≡ false
one_fails p n k l f = tested (list_all p (count_from 0 n)) (λ t. absurd (false≢true (sym f ∙ pass_at p n k t l))) (λ g. g)

-- ---- measures

pub measure_read : (s z : Dims) (ns : List ℕ) (m : ℕ) → ns ≡ measures_in s z → m < length s.measures → get_or ns m 0 ≡ measure_in s z m
measure_read s z ns m e l = ap (λ (l : List ℕ). get_or l m 0) e ∙ counted_at (measure_in s z) 0 (length s.measures) m l

pub measures_long : (s z : Dims) (ns : List ℕ) → ns ≡ measures_in s z → length ns ≡ length s.measures
measures_long s z ns e = ap length e ∙ length-counted (measure_in s z) (length s.measures)

pub have_measures : (a b : Named) → list_all (has_measure a b) (count_from 0 (length a.dims.measures)) ≡ true → HasMeasures a.dims b.dims
have_measures a b h m l = ltb-true (measure_in a.dims b.dims m) (length b.dims.measures) (and_parts _ _ (and_parts _ _ (pass_at (has_measure a b) (length a.dims.measures) m h l)).0).0

-- ---- places

pub place_read : (c d : Core) (ps : List ℕ) (i : ℕ) → ps ≡ carried_places c d → i < length c.shape.points → get_or ps i 0 ≡ place_in c d i
place_read c d ps i e l = ap (λ (l : List ℕ). get_or l i 0) e ∙ counted_at (place_in c d) 0 (length c.shape.points) i l

pub places_long : (c d : Core) (ps : List ℕ) → ps ≡ carried_places c d → length ps ≡ length c.shape.points
places_long c d ps e = ap length e ∙ length-counted (place_in c d) (length c.shape.points)
