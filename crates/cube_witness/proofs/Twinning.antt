-- The values of a twin, and what so many facts can carry of them.
use Rattle.std.specs.Prelude.{unsigned_abs}
use Rattle.std.proofs.Common.{◌≡◌, refl, sym, ap, ◌∙◌, ℕ, suc, ◌*◌, ◌<◌, ◌≤◌, false, List, [], ◌∷◌, length, find, fold, get_or, set, replicate, ℤ, pos, None, arith}
use Rattle.std.proofs.lemmas.Bool.{ltb-false}
use Rattle.std.proofs.lemmas.List.{length-set, length-replicate, get_or-set_same}
use Rattle.cube_model.specs.declared.change.Change.{Change}
use Rattle.cube_model.specs.declared.shape.Shape.{Shape}
use Rattle.cube_model.specs.Cores.{Core, IsCore}
use Rattle.cube_model.specs.Cubes.{count_from}
use Rattle.cube_model.specs.Twins.{added}
use Rattle.cube_model.proofs.Members.{find_none, count_from_has}
use Rattle.cube_witness.specs.Leaves.{finest}
use Rattle.cube_witness.specs.declared.file.Twin.{Twin}
use Rattle.cube_witness.specs.TwinFile.{set_sign, signs_of, facts_at, is_beyond, first_beyond}
use Rattle.cube_witness.specs.Twinned.{IsTwin}
use Rattle.cube_witness.proofs.Adding.{values_long}

put_long : (signs : List ℤ) (changes : List Change) → length (fold set_sign signs changes) ≡ length signs
put_long signs [] = refl
put_long signs (c ∷ changes) = put_long (set_sign signs c) changes ∙ length-set signs c.place c.by

pub signs_long : (n : ℕ) (changes : List Change) → length (signs_of n changes) ≡ n
signs_long n changes = put_long (replicate n (pos 0)) changes ∙ length-replicate n (pos 0)

pub added_long : (vs ds : List ℤ) → length vs ≡ length ds → length (added vs ds) ≡ length vs
added_long [] ds e = refl
added_long (v ∷ vs) [] e = sym e
added_long (v ∷ vs) (d ∷ ds) e = ap suc (added_long vs ds (omega (arith, e)))

-- the values of a twin, one for each place
pub twin_long : (core : Core) (m : ℕ) (changes : List Change) (values : List ℤ) → IsCore core → m < length core.dims.measures → values ≡ added (get_or core.cube m []) (signs_of (length core.shape.points) changes) → length values ≡ length core.shape.points
twin_long core m changes values ok l is =
    let long = values_long core m ok l in
    let signs = signs_long (length core.shape.points) changes in
    let both = added_long (get_or core.cube m []) (signs_of (length core.shape.points) changes) (long ∙ sym signs) in
    ap length is ∙ both ∙ long

-- a place that no search finds is within the bound
not_beyond : (n : ℕ) (v : ℤ) → is_beyond n v ≡ false → unsigned_abs v ≤ 1000000000000 * n
not_beyond n v e = ltb-false (1000000000000 * n) (unsigned_abs v) e

pub none_beyond : (g : Shape) (values : List ℤ) → find (λ i. is_beyond (facts_at g i) (get_or values i (pos 0))) (count_from 0 (length g.points)) ≡ None → (i : ℕ) → i < length g.points → unsigned_abs (get_or values i (pos 0)) ≤ 1000000000000 * facts_at g i
none_beyond g values e i l = not_beyond (facts_at g i) (get_or values i (pos 0)) (find_none (λ i. is_beyond (facts_at g i) (get_or values i (pos 0))) i (count_from 0 (length g.points)) e (count_from_has i 0 (length g.points) (omega arith) (omega (arith, l))))

-- the search goes by the values that the measure gets
pub beyond_is : (g : Shape) (cube : List (List ℤ)) (m : ℕ) (values : List ℤ) → m < length cube → first_beyond g (set cube m values) m ≡ find (λ i. is_beyond (facts_at g i) (get_or values i (pos 0))) (count_from 0 (length g.points))
beyond_is g cube m values l = ap (λ (vs : List ℤ). find (λ i. is_beyond (facts_at g i) (get_or vs i (pos 0))) (count_from 0 (length g.points))) (get_or-set_same cube m values [] l)

-- what a twin has to be
pub is_twin : (t : Twin) (core : Core) (m : ℕ) (changes : List Change) → t.core.now ≡ core → t.measure ≡ m → IsCore core → m < length core.dims.measures → t.levels ≡ finest core.dims
    → t.values ≡ added (get_or core.cube m []) (signs_of (length core.shape.points) changes) → find (λ i. is_beyond (facts_at core.shape i) (get_or t.values i (pos 0))) (count_from 0 (length core.shape.points)) ≡ None → IsTwin t
is_twin t core m changes same number ok l levels values none = record {
  rules = rw same ok;
  levels = rw same levels;
  measure = rw (same, number) l;
  long = rw same (twin_long core m changes t.values ok l values);
  within = rw same (none_beyond core.shape t.values none);
}
