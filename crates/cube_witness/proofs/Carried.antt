-- The facts of a core can carry the values of its twin.
use Rattle.std.specs.Prelude.{unsigned_abs, Result, Ok, Err, IfOk, OnOk}
use Rattle.std.proofs.Common.{◌≡◌, ◌≢◌, ◌⊎◌, inl, inr, ℕ, zero, suc, ◌*◌, ◌<◌, ◌≤◌, List, [], ◌∷◌, length, get_or, set, ℤ, None, refl, sym, ap, ◌∙◌, arith}
use Rattle.std.proofs.lemmas.List.{length-set, get_or-set_same, get_or-set_other}
use Rattle.cube_model.specs.declared.change.Change.{Change}
use Rattle.cube_model.specs.Cores.{Core, IsCore, AreSumsOf}
use Rattle.cube_model.specs.Cubes.{Each}
use Rattle.cube_model.specs.Twins.{added}
use Rattle.cube_model.proofs.Sources.{Each-get_or}
use Rattle.cube_facts.specs.FactFile.{filled_of}
use Rattle.cube_witness.specs.declared.twin.TwinFault.{TwinFault}
use Rattle.cube_witness.specs.Laws.{TwinsReadBack}
use Rattle.cube_witness.specs.Rereading.{IsCarried}
use Rattle.cube_witness.specs.TwinFile.{signs_of, twin_cube, facts_at, value_at, first_beyond, facts_text}
use Rattle.cube_witness.proofs.Adding.{sum_within, values_long}
use Rattle.cube_witness.proofs.Faultless.{decide}
use Rattle.cube_witness.proofs.Reread.{files_read_back}
use Rattle.cube_witness.proofs.Twinning.{twin_long, none_beyond, beyond_is}

each_set : {X : Type 0} (P : X → Type 0) (xs : List X) (i : ℕ) (x : X) → Each P xs → P x → Each P (set xs i x)
each_set P [] i x h p = h
each_set P (y ∷ xs) zero x h p = (p, h.1)
each_set P (y ∷ xs) (suc i) x h p = (h.0, each_set P xs i x h.1 p)

-- a value of a core is within its bound
core_within : (c : Core) (m i : ℕ) → IsCore c → m < length c.dims.measures → i < length c.shape.points → unsigned_abs (value_at c.cube m i) ≤ 1000000000000 * facts_at c.shape i
core_within c m i ok l h =
    let many = ok.measures in
    let long = values_long c m ok l in
    let sums = Each-get_or (AreSumsOf c.shape.facts) c.cube m [] ok.bounded (omega (arith, many, l)) in
    sum_within (facts_at c.shape i) (value_at c.cube m i) (sums i (omega (arith, long, h)))

module _ (c : Core) (m : ℕ) (changes : List Change) (ok : IsCore c) (there : m < length c.dims.measures) (none : first_beyond c.shape (twin_cube c m changes) m ≡ None) where
  in_cube : m < length c.cube
  in_cube = let many = ok.measures in omega (arith, many, there)

  within : (k i : ℕ) → k < length c.dims.measures → i < length c.shape.points → unsigned_abs (value_at (twin_cube c m changes) k i) ≤ 1000000000000 * facts_at c.shape i
  within k i l h = go (decide k m)
    where
      go : (k ≡ m) ⊎ (k ≢ m) → unsigned_abs (value_at (twin_cube c m changes) k i) ≤ 1000000000000 * facts_at c.shape i
      go (inl e) =
          let same : get_or (set c.cube m (added (get_or c.cube m []) (signs_of (length c.shape.points) changes))) k [] ≡ added (get_or c.cube m []) (signs_of (length c.shape.points) changes) = ap (λ (n : ℕ). get_or (set c.cube m (added (get_or c.cube m []) (signs_of (length c.shape.points) changes))) n []) e ∙ get_or-set_same c.cube m (added (get_or c.cube m []) (signs_of (length c.shape.points) changes)) [] (in_cube) in
          rw same (none_beyond c.shape (added (get_or c.cube m []) (signs_of (length c.shape.points) changes)) (sym (beyond_is c.shape c.cube m (added (get_or c.cube m []) (signs_of (length c.shape.points) changes)) in_cube) ∙ none) i h)
      go (inr d) =
          let same : get_or (set c.cube m (added (get_or c.cube m []) (signs_of (length c.shape.points) changes))) k [] ≡ get_or c.cube k [] = get_or-set_other c.cube m k (added (get_or c.cube m []) (signs_of (length c.shape.points) changes)) [] d in
          rw same (core_within c k i ok l h)

  carried : IsCarried c (twin_cube c m changes)
  carried = record {
    rules = ok;
    measures = length-set c.cube m (added (get_or c.cube m []) (signs_of (length c.shape.points) changes)) ∙ ok.measures;
    long = each_set (λ (vs : List ℤ). length vs ≡ length c.shape.points) c.cube m (added (get_or c.cube m []) (signs_of (length c.shape.points) changes)) ok.values (twin_long c m changes (added (get_or c.cube m []) (signs_of (length c.shape.points) changes)) ok there refl);
    within = within;
  }

pub twins_read_back : TwinsReadBack
twins_read_back c m changes ok there none = files_read_back c (twin_cube c m changes) (carried c m changes ok there none)

-- so does a text that is written for a twin
pub twin_read : (c : Core) (m : ℕ) (changes : List Change) (r : Result (List ℕ) TwinFault) → IsCore c → m < length c.dims.measures → IfOk r (λ text. text ≡ facts_text c.dims c.shape (twin_cube c m changes)) → OnOk r (first_beyond c.shape (twin_cube c m changes) m ≡ None)
    → IfOk r (λ text. filled_of c.dims text ≡ Ok (c.shape, twin_cube c m changes))
twin_read c m changes (Ok text) ok there is none = ap (filled_of c.dims) is ∙ twins_read_back c m changes ok there none
twin_read c m changes (Err fault) ok there is none = tt
