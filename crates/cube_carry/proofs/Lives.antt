-- Two worlds over two lives, whatever the method of the measure.
use Rattle.std.proofs.Common.{◌≡◌, ℕ, ◌<◌, List, length, ℤ, refl, sym, subst, ◌∙◌, []}
use Rattle.cube_model.specs.declared.cell.Cell.{Cell}
use Rattle.cube_model.specs.declared.entry.Entry.{Entry}
use Rattle.cube_model.specs.declared.policy.Method.{Method}
use Rattle.cube_model.specs.declared.policy.Method.TheVariants.{Plain, Lattice, Parity}
use Rattle.cube_model.specs.Cubes.{World, IsWorld, IsIn}
use Rattle.cube_model.specs.Protection.{method, protected_by, protected}
use Rattle.cube_model.specs.Verdicts.{IsAdmissible}
use Rattle.cube_model.specs.Twins.{changes}
use Rattle.cube_model.specs.Runs.{Ask}
use Rattle.cube_model.proofs.Histories.{admissible_allowed}
use Rattle.cube_model.proofs.Worlds.{later_changes, length-changes}
use Rattle.cube_carry.specs.Names.{Named, known, world_of, measure_in}
use Rattle.cube_carry.specs.TwoLives.{AreLives, AreSilent, old_changes, TwoLives}
use Rattle.cube_carry.proofs.LatticeLives.{fits_before, lattice_fits}
use Rattle.cube_carry.proofs.Leaving.{FitsBy, fits_leaves}
use Rattle.cube_carry.proofs.Measures.{had, is_controlled}
use Rattle.cube_carry.proofs.ParityLives.{signs_before, parity_fits}
use Rattle.cube_carry.proofs.Silence.{first_end, carried, first_admissible, later_allowed, silent}

module _ (a b : Named) (old new : List (List ℤ)) (h : List Entry) (before behind : List Ask) (later : List Entry) (lives : AreLives a b old new h before behind later) (m : ℕ) (ch : List ℤ) where
  -- changes that fit the later history fit the old one at their old places
  pub fits_old : (way : Method) → method (known b) m ≡ way → FitsBy way (known b) later m ch → measure_in b.dims a.dims m < length a.dims.measures → FitsBy way (known a) (first_end a b old new h before behind later lives) (measure_in b.dims a.dims m) (old_changes a b ch)
  fits_old Plain e fit l = absurd fit
  fits_old Lattice e fit l = fits_before a b old new h before behind later lives m e ch fit l
  fits_old Parity e fit l = signs_before a b old new h before behind later lives m e ch fit

  pub open_measure : (way : Method) → FitsBy way (known b) later m ch → way ≡ Plain → ⊥
  open_measure Plain fit p = fit
  open_measure Lattice fit p = absurd (cc)
  open_measure Parity fit p = absurd (cc)

  -- both lives are silent on them
  pub fits_silent : (way : Method) → method (known b) m ≡ way → FitsBy way (known b) later m ch → length ch ≡ length b.shape.points → AreSilent a b old new h before behind m ch
  fits_silent way e fit long = silent a b old new h before behind later lives m ch there long
      (λ l. fits_leaves (world_of a old) (first_end a b old new h before behind later lives) (measure_in b.dims a.dims m) (old_changes a b ch) way lives.old_named.world
      (admissible_allowed (known a) [] (first_end a b old new h before behind later lives) (first_admissible a b old new h before behind later lives))
      ((had a b new m lives.new_named lives.continues there l).way ∙ e) (fits_old way e fit l))
      (fits_leaves (world_of b new) later m ch way lives.new_named.world (later_allowed a b old new h before behind later lives) e fit)
    where
      there : m < length b.dims.measures
      there = is_controlled b new m lives.new_named (λ p. open_measure way fit (sym e ∙ p))

-- the changes for a protected cell fit the history that they are by
pub changes_fit : (w : World) (last : List Entry) (m : ℕ) (t : Cell) (way : Method) → IsWorld w → method w.shown m ≡ way → IsAdmissible w.shown last → IsIn t (protected w.shown m) → FitsBy way w.shown last m (changes w.shown last m t)
unfolding protected
changes_fit w last m t Plain ok e adm is_in = absurd (subst (λ x. IsIn t (protected_by x w.shown m)) e is_in)
changes_fit w last m t Lattice ok e adm is_in = lattice_fits w.shown last m t e adm is_in
changes_fit w last m t Parity ok e adm is_in = parity_fits w last m t ok e adm is_in

pub two_lives : TwoLives
two_lives a b old new h before behind later m t lives is_in = record {
  silent = fits_silent a b old new h before behind later lives m (changes (known b) later m t) (method (known b) m) refl
      (changes_fit (world_of b new) later m t (method (known b) m) lives.new_named.world refl lives.later_admissible is_in) (length-changes (known b) later m t);
  other_sum = (later_changes (world_of b new) (carried a b old new h before behind later lives) later behind m t lives.new_named.world lives.later_admissible lives.extends is_in).other_sum;
}
