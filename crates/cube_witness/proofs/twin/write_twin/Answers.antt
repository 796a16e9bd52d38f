use Rattle.std.proofs.Common.{◌≡◌, ℕ, ℤ, List, [], get_or, set, find, pos, ap, ap₂, refl, sym, ◌∙◌, length, arith}
use Rattle.cube_model.specs.declared.shape.Shape.{Shape}
use Rattle.cube_model.specs.Cubes.{count_from}
use Rattle.cube_model.specs.Twins.{added}
use Rattle.cube_witness.specs.Leaves.{finest}
use Rattle.cube_witness.specs.TwinFile.{signs_of, facts_at, is_beyond, first_beyond}
use Rattle.cube_witness.proofs.Twinning.{signs_long, twin_long, beyond_is, is_twin}
use Rattle.cube_witness.proofs.twin.write_twin.Goals as goal

pub add_signs-requires-clause-long : goal.add_signs-requires-clause-long
add_signs-requires-clause-long g c =
    ap length (c.as_slice-2.ensures.value ∙ c.in_ok-signs.ensures) ∙ signs_long c.len.result c.as_slice.result.now ∙ c.len.ensures.len

pub find_beyond-requires-clause-long : goal.find_beyond-requires-clause-long
find_beyond-requires-clause-long g c =
    let core = c.args.core.now in
    let signs : c.as_slice-2.result.now ≡ signs_of (length core.shape.points) c.args.changes.now = c.as_slice-2.ensures.value ∙ c.in_ok-signs.ensures ∙ ap₂ signs_of c.len.ensures.len c.as_slice.ensures in
    let values = c.in_ok-values.ensures ∙ ap (added (get_or core.cube c.args.measure [])) signs in
    ap length c.as_slice-3.ensures ∙ twin_long core c.args.measure c.args.changes.now c.in_ok-values.values c.len.ensures.rules c.requires.measure values ∙ ap (λ (h : Shape). length h.points) (sym c.shape.ensures.shape)

pub write_facts-requires : goal.write_facts-requires
write_facts-requires g c =
    let core = c.args.core.now in
    let signs : c.as_slice-2.result.now ≡ signs_of (length core.shape.points) c.args.changes.now = c.as_slice-2.ensures.value ∙ c.in_ok-signs.ensures ∙ ap₂ signs_of c.len.ensures.len c.as_slice.ensures in
    let values = c.in_ok-values.ensures ∙ ap (added (get_or core.cube c.args.measure [])) signs in
    let none = ap₂ (λ (h : Shape) (vs : List ℤ). find (λ (i : ℕ). is_beyond (facts_at h i) (get_or vs i (pos 0))) (count_from 0 (length h.points))) (sym c.shape.ensures.shape) (sym c.as_slice-3.ensures) ∙ sym c.find_beyond.ensures ∙ c.in_default.is in
    is_twin _ core c.args.measure c.args.changes.now refl refl c.len.ensures.rules c.requires.measure (c.in_ok-levels.ensures ∙ ap finest c.dims.ensures.dims) values none

pub returns-clause-within : goal.returns-clause-within
returns-clause-within g c =
    let core = c.args.core.now in
    let many = c.len.ensures.rules.measures in
    let here = c.requires.measure in
    let signs : c.as_slice-2.result.now ≡ signs_of (length core.shape.points) c.args.changes.now = c.as_slice-2.ensures.value ∙ c.in_ok-signs.ensures ∙ ap₂ signs_of c.len.ensures.len c.as_slice.ensures in
    let values = c.in_ok-values.ensures ∙ ap (added (get_or core.cube c.args.measure [])) signs in
    let none = ap₂ (λ (h : Shape) (vs : List ℤ). find (λ (i : ℕ). is_beyond (facts_at h i) (get_or vs i (pos 0))) (count_from 0 (length h.points))) (sym c.shape.ensures.shape) (sym c.as_slice-3.ensures) ∙ sym c.find_beyond.ensures ∙ c.in_default.is in
    ap (λ (vs : List ℤ). first_beyond core.shape (set core.cube c.args.measure vs) c.args.measure) (sym values) ∙ beyond_is core.shape core.cube c.args.measure c.in_ok-values.values (omega (arith, many, here)) ∙ none
