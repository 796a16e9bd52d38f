use Rattle.std.proofs.Common.{◌<◌, ℕ, List, length, get_or, sym, ap, subst, ◌∙◌}
use Rattle.cube_model.specs.Dims.{NamedDimension, NamedMeasure}
use Rattle.cube_facts.proofs.Adding.{if_ok_more}
use Rattle.cube_draft.specs.Kept.{IsMarked}
use Rattle.cube_draft.proofs.Seen.{AreOnce, leaf_columns, is_filled}
use Rattle.cube_draft.proofs.shown.is_shown.Goals as goal

pub returns : goal.returns
returns c = if_ok_more c.has_few_points.result c.has_few_points.ensures (λ few points is bytes shown unmarked true_of. (
    let t = c.args.table.now in
    let s = c.args.dims.now in
    let header = c.as_slice-header.ensures in
    let leaves : AreOnce t.header (λ (d : NamedDimension). d.column) s.dimensions =
    subst (λ (h : List (List ℕ)). AreOnce h (λ (d : NamedDimension). d.column) s.dimensions) header
    (subst (λ (ds : List NamedDimension). AreOnce c.as_slice-header.result.now (λ (d : NamedDimension). d.column) ds) c.dimensions.ensures.dimensions (sym c.leaves_stand_once.ensures ∙ c.if-not-leaves_stand_once.false)) in
    let numbers : AreOnce t.header (λ (m : NamedMeasure). m.column) s.measures =
    subst (λ (h : List (List ℕ)). AreOnce h (λ (m : NamedMeasure). m.column) s.measures) header
    (subst (λ (ms : List NamedMeasure). AreOnce c.as_slice-header.result.now (λ (m : NamedMeasure). m.column) ms) c.measures.ensures.measures (sym c.numbers_stand_once.ensures ∙ c.if-not-numbers_stand_once.false)) in
    let columns = c.as_slice-3.ensures ∙ c.in_ok-places.ensures ∙ ap (λ (h : List (List ℕ)). leaf_columns h s.dimensions) header in
    let marked = subst (λ (ps : List ℕ). (k : ℕ) → k < length ps → (get_or ps k 0 < length t.members.items) × IsMarked t.members.items (get_or ps k 0)) (c.as_slice-2.ensures ∙ sym c.as_slice-3.ensures)
    (subst (λ members. (k : ℕ) → k < length c.as_slice-2.result.now → (get_or c.as_slice-2.result.now k 0 < length members) × IsMarked members (get_or c.as_slice-2.result.now k 0)) c.as_slice.ensures.value (c.are_marked.ensures c.if-not-are_marked.false)) in
    is_filled s bytes t.header t.members.items t.fields.items t.rows t.decimals.items c.as_slice-3.result.now c.dimensions.ensures.rules (shown c.if-not-table.false) unmarked true_of leaves numbers (c.are_measured.ensures c.if-not-are_measured.false) columns marked (points is)))
