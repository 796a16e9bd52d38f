use Rattle.std.specs.List.{list_all}
use Rattle.std.specs.Prelude.{◌==◌}
use Rattle.std.proofs.Common.{◌≡◌, ℕ, List, length, filter, get_or, sym, ap, ◌∙◌, subst}
use Rattle.cube_model.specs.declared.answer.Row.{Row}
use Rattle.cube_model.specs.declared.request.Request.{Request}
use Rattle.cube_model.specs.declared.shape.Shape.{Shape}
use Rattle.cube_model.specs.Cores.{shown}
use Rattle.cube_model.specs.Dims.{plains}
use Rattle.cube_model.specs.Requests.{fits, rows}
use Rattle.cube_source.specs.Blocks.{AreBlocks}
use Rattle.cube_source.proofs.Keys.{whole_fits}
use Rattle.cube_advise.proofs.Singles.{lone_counted}
use Rattle.cube_advise.proofs.lone.count_lone.Goals as goal

pub rows-requires : goal.rows-requires
rows-requires c =
    ap (λ (r : Request). fits (plains c.args.core.now.dims) r.group r.picks) c.in_ok-request.ensures
    ∙ whole_fits (plains c.args.core.now.dims) c.args.levels.now c.requires

pub count_single-requires : goal.count_single-requires
count_single-requires c =
    let are : c.as_slice-facts.result.now ≡ c.args.core.now.shape.facts = c.as_slice-facts.ensures ∙ ap (λ (s : Shape). s.facts) c.shape.ensures.shape in
    let size = sym (ap length are ∙ c.shape.ensures.rules.facts) in
    record { rows = subst (λ (n : ℕ). AreBlocks n c.as_slice.result.now) size (subst (AreBlocks (length c.args.core.now.shape.points)) (sym c.as_slice.ensures) c.in_ok-rows.ensures.places) }

pub returns : goal.returns
returns c = λ policy. (
    let count = λ (facts : List ℕ) (rs : List Row). length (filter (λ (row : Row). list_all (λ i. get_or facts i 0 == 1) row.places) rs) in
    let are : c.as_slice-facts.result.now ≡ c.args.core.now.shape.facts = c.as_slice-facts.ensures ∙ ap (λ (s : Shape). s.facts) c.shape.ensures.shape in
    c.count_single.ensures.count
    ∙ ap (λ (fs : List ℕ). count fs c.as_slice.result.now) are
    ∙ ap (λ (rs : List Row). count c.args.core.now.shape.facts rs) (c.as_slice.ensures ∙ c.in_ok-rows.ensures.rows policy ∙ ap (rows (shown c.args.core.now policy)) c.in_ok-request.ensures)
    ∙ lone_counted (shown c.args.core.now policy) c.args.levels.now)
