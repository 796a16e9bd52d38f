use Rattle.std.specs.List.{list_any}
use Rattle.std.specs.Option.{option_map}
use Rattle.std.proofs.Common.{◌≡◌, ℕ, not, ◌&&◌, find, List, length, Option, sym, ap, ap₂, ◌∙◌, subst}
use Rattle.std.proofs.lemmas.Result.{IfOk-weaker}
use Rattle.cube_model.specs.declared.answer.Row.{Row}
use Rattle.cube_model.specs.declared.cell.Cell.{Cell}
use Rattle.cube_model.specs.Cubes.{places}
use Rattle.cube_model.specs.Dims.{Dims}
use Rattle.cube_model.specs.Protection.{touched}
use Rattle.cube_source.specs.Blocks.{bare, row_cell, AreBlocks}
use Rattle.cube_source.specs.Few.{guards_row}
use Rattle.cube_carry.specs.Names.{carried_levels}
use Rattle.cube_carrying.specs.Exposed.{is_exposed_at}
use Rattle.cube_carrying.specs.KeptCells as said
use Rattle.cube_carrying.proofs.Walked.{first_row, none_at}
use Rattle.cube_carrying.proofs.unkept.unkept_at.Goals as goal

pub returns-then-not-is_exposed_somewhere : goal.returns-then-not-is_exposed_somewhere
returns-then-not-is_exposed_somewhere c =
    let is = c.in_ok-carried.ensures
    ∙ ap₂ (λ (s z : Dims). carried_levels s z c.as_slice.result.now) c.dims.ensures.dims c.dims-2.ensures.dims
    ∙ ap (carried_levels c.args.crossing.now.old.now.dims c.args.crossing.now.new.now.dims) c.as_slice.ensures in
    sym (none_at c.args.crossing.now.old.now c.args.crossing.now.new.now c.args.crossing.now.new_policy.now c.args.crossing.now.measure c.args.crossing.now.places.now c.requires.suffice c.args.object.now c.args.levels.now c.requires.levels
    (ap (λ (ls : List ℕ). list_any (is_exposed_at c.args.crossing.now.old.now c.args.object.now c.args.crossing.now.new.now c.args.crossing.now.new_policy.now.objects c.args.crossing.now.measure ls c.args.crossing.now.places.now) (places (bare c.args.crossing.now.old.now))) (sym is)
    ∙ sym c.is_exposed_somewhere.ensures ∙ c.if-not-is_exposed_somewhere.true))

pub unkept_row-requires-clause-below : goal.unkept_row-requires-clause-below
unkept_row-requires-clause-below c = subst (AreBlocks (length c.args.crossing.now.old.now.shape.points)) (sym c.as_slice-2.ensures) c.in_ok-rows.ensures.places

pub returns : goal.returns
returns c =
    let kept = said.is_kept c.args.crossing.now.old.now c.args.crossing.now.new.now c.args.crossing.now.new_policy.now c.args.crossing.now.measure in
    let found = λ (rows : List Row). option_map (row_cell c.args.levels.now) (find (λ row. guards_row (bare c.args.crossing.now.old.now) c.args.object.now row.places && not (kept (row_cell c.args.levels.now row))) rows) in
    IfOk-weaker c.unkept_row.result (λ (o : Option Cell). o ≡ found c.as_slice-2.result.now) (λ (o : Option Cell). o ≡ find (λ t. not (kept t)) (touched (bare c.args.crossing.now.old.now) c.args.object.now c.args.levels.now))
    (λ o e. e ∙ ap found (c.as_slice-2.ensures ∙ c.in_ok-rows.ensures.rows) ∙ first_row (bare c.args.crossing.now.old.now) c.args.object.now c.args.levels.now kept) c.unkept_row.ensures
