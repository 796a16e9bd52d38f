use Rattle.std.proofs.Common.{◌∙◌, ap}
use Rattle.cube_model.specs.declared.request.Request.{Request}
use Rattle.cube_model.specs.Dims.{plains}
use Rattle.cube_model.specs.Requests.{fits, rows}
use Rattle.cube_source.specs.Blocks.{bare, no_policy}
use Rattle.cube_source.proofs.Keys.{whole_fits}
use Rattle.cube_reason.proofs.blocks.rows_at.Goals as goal

pub rows-requires : goal.rows-requires
rows-requires c =
    ap (λ (r : Request). fits (plains c.args.core.now.dims) r.group r.picks) c.in_ok-request.ensures
    ∙ whole_fits (plains c.args.core.now.dims) c.args.levels.now c.requires

pub returns : goal.returns
returns c = record {
  rows = c.in_ok-rows.ensures.rows no_policy ∙ ap (rows (bare c.args.core.now)) c.in_ok-request.ensures;
  places = c.in_ok-rows.ensures.places;
}
