use Rattle.std.proofs.Common.{◌≡◌, List, ap, ◌∙◌}
use Rattle.std.specs.List.{flat_map}
use Rattle.std.proofs.lemmas.Result.{IfOk-weaker}
use Rattle.cube_model.specs.declared.answer.Row.{Row}
use Rattle.cube_model.specs.declared.link.Link.{Link}
use Rattle.cube_model.specs.Cores.{shown}
use Rattle.cube_model.specs.Links.{linked, links}
use Rattle.cube_model.proofs.Histories.{fits_valid}
use Rattle.cube_reason.proofs.ties.links_of.Goals as goal

pub rows-requires : goal.rows-requires
rows-requires c = fits_valid (shown c.args.core.now c.args.policy.now) c.args.request.now c.requires

pub returns : goal.returns
unfolding links
returns c = IfOk-weaker c.links.result
    (λ (ls : List Link). ls ≡ flat_map (λ (row : Row). linked row.places) c.in_ok-rows.rows)
    (λ (ls : List Link). ls ≡ links (shown c.args.core.now c.args.policy.now) c.args.request.now)
    (λ ls e. e ∙ ap (flat_map (λ (row : Row). linked row.places)) (c.in_ok-rows.ensures.rows c.args.policy.now)) c.links.ensures.links
