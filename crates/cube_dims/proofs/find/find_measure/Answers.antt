use Rattle.std.proofs.Common.{sym, ◌∙◌, ap, map}
use Rattle.std.specs.List.{position}
use Rattle.std.specs.Str.{bytes_eq}
use Rattle.cube_model.proofs.Parts.{position-map}
use Rattle.cube_dims.proofs.find.find_measure.Goals as goal

pub returns-in-Some : goal.returns-in-Some
returns-in-Some c =
    c.in-Some.ensures
    ∙ sym (position-map (λ d. d.name) (bytes_eq c.args.name.now) c.measures.result.now)
    ∙ ap (λ ds. position (bytes_eq c.args.name.now) (map (λ d. d.name) ds)) c.measures.ensures.measures

pub returns-in-None : goal.returns-in-None
returns-in-None c =
    c.in-None.ensures
    ∙ sym (position-map (λ d. d.name) (bytes_eq c.args.name.now) c.measures.result.now)
    ∙ ap (λ ds. position (bytes_eq c.args.name.now) (map (λ d. d.name) ds)) c.measures.ensures.measures
