use Rattle.std.proofs.Common.{[], get_or, ap, ltb, ◌∙◌, ◌≤◌, ℕ, length, arith}
use Rattle.cube_model.proofs.DimsFacts.{lt-place_of}
use Rattle.cube_dims.proofs.paths.stood_before.Goals as goal

pub returns : goal.returns
returns c =
    let names = c.args.names.now in
    let within : c.args.place ≤ length names = omega arith in
    ap (λ (n : ℕ). ltb n c.args.place) c.first_alike.ensures ∙ lt-place_of (get_or names c.args.place []) names c.args.place within
