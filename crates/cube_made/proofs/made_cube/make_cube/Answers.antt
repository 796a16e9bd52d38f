use Rattle.std.proofs.Common.{◌≡◌, ◌∙◌}
use Rattle.cube_made.specs.Laws.{IsSize}
use Rattle.cube_made.specs.Values.{dims_said}
use Rattle.cube_made.proofs.Accepted.{dims_accepted, dims_are, facts_accepted, policy_accepted, queries_accepted}
use Rattle.cube_made.proofs.made_cube.make_cube.Goals as goal

pub dims_in-requires : goal.dims_in-requires
dims_in-requires c = dims_accepted c.args.number c.args.size (c.requires.some, c.requires.few) c.as_slice.result.now (c.as_slice.ensures ∙ c.in_ok-made.ensures.dims)

pub core_in-requires : goal.core_in-requires
core_in-requires c =
    let size : IsSize c.args.size = (c.requires.some, c.requires.few) in
    facts_accepted c.args.number c.args.size size c.in_ok-dims.dims c.as_slice-2.result.now
    (dims_are c.args.number c.args.size size c.as_slice.result.now c.in_ok-dims.dims (c.as_slice.ensures ∙ c.in_ok-made.ensures.dims) c.in_ok-dims.ensures) (c.as_slice-2.ensures ∙ c.in_ok-made.ensures.facts)

pub policy_in-requires : goal.policy_in-requires
policy_in-requires c =
    let size : IsSize c.args.size = (c.requires.some, c.requires.few) in
    let said : c.in_ok-dims.dims ≡ dims_said c.args.size = dims_are c.args.number c.args.size size c.as_slice.result.now c.in_ok-dims.dims (c.as_slice.ensures ∙ c.in_ok-made.ensures.dims) c.in_ok-dims.ensures in
    policy_accepted c.args.number c.args.size size c.dims.result.now c.as_slice-3.result.now (c.dims.ensures.dims ∙ c.in_ok-core.ensures.dims ∙ said) (c.as_slice-3.ensures ∙ c.in_ok-made.ensures.policy)

pub requests_in-requires : goal.requests_in-requires
requests_in-requires c =
    let size : IsSize c.args.size = (c.requires.some, c.requires.few) in
    let said : c.in_ok-dims.dims ≡ dims_said c.args.size = dims_are c.args.number c.args.size size c.as_slice.result.now c.in_ok-dims.dims (c.as_slice.ensures ∙ c.in_ok-made.ensures.dims) c.in_ok-dims.ensures in
    queries_accepted c.args.number c.args.size size c.dims-2.result.now c.as_slice-4.result.now (c.dims-2.ensures.dims ∙ c.in_ok-core.ensures.dims ∙ said) (c.as_slice-4.ensures ∙ c.in_ok-made.ensures.queries)
