use Rattle.std.proofs.Common.{◌∙◌, ap, length, arith}
use Rattle.cube_model.specs.Dims.{ancestor_names}
use Rattle.cube_model.proofs.DimsFacts.{length-ancestor_names, members_read}
use Rattle.cube_model.proofs.dims.Dimension.members.Goals as goal

pub bounds-as_slice-level : goal.bounds-as_slice-level
bounds-as_slice-level c =
    let kept = c.as_slice.ensures ∙ c.self.invariant.1 ∙ ap ancestor_names c.self.view_is in
    let a = ap length kept in
    let b = length-ancestor_names c.args.self.now in
    omega (arith, a, b, c.requires)

pub returns-clause-members : goal.returns-clause-members
returns-clause-members c =
    let kept = c.as_slice.ensures ∙ c.self.invariant.1 ∙ ap ancestor_names c.self.view_is in
    members_read c.args.self.now c.as_slice.result.now c.args.level c.index-as_slice-level.result kept c.requires c.index-as_slice-level.is
