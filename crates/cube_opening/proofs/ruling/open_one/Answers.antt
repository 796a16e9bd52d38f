use Rattle.std.proofs.Common.{◌∙◌, List, refl, subst, arith}
use Rattle.cube_groups.specs.declared.group.GroupFile.{GroupFile}
use Rattle.cube_opening.specs.Ruling.{one_group}
use Rattle.cube_opening.specs.declared.ruling.RuledGroup.{RuledGroup}
use Rattle.cube_opening.proofs.Behind.{if_ok}
use Rattle.cube_opening.proofs.Groups.{Read, read_groups}
use Rattle.cube_opening.proofs.ruling.open_one.Goals as goal

pub returns-clause-rules : goal.returns-clause-rules
returns-clause-rules g c =
    let s = c.args.dims.now in
    let files = (g.F.Folder.state c.args.files.now).files in
    let fs = one_group c.args.policy.now in
    if_ok _ _ c.open_rest.result (λ o h. read_groups s files fs o.value (omega arith) (omega arith) (omega arith, tt) (refl, tt)
    (subst (λ (gs : List RuledGroup). Read s files fs gs o.value) c.new.ensures (subst (λ (l : List GroupFile). Read s files l c.new.result o.value) (c.as_slice.ensures ∙ c.in-Ok.ensures) h))) c.open_rest.ensures.ok
