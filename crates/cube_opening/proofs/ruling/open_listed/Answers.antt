use Rattle.std.proofs.Common.{[], ◌∷◌, List, inr, subst}
use Rattle.cube_groups.specs.declared.group.GroupFile.{GroupFile}
use Rattle.cube_io.specs.Seen.{seen}
use Rattle.cube_opening.specs.Ruling.{EndsAtOne}
use Rattle.cube_opening.specs.declared.ruling.RuledGroup.{RuledGroup}
use Rattle.cube_opening.proofs.Behind.{if_ok, if_err}
use Rattle.cube_opening.proofs.Groups.{Read, one_behind, read_groups, short_groups}
use Rattle.cube_opening.proofs.ruling.open_listed.Goals as goal

pub returns-clause-rules : goal.returns-clause-rules
returns-clause-rules g c =
    let s = c.args.dims.now in
    let files = (g.F.Folder.state c.open_list.new.files).files in
    let fs = c.in-Ok.opened.value in
    let said = c.in-Ok.ensures.rules in
    if_ok _ _ c.open_rest.result (λ o h. read_groups s files fs o.value said.some said.few (short_groups fs said) said.new_names
    (subst (λ (gs : List RuledGroup). Read s files fs gs o.value) c.new.ensures (subst (λ (l : List GroupFile). Read s files l c.new.result o.value) c.as_slice.ensures h))) c.open_rest.ensures.ok

pub returns-clause-err : goal.returns-clause-err
returns-clause-err g c =
    let s = c.args.dims.now in
    let tells = g.F.Folder.state in
    let mid = c.open_list.new.files in
    let new = c.open_rest.new.files in
    let fs = c.in-Ok.opened.value in
    let x = c.in-Ok.ensures in
    if_err _ _ c.open_rest.result (λ r h. inr (
      fs,
      x.ok.1,
      one_behind tells c.args.files.now mid new r (c.args.name.now ∷ []) x.asks x.reads.files x.reads.steady s [] fs
          (subst (λ (l : List GroupFile). EndsAtOne s [] l (seen tells mid new) r) c.as_slice.ensures h),
    )) c.open_rest.ensures.err
