use Rattle.std.proofs.Common.{List, [], ◌∷◌, ◌≡◌, ◌-◌, length, inr, take, drop, subst}
use Rattle.cube_groups.specs.declared.group.GroupFile.{GroupFile}
use Rattle.cube_io.specs.Seen.{seen}
use Rattle.cube_opening.specs.Opening.{AskedFor}
use Rattle.cube_opening.specs.Ruling.{EndsAtOne, policy_names}
use Rattle.cube_opening.proofs.Behind.{asked_then, if_err, on_two}
use Rattle.cube_opening.proofs.Groups.{one_behind, front_of}
use Rattle.cube_opening.proofs.ruling.+open_rest.Goals as goal

pub returns-in-Ok-push-clause-err : goal.returns-in-Ok-push-clause-err
returns-in-Ok-push-clause-err g t c =
    let f = c.group-item.result in
    let rest = take (length c.args.list.now - 1) (drop 1 c.args.list.now) in
    let s = c.args.dims.now in
    let x = c.in-Ok.ensures in
    let whole : f ∷ rest ≡ c.args.list.now = front_of c.args.list.now f c.in-len1-up.len_at_least c.group-item.is in
    if_err _ _ c.open_rest.result (λ r h. subst (λ (fs : List GroupFile). EndsAtOne s [] fs (seen g.F.Folder.state c.args.files.now c.open_rest.new.files) r) whole
    (inr ((c.in-Ok.opened.value.policy, x.ok.2), one_behind g.F.Folder.state c.args.files.now c.open_group.new.files c.open_rest.new.files r (f.policy ∷ []) x.asks x.reads.files x.reads.steady s [] rest h))) c.open_rest.ensures.err

pub returns-in-Ok-push-clause-asks : goal.returns-in-Ok-push-clause-asks
returns-in-Ok-push-clause-asks g t c =
    let f = c.group-item.result in
    let rest = take (length c.args.list.now - 1) (drop 1 c.args.list.now) in
    let whole : f ∷ rest ≡ c.args.list.now = front_of c.args.list.now f c.in-len1-up.len_at_least c.group-item.is in
    on_two _ _ _ c.open_rest.result (λ h k. subst (λ (fs : List GroupFile). AskedFor (policy_names fs) (seen g.F.Folder.state c.args.files.now c.open_rest.new.files)) whole
    (asked_then (f.policy ∷ []) (policy_names rest) g.F.Folder.state c.args.files.now c.open_group.new.files c.open_rest.new.files c.in-Ok.ensures.asks h)) c.open_rest.ensures.asks c.open_rest.ensures.asks
