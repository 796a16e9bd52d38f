use Rattle.std.proofs.Common.{◌∙◌, [], ◌∷◌, inr}
use Rattle.cube_opening.specs.Opening.{facts_said}
use Rattle.cube_opening.proofs.Behind.{asked_then, ends_behind, makes_of, if_two, if_err, on_two}
use Rattle.cube_opening.proofs.opening.open_core.Goals as goal

pub returns-clause-ok : goal.returns-clause-ok
returns-clause-ok g c =
    let tells = g.F.Folder.state in
    let old = c.args.files.now in
    let mid = c.open_dims.new.files in
    let s = c.in-Ok.opened.value in
    let x = c.in-Ok.ensures in
    if_two _ _ _ c.open_facts.result (λ o h k. (h.0, makes_of c.args.dims_name.now c.args.facts_name.now o.value s (tells old).files (tells mid).files x.reads.files k x.ok.1 h.1)) c.open_facts.ensures.ok c.open_facts.ensures.dims

pub returns-clause-err : goal.returns-clause-err
returns-clause-err g c =
    let dims = c.args.dims_name.now in
    let s = c.in-Ok.opened.value in
    let x = c.in-Ok.ensures in
    if_err _ _ c.open_facts.result (λ r h. inr (s, x.ok.1, ends_behind (dims ∷ []) (facts_said s) c.args.facts_name.now g.F.Folder.state c.args.files.now c.open_dims.new.files c.open_facts.new.files r x.asks x.reads.files x.reads.steady h)) c.open_facts.ensures.err

pub returns-clause-behind : goal.returns-clause-behind
returns-clause-behind g c =
    let dims = c.args.dims_name.now in
    let facts = c.args.facts_name.now in
    let x = c.in-Ok.ensures in
    on_two _ _ _ c.open_facts.result (λ h k. record { asked = asked_then (dims ∷ []) (facts ∷ []) g.F.Folder.state c.args.files.now c.open_dims.new.files c.open_facts.new.files x.asks h; steady = k ∙ x.reads.steady }) c.open_facts.ensures.asks c.open_facts.ensures.reads.steady
