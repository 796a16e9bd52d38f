use Rattle.std.proofs.Common.{◌≡◌, sym, ap, ◌∙◌, subst, List}
use Rattle.std.proofs.lemmas.Result.{IfOk-weaker}
use Rattle.cube_model.specs.Cores.{world}
use Rattle.cube_audit.specs.Audits.{asked_by, inexact_from}
use Rattle.cube_audit.specs.Examining.{examined_as}
use Rattle.cube_audit.specs.declared.exact.Examined.TheVariants as outcome
use Rattle.cube_audit.specs.declared.transcript.TranscriptItem.{TranscriptItem}
use Rattle.cube_audit.proofs.Told.{told_inexact, told_few, told_valid, told_kept}
use Rattle.cube_audit.proofs.auditing.audit_items.Goals as goal

pub keep_all-requires-clause-asked : goal.keep_all-requires-clause-asked
keep_all-requires-clause-asked g c =
    let core = c.args.core.now in
    let p = c.args.policy.now in
    let items = c.args.items.now in
    let said = subst (λ (is : List TranscriptItem). c.in_ok-item.field-0 ≡ examined_as (inexact_from core.dims (world core p) 1 is) (asked_by core.dims is)) c.as_slice.ensures (c.in_ok-item.ensures p) in
    let told : outcome.Exact c.as_slice-requests.result.now ≡ examined_as (inexact_from core.dims (world core p) 1 items) (asked_by core.dims items) = ap outcome.Exact c.as_slice-requests.ensures ∙ sym c.in-Exact.is ∙ said in
    record { policy = c.requires.policy; requests = told_valid core p items c.as_slice-requests.result.now told c.dims-rules.ensures.rules c.requires.policy }

pub keep_all-requires-clause-few : goal.keep_all-requires-clause-few
keep_all-requires-clause-few g c =
    let core = c.args.core.now in
    let p = c.args.policy.now in
    let items = c.args.items.now in
    let said = subst (λ (is : List TranscriptItem). c.in_ok-item.field-0 ≡ examined_as (inexact_from core.dims (world core p) 1 is) (asked_by core.dims is)) c.as_slice.ensures (c.in_ok-item.ensures p) in
    let told : outcome.Exact c.as_slice-requests.result.now ≡ examined_as (inexact_from core.dims (world core p) 1 items) (asked_by core.dims items) = ap outcome.Exact c.as_slice-requests.ensures ∙ sym c.in-Exact.is ∙ said in
    told_few core p items c.as_slice-requests.result.now told c.requires.few

pub returns-in-Inexact : goal.returns-in-Inexact
returns-in-Inexact g c =
    let core = c.args.core.now in
    let p = c.args.policy.now in
    let said = subst (λ (is : List TranscriptItem). c.in_ok-item.field-0 ≡ examined_as (inexact_from core.dims (world core p) 1 is) (asked_by core.dims is)) c.as_slice.ensures (c.in_ok-item.ensures p) in
    told_inexact core p c.args.items.now c.in-Inexact.item (sym c.in-Inexact.is ∙ said)

pub returns-in-Exact : goal.returns-in-Exact
returns-in-Exact g c =
    let core = c.args.core.now in
    let p = c.args.policy.now in
    let items = c.args.items.now in
    let said = subst (λ (is : List TranscriptItem). c.in_ok-item.field-0 ≡ examined_as (inexact_from core.dims (world core p) 1 is) (asked_by core.dims is)) c.as_slice.ensures (c.in_ok-item.ensures p) in
    let told : outcome.Exact c.as_slice-requests.result.now ≡ examined_as (inexact_from core.dims (world core p) 1 items) (asked_by core.dims items) = ap outcome.Exact c.as_slice-requests.ensures ∙ sym c.in-Exact.is ∙ said in
    IfOk-weaker c.keep_all.result _ _ (λ kept is. is ∙ told_kept core p items c.as_slice-requests.result.now told) c.keep_all.ensures
