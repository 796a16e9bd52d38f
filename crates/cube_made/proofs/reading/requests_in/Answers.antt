use Rattle.std.specs.Prelude.{IsOk}
use Rattle.std.proofs.Common.{◌≡◌, ℕ, List, true, sym, ap, ◌∙◌, subst}
use Rattle.cube_model.specs.declared.request.Request.{Request}
use Rattle.cube_query.specs.Canonical.{is_request}
use Rattle.cube_query.specs.Faults.{request_of}
use Rattle.cube_made.proofs.Steps.{all_more, read_more, readable}
use Rattle.cube_made.proofs.reading.requests_in.Goals as goal

pub request_in-requires : goal.request_in-requires
request_in-requires c =
    let f = request_of c.args.dims.now in
    subst (λ (text : List ℕ). IsOk (f text)) (sym c.as_slice.ensures) (readable f c.args.texts.now c.texts.text-index c.text-item.result c.texts-test.true c.text-item.is c.requires.0 c.requires.1)

pub texts-preserved : goal.texts-preserved
texts-preserved c =
    let f = request_of c.args.dims.now in
    let r = c.in_ok-request_in.field-0 in
    let new = c.push.new.self in
    record {
      read = read_more f c.args.texts.now c.texts.text-index c.text-item.result c.texts.requests new r c.texts-test.true c.text-item.is c.texts.invariant.read (ap f (sym c.as_slice.ensures) ∙ c.in_ok-request_in.ensures.request) c.in_ok-push.ensures.ok;
      valid = all_more (λ (x : Request). is_request c.args.dims.now x ≡ true) c.texts.requests new r c.in_ok-push.ensures.ok c.texts.invariant.valid c.in_ok-request_in.ensures.valid;
    }
