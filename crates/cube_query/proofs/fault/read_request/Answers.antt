use Rattle.cube_query.proofs.Valid.{read_is_valid}
use Rattle.cube_query.proofs.fault.read_request.Goals as goal

pub returns-clause-valid : goal.returns-clause-valid
returns-clause-valid c = read_is_valid c.args.dims.now c.args.text.now c.in_ok-request.request c.dimensions-rules.ensures.rules c.in_ok-request.ensures
