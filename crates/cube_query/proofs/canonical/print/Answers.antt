use Rattle.cube_query.proofs.Back.{reads_back}
use Rattle.cube_query.proofs.Prints.{request_fits}
use Rattle.cube_query.proofs.canonical.print.Goals as goal

pub write-requires-clause-there : goal.write-requires-clause-there
write-requires-clause-there c = (request_fits c.args.dims.now c.args.request.now c.requires).there

pub write-requires-clause-levels : goal.write-requires-clause-levels
write-requires-clause-levels c = (request_fits c.args.dims.now c.args.request.now c.requires).group_length

pub write-requires-clause-picks : goal.write-requires-clause-picks
write-requires-clause-picks c = (request_fits c.args.dims.now c.args.request.now c.requires).picks_length

pub write-requires-clause-fit : goal.write-requires-clause-fit
write-requires-clause-fit c = (request_fits c.args.dims.now c.args.request.now c.requires).picks

pub returns-clause-back : goal.returns-clause-back
returns-clause-back c = let text = c.in_ok-text.ensures in rw text (reads_back c.args.dims.now c.args.request.now c.dimensions-rules.ensures.rules c.requires)
