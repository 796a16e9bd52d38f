use Rattle.std.proofs.Common.{sym, ◌∙◌}
use Rattle.cube_source.specs.Blocks.{bare}
use Rattle.cube_source.proofs.Fewer.{counted, few_some, few_none}
use Rattle.cube_carrying.proofs.slices.are_few.Goals as goal

pub returns-in-None : goal.returns-in-None
returns-in-None c = few_none (bare c.args.core.now) c.args.fewer c.args.row.now.places c.in-None.is

pub returns-in-Some : goal.returns-in-Some
returns-in-Some c = few_some (bare c.args.core.now) c.args.fewer c.in-Some.number c.count_row.result c.args.row.now.places c.in-Some.is (counted (bare c.args.core.now) c.args.row.now.places c.count_row.result c.count_row.ensures.count)
