use Rattle.std.proofs.Common.{filter, take}
use Rattle.std.specs.Option.{option_copied}
use Rattle.cube_model.specs.Cores.{shown}
use Rattle.cube_source.specs.Tables.{TableStands}
use Rattle.cube_advise.specs.Open.{is_open_by}
use Rattle.cube_advise.proofs.Skipping.{Known, is_least}
use Rattle.cube_advise.proofs.finest.open_cuboids.Given as goal

abbrev pub invariant-cuboids : goal.invariant-cuboids
invariant-cuboids l = record {
  stands : TableStands l.sourced.core.now l.sourced.policy.now l.table;
  known : Known (is_least (is_open_by (shown l.sourced.core.now l.sourced.policy.now) (option_copied l.sourced.source) l.sourced.measure) l.levels-items)
      (filter (is_open_by (shown l.sourced.core.now l.sourced.policy.now) (option_copied l.sourced.source) l.sourced.measure) (take l.levels-index l.levels-items)) l.found;
}
