use Rattle.std.specs.List.{flat_map}
use Rattle.std.proofs.Common.{◌≡◌, ◌*◌, ◌++◌}
use Rattle.std.specs.Prelude.{codes}
use Rattle.cube_model.specs.Cubes.{count_from}
use Rattle.cube_gen.specs.Draws.{seed}
use Rattle.cube_gen.specs.Made.{made_fact}
use Rattle.cube_gen.proofs.facts.make_facts.Given as goal

abbrev pub invariant-facts : goal.invariant-facts
invariant-facts l = record {
  text : l.text ≡ codes "branch,month,grade,pay,hours,bonus\n" ++ flat_map (made_fact l.fn.draws l.size) (count_from 0 l.fact);
  draws : l.draws ≡ seed l.fn.draws (3 * l.fact);
}
