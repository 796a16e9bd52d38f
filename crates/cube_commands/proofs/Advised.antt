-- What is told of an admissible history is as it is said to be.
use Rattle.std.proofs.Common.{List}
use Rattle.cube_model.specs.declared.entry.Entry.{Entry}
use Rattle.cube_model.specs.declared.policy.Policy.{Policy}
use Rattle.cube_model.specs.Cores.{Core, IsCore, shown, world}
use Rattle.cube_model.specs.Policies.{IsPolicy}
use Rattle.cube_model.specs.Verdicts.{IsAdmissible}
use Rattle.cube_model.proofs.Filled.{cores_are_worlds}
use Rattle.cube_advise.proofs.Holdings.{held_links_are_few}
use Rattle.cube_advise.proofs.Opening.{finest_open_are, finest_open_are_answered}
use Rattle.cube_commands.specs.Advising.{IsAdvice}

pub is_advice : (core : Core) (policy : Policy) (h : List Entry) → IsCore core → IsPolicy core.dims policy → IsAdmissible (shown core policy) h → IsAdvice core policy h
is_advice core policy h c p adm = record {
  finest = λ m. finest_open_are (shown core policy) h m;
  answered = λ r m way valid asks room. finest_open_are_answered (world core policy) h r m (cores_are_worlds core policy c p.methods) way adm valid asks room;
  links = λ m way. held_links_are_few (shown core policy) h m way adm;
}
