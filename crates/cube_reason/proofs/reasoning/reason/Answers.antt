use Rattle.cube_reason.proofs.Judged.{judged_case}
use Rattle.cube_reason.proofs.reasoning.reason.Goals as goal

pub find_reason-requires-clause-case : goal.find_reason-requires-clause-case
find_reason-requires-clause-case c = judged_case _ c.requires.policy c.requires.admissible c.requires.valid

pub find_reason-requires-clause-judged : goal.find_reason-requires-clause-judged
find_reason-requires-clause-judged c = record { admissible = c.requires.admissible; verdict = c.requires.verdict }
