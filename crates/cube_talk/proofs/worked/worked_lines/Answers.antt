use Rattle.std.proofs.Common.{refl}
use Rattle.cube_talk.proofs.worked.worked_lines.Goals as goal

pub returns-clause-shape : goal.returns-clause-shape
returns-clause-shape c = refl

pub returns-clause-longer : goal.returns-clause-longer
returns-clause-longer c = refl

pub returns-clause-witness : goal.returns-clause-witness
returns-clause-witness c = refl

pub returns-clause-nothing : goal.returns-clause-nothing
returns-clause-nothing c = refl

pub returns-clause-no_blank : goal.returns-clause-no_blank
returns-clause-no_blank c = refl

pub returns-clause-query : goal.returns-clause-query
returns-clause-query c = refl
