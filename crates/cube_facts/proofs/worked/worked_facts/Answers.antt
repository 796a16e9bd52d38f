use Rattle.std.proofs.Common.{refl}
use Rattle.std.specs.Fmt.{digits}
use Rattle.csv.specs.Machine.{next_record}
use Rattle.csv.specs.Reading.{records_from, strip_bom}
use Rattle.csv.specs.Records.{field_at}
use Rattle.cube_facts.specs.FactFile.{facts_of}
use Rattle.cube_facts.proofs.worked.worked_facts.Goals as goal

pub returns-clause-read : goal.returns-clause-read
unfolding digits facts_of records_from next_record strip_bom field_at
returns-clause-read c = refl

pub returns-clause-cancelled : goal.returns-clause-cancelled
unfolding digits facts_of records_from next_record strip_bom field_at
returns-clause-cancelled c = refl

pub returns-clause-empty : goal.returns-clause-empty
unfolding digits facts_of records_from next_record strip_bom field_at
returns-clause-empty c = refl

pub returns-clause-missing : goal.returns-clause-missing
unfolding digits facts_of records_from next_record strip_bom field_at
returns-clause-missing c = refl

pub returns-clause-twice : goal.returns-clause-twice
unfolding digits facts_of records_from next_record strip_bom field_at
returns-clause-twice c = refl

pub returns-clause-fields : goal.returns-clause-fields
unfolding digits facts_of records_from next_record strip_bom field_at
returns-clause-fields c = refl

pub returns-clause-header_order : goal.returns-clause-header_order
unfolding digits facts_of records_from next_record strip_bom field_at
returns-clause-header_order c = refl

pub returns-clause-member : goal.returns-clause-member
unfolding digits facts_of records_from next_record strip_bom field_at
returns-clause-member c = refl

pub returns-clause-fine : goal.returns-clause-fine
unfolding digits facts_of records_from next_record strip_bom field_at
returns-clause-fine c = refl

pub returns-clause-large : goal.returns-clause-large
unfolding digits facts_of records_from next_record strip_bom field_at
returns-clause-large c = refl

pub returns-clause-marked : goal.returns-clause-marked
unfolding digits facts_of records_from next_record strip_bom field_at
returns-clause-marked c = refl
