use Rattle.cube_query.proofs.Back.{reads_back}
use Rattle.cube_query.proofs.Valid.{read_is_valid}
use Rattle.cube_query.proofs.canonical_texts_read_back.Goals as goal

pub returns-clause-back : goal.returns-clause-back
returns-clause-back c = reads_back

pub returns-clause-valid : goal.returns-clause-valid
returns-clause-valid c = read_is_valid
