use Rattle.cube_text.proofs.NameLaws.{name_texts, names_read}
use Rattle.cube_text.proofs.names.names_read_back.Goals as goal

pub returns-clause-texts : goal.returns-clause-texts
returns-clause-texts c = name_texts

pub returns-clause-back : goal.returns-clause-back
returns-clause-back c = names_read
