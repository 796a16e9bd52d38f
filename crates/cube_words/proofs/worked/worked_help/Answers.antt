use Rattle.std.proofs.Common.{refl}
use Rattle.cube_words.proofs.worked.worked_help.Goals as goal

pub returns-clause-letter : goal.returns-clause-letter
returns-clause-letter c = refl

pub returns-clause-word : goal.returns-clause-word
returns-clause-word c = refl

pub returns-clause-neither : goal.returns-clause-neither
returns-clause-neither c = refl

pub returns-clause-alone : goal.returns-clause-alone
returns-clause-alone c = refl

pub returns-clause-before : goal.returns-clause-before
returns-clause-before c = refl

pub returns-clause-behind : goal.returns-clause-behind
returns-clause-behind c = refl

pub returns-clause-no_command : goal.returns-clause-no_command
returns-clause-no_command c = refl

pub returns-clause-two_commands : goal.returns-clause-two_commands
returns-clause-two_commands c = refl

pub returns-clause-no_help : goal.returns-clause-no_help
returns-clause-no_help c = refl
