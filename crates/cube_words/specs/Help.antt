-- How the commands are used, by what a person is doing.
use Rattle.std.specs.Prelude.{ℕ, List, [], ◌∷◌, ◌++◌, codes, flat_map, Option, Some, None}
use Rattle.cube_words.specs.declared.words.Command.{Command}
use Rattle.cube_words.specs.declared.words.Command.TheVariants as command
use Rattle.cube_words.specs.declared.words.Setting.{Setting}
use Rattle.cube_words.specs.declared.words.Setting.TheVariants as setting

abbrev pub serve_usage : List ℕ
serve_usage = codes "cube serve --dims FILE --facts FILE (--policy FILE | --groups FILE) --journal FILE --address ADDRESS [--requests N] [--idle SECONDS]\n    answers asks over HTTP, until it is stopped; closes a connection that is still for so long\n"

abbrev pub replay_usage : List ℕ
replay_usage = codes "cube replay --dims FILE --facts FILE (--policy FILE | --groups FILE) --journal FILE --script FILE [--requests N]\n    plays a script of connections and writes what was sent\n"

-- how a command is used, and what it does
abbrev pub usage_of : Command → List ℕ
usage_of command.Help = codes "cube --help, cube COMMAND --help, cube help COMMAND\n    prints this text, or the part of it on a command; `-h` and `help` stand for `--help`\n"
usage_of command.Version = codes "cube --version\n    prints the version\n"
usage_of command.Draft = codes "cube draft --facts FILE [--policy] [--levels NAME=COLUMN,COLUMN].. [--members COLUMN].. [--skip COLUMN]..\n    prints a dimension file for a fact file; with --policy a policy file for it, which protects every nonempty cell\n"
usage_of command.Sum = codes "cube sum --facts FILE\n    answers each line of the input by a sum over the file\n"
usage_of command.Check = codes "cube check --dims FILE --facts FILE --policy FILE\n    says what the files hold\n"
usage_of command.Ask = codes "cube ask --dims FILE --facts FILE --policy FILE --journal FILE [--requests N]\n    answers each line of the input as a query, or as `shape` or `witness CELL`\n"
usage_of command.Witness = codes "cube witness --dims FILE --facts FILE --policy FILE --journal FILE --cell CELL\n    prints the changes that hide a cell\n"
usage_of command.Twin = codes "cube twin --dims FILE --facts FILE --policy FILE --journal FILE --cell CELL\n    prints the fact file of the cube with these changes\n"
usage_of command.Compact = codes "cube compact --dims FILE --facts FILE --policy FILE --journal FILE [--out FILE]\n    prints the journal written down as what it holds, or puts it into a file, whole\n"
usage_of command.Carry = codes "cube carry --dims FILE --facts FILE --policy FILE --from-dims FILE --from-facts FILE --from-policy FILE --from-journal FILE [--out FILE]\n    prints the journal of an older cube written down for one that continues it, with a month more for instance, or puts it into a file,\n    whole\n"
usage_of command.Why = codes "cube why --dims FILE --facts FILE --policy FILE --journal FILE --query QUERY [--reason FILE]\n    prints why a query is refused, for anybody to check, or says whether a file is such a reason\n"
usage_of command.Audit = codes "cube audit --dims FILE --facts FILE --policy FILE --transcript FILE\n    says whether what some server replied is exact and keeps each protected cell hidden\n"
usage_of command.Advise = codes "cube advise --dims FILE --facts FILE --policy FILE [--journal FILE] [--workload FILE]\n    prints what can be released, and what becomes of each query of a file\n"
usage_of command.Serve = serve_usage
usage_of command.ServeGroups = serve_usage
usage_of command.Replay = replay_usage
usage_of command.ReplayGroups = replay_usage
usage_of command.Demo = codes "cube demo --number N --size S\n    makes a cube of 20,000 S facts and says how 200 S queries on it are judged\n"

-- what is said of an option beside its commands
abbrev pub note_of : Setting → List ℕ
note_of setting.Groups = codes "--groups FILE: in the place of one policy groups of users, each with a policy and a journal of its own,\n    asked under /g/NAME/. Group k from 0 is kept in the file JOURNAL.k, the first in JOURNAL\n"
note_of setting.Requests = codes "--requests N: answers at most N asks, refused ones too, and ends behind them with status 10\n    1 to 16777216; without it 1000000, under serve 16777216. What was answered is in the journal\n"
note_of setting.Idle = codes "--idle SECONDS: 0 to 86400, where 0 is for ever; without it 60\n"
note_of setting.Levels = codes "--levels NAME=COLUMN,COLUMN: these columns are the levels of one dimension of that name, the finest first;\n    without it a column that another one determines is a level above it\n"
note_of setting.Members = codes "--members COLUMN: the numbers in this column, as ages or years, are members and no measure\n"
note_of setting.Skip = codes "--skip COLUMN: this column is left out: facts are added up over it\n"
note_of other = []

-- the options of a command of which something is said
abbrev pub noted : Command → List Setting
noted command.Draft = setting.Levels ∷ setting.Members ∷ setting.Skip ∷ []
noted command.Ask = setting.Requests ∷ []
noted command.Serve = setting.Groups ∷ setting.Requests ∷ setting.Idle ∷ []
noted command.ServeGroups = setting.Groups ∷ setting.Requests ∷ setting.Idle ∷ []
noted command.Replay = setting.Groups ∷ setting.Requests ∷ []
noted command.ReplayGroups = setting.Groups ∷ setting.Requests ∷ []
noted other = []

-- all of these
abbrev pub all_noted : List Setting
all_noted = setting.Groups ∷ setting.Requests ∷ setting.Idle ∷ setting.Levels ∷ setting.Members ∷ setting.Skip ∷ []

-- what a person is doing, and the commands for it
abbrev pub group_text : List ℕ → List Command → List ℕ
group_text heading commands = heading ++ flat_map usage_of commands

-- the whole help: the commands in groups, then the options of which something is said
abbrev pub help_text : List ℕ
help_text =
    group_text (codes "Load and check:\n") (command.Draft ∷ command.Check ∷ command.Sum ∷ []) ++
    group_text (codes "Ask and serve:\n") (command.Ask ∷ command.Serve ∷ command.Replay ∷ []) ++
    group_text (codes "Look behind:\n") (command.Advise ∷ command.Why ∷ command.Witness ∷ command.Twin ∷ command.Audit ∷ []) ++
    group_text (codes "Keep:\n") (command.Compact ∷ command.Carry ∷ []) ++
    group_text (codes "Else:\n") (command.Demo ∷ command.Help ∷ command.Version ∷ []) ++
    flat_map note_of all_noted

-- the part of it on a command
abbrev pub help_on : Command → List ℕ
help_on c = usage_of c ++ flat_map note_of (noted c)

-- what is said to who asks for help, on a command where one is named
abbrev pub help_said : Option Command → List ℕ
help_said None = help_text
help_said (Some c) = help_on c
