-- The words of a command line: a command, and pairs of an option and its value in any order, each option once.
use Rattle.std.specs.Prelude.{◌≡◌, ◌≤◌, ◌==◌, ℕ, ◌+◌, Bool, true, false, not, ◌||◌, ◌&&◌, nat_le, nat_lt, length, slice_index_or, List, [], ◌∷◌, ◌++◌, find, codes, unwrap_or, if◌then◌else◌, Option, Some, None, Result, Ok, Err}
use Rattle.std.specs.List.{list_any}
use Rattle.std.specs.Str.{bytes_eq}
use Rattle.std.specs.Str.Parse.{digits_value}
use Rattle.cube_text.specs.Units.{is_digits}
use Rattle.cube_words.specs.Drafting.{drafted}
use Rattle.cube_words.specs.declared.words.Command.{Command}
use Rattle.cube_words.specs.declared.words.Command.TheVariants as command
use Rattle.cube_opening.specs.declared.cube_files.CubeFiles.{CubeFiles}
use Rattle.cube_opening.specs.declared.cube_files.RuledFiles.{RuledFiles}
use Rattle.cube_opening.specs.declared.cube_files.Rules.{Rules}
use Rattle.cube_opening.specs.declared.cube_files.Rules.TheVariants as rules
use Rattle.cube_words.specs.declared.drafting.Drafting.{Drafting as DraftOrders}
use Rattle.cube_words.specs.declared.ordered.Making.{Making}
use Rattle.cube_words.specs.declared.ordered.Orders.{Orders}
use Rattle.cube_words.specs.declared.ordered.Orders.TheVariants as orders
use Rattle.cube_words.specs.declared.words.TheConstants.{MAX_REQUESTS, USUAL_REQUESTS, MAX_IDLE, USUAL_IDLE, MAX_DIGITS, OVER, MAX_SIZE}
use Rattle.cube_words.specs.declared.words.Setting.{Setting}
use Rattle.cube_words.specs.declared.words.Setting.TheVariants.{Dims, Facts, Policy, Groups, Journal, Cell, Query, Reason, Transcript, Workload, Out, Address, Script, Requests, Idle, Number, Size, Levels, Members, Skip, FromDims, FromFacts, FromPolicy, FromJournal}
use Rattle.cube_words.specs.declared.words.Usage.{Usage}
use Rattle.cube_words.specs.declared.words.Usage.TheVariants.{NoCommand, Wrong, Missing}

abbrev pub command_word : Command → List ℕ
command_word command.Help = codes "--help"
command_word command.Version = codes "--version"
command_word command.Draft = codes "draft"
command_word command.Sum = codes "sum"
command_word command.Check = codes "check"
command_word command.Ask = codes "ask"
command_word command.Witness = codes "witness"
command_word command.Twin = codes "twin"
command_word command.Compact = codes "compact"
command_word command.Carry = codes "carry"
command_word command.Why = codes "why"
command_word command.Audit = codes "audit"
command_word command.Advise = codes "advise"
command_word command.Serve = codes "serve"
command_word command.ServeGroups = codes "serve"
command_word command.Replay = codes "replay"
command_word command.ReplayGroups = codes "replay"
command_word command.Demo = codes "demo"

abbrev pub option_word : Setting → List ℕ
option_word Dims = codes "--dims"
option_word Facts = codes "--facts"
option_word Policy = codes "--policy"
option_word Groups = codes "--groups"
option_word Journal = codes "--journal"
option_word Cell = codes "--cell"
option_word Query = codes "--query"
option_word Reason = codes "--reason"
option_word Transcript = codes "--transcript"
option_word Workload = codes "--workload"
option_word Out = codes "--out"
option_word Address = codes "--address"
option_word Script = codes "--script"
option_word Requests = codes "--requests"
option_word Idle = codes "--idle"
option_word Number = codes "--number"
option_word Size = codes "--size"
option_word Levels = codes "--levels"
option_word Members = codes "--members"
option_word Skip = codes "--skip"
option_word FromDims = codes "--from-dims"
option_word FromFacts = codes "--from-facts"
option_word FromPolicy = codes "--from-policy"
option_word FromJournal = codes "--from-journal"

abbrev pub commands : List Command
commands = command.Help ∷ command.Version ∷ command.Draft ∷ command.Sum ∷ command.Check ∷ command.Ask ∷ command.Witness ∷ command.Twin ∷ command.Compact ∷ command.Carry ∷ command.Why ∷ command.Audit ∷ command.Advise ∷ command.Serve ∷ command.Replay ∷ command.Demo ∷ []

-- the options that a command needs, in the order in which a missing one is named
abbrev pub needed : Command → List Setting
needed command.Help = []
needed command.Version = []
needed command.Draft = Facts ∷ []
needed command.Sum = Facts ∷ []
needed command.Check = Dims ∷ Facts ∷ Policy ∷ []
needed command.Ask = Dims ∷ Facts ∷ Policy ∷ Journal ∷ []
needed command.Witness = Dims ∷ Facts ∷ Policy ∷ Journal ∷ Cell ∷ []
needed command.Twin = Dims ∷ Facts ∷ Policy ∷ Journal ∷ Cell ∷ []
needed command.Compact = Dims ∷ Facts ∷ Policy ∷ Journal ∷ []
needed command.Carry = Dims ∷ Facts ∷ Policy ∷ FromDims ∷ FromFacts ∷ FromPolicy ∷ FromJournal ∷ []
needed command.Why = Dims ∷ Facts ∷ Policy ∷ Journal ∷ Query ∷ []
needed command.Audit = Dims ∷ Facts ∷ Policy ∷ Transcript ∷ []
needed command.Advise = Dims ∷ Facts ∷ Policy ∷ []
needed command.Serve = Dims ∷ Facts ∷ Policy ∷ Journal ∷ Address ∷ []
needed command.ServeGroups = Dims ∷ Facts ∷ Groups ∷ Journal ∷ Address ∷ []
needed command.Replay = Dims ∷ Facts ∷ Policy ∷ Journal ∷ Script ∷ []
needed command.ReplayGroups = Dims ∷ Facts ∷ Groups ∷ Journal ∷ Script ∷ []
needed command.Demo = Number ∷ Size ∷ []

-- the options that it may have
abbrev pub allowed : Command → List Setting
allowed command.Help = []
allowed command.Version = []
allowed command.Draft = Facts ∷ []
allowed command.Sum = Facts ∷ []
allowed command.Check = Dims ∷ Facts ∷ Policy ∷ []
allowed command.Ask = Dims ∷ Facts ∷ Policy ∷ Journal ∷ Requests ∷ []
allowed command.Witness = Dims ∷ Facts ∷ Policy ∷ Journal ∷ Cell ∷ []
allowed command.Twin = Dims ∷ Facts ∷ Policy ∷ Journal ∷ Cell ∷ []
allowed command.Compact = Dims ∷ Facts ∷ Policy ∷ Journal ∷ Out ∷ []
allowed command.Carry = Dims ∷ Facts ∷ Policy ∷ FromDims ∷ FromFacts ∷ FromPolicy ∷ FromJournal ∷ Out ∷ []
allowed command.Why = Dims ∷ Facts ∷ Policy ∷ Journal ∷ Query ∷ Reason ∷ []
allowed command.Audit = Dims ∷ Facts ∷ Policy ∷ Transcript ∷ []
allowed command.Advise = Dims ∷ Facts ∷ Policy ∷ Journal ∷ Workload ∷ []
allowed command.Serve = Dims ∷ Facts ∷ Policy ∷ Journal ∷ Address ∷ Requests ∷ Idle ∷ []
allowed command.ServeGroups = Dims ∷ Facts ∷ Groups ∷ Journal ∷ Address ∷ Requests ∷ Idle ∷ []
allowed command.Replay = Dims ∷ Facts ∷ Policy ∷ Journal ∷ Script ∷ Requests ∷ []
allowed command.ReplayGroups = Dims ∷ Facts ∷ Groups ∷ Journal ∷ Script ∷ Requests ∷ []
allowed command.Demo = Number ∷ Size ∷ []

abbrev pub is_help : Command → Bool
is_help command.Help = true
is_help other = false

-- the word is short for `--help`
abbrev pub is_short : List ℕ → Bool
is_short word = bytes_eq word (codes "-h") || bytes_eq word (codes "help")

-- the word names the command
abbrev pub has_word : Command → List ℕ → Bool
has_word c word = bytes_eq word (command_word c) || (is_help c && is_short word)

-- the command of a word
abbrev pub command_of : List ℕ → Option Command
command_of word = find (λ c. has_word c word) commands

-- the word is an option of the command
abbrev pub is_option : Command → List ℕ → Bool
is_option c word = list_any (λ s. bytes_eq word (option_word s)) (allowed c)

-- the word is one of these
abbrev pub stands_in : List ℕ → List (List ℕ) → Bool
stands_in word words = list_any (λ x. bytes_eq x word) words

-- the words that stand in an option's place behind the command: every second one
abbrev pub options_in : List (List ℕ) → List (List ℕ)
options_in [] = []
options_in (option ∷ []) = option ∷ []
options_in (option ∷ value ∷ more) = option ∷ options_in more

-- of the two options that name what rules the users, the first one names groups
abbrev pub begin_with_groups : List (List ℕ) → Bool
begin_with_groups [] = false
begin_with_groups (option ∷ more) = not (bytes_eq option (codes "--policy")) && (bytes_eq option (codes "--groups") || begin_with_groups more)

-- the command, where the options behind it do that or not
abbrev pub ruled_as : Command → Bool → Command
ruled_as command.Serve true = command.ServeGroups
ruled_as command.Replay true = command.ReplayGroups
ruled_as c groups = c

-- decimal digits that write a number of asks
abbrev pub is_requests : List ℕ → Bool
is_requests text = is_digits text && nat_le 1 (digits_value 10 text) && nat_le (digits_value 10 text) MAX_REQUESTS

-- decimal digits that write a number of seconds
abbrev pub is_idle : List ℕ → Bool
is_idle text = is_digits text && nat_le (digits_value 10 text) MAX_IDLE

-- so few decimal digits that write a number in 64 bits
abbrev pub is_number : List ℕ → Bool
is_number text = nat_le (length text) MAX_DIGITS && is_digits text && nat_lt (digits_value 10 text) OVER

-- decimal digits that write a size
abbrev pub is_size : List ℕ → Bool
is_size text = is_digits text && nat_le 1 (digits_value 10 text) && nat_le (digits_value 10 text) MAX_SIZE

-- the value is none that the option may have
abbrev pub is_wrong_value : List ℕ → List ℕ → Bool
is_wrong_value option value =
    (bytes_eq option (codes "--requests") && not (is_requests value))
    || (bytes_eq option (codes "--number") && not (is_number value))
    || (bytes_eq option (codes "--size") && not (is_size value))
    || (bytes_eq option (codes "--idle") && not (is_idle value))

-- The number of the first wrong word behind these pairs, the command being word 0: no option of the command, one that
-- stood before, one without a value, or a wrong value.
abbrev pub first_wrong : Command → List (List ℕ) → List (List ℕ) → Option ℕ
first_wrong c before [] = None
first_wrong c before (option ∷ []) = Some (length before + 1)
first_wrong c before (option ∷ value ∷ more) =
    if not (is_option c option) || stands_in option (options_in before) then Some (length before + 1)
    else if is_wrong_value option value then Some (length before + 2)
    else first_wrong c (before ++ option ∷ value ∷ []) more

-- the first option that is needed and not there
abbrev pub first_missing : Command → List (List ℕ) → Option Setting
first_missing c words = find (λ s. not (stands_in (option_word s) (options_in words))) (needed c)

-- ---- the values of the options

-- the value that stands behind an option
abbrev pub value_behind : List ℕ → List (List ℕ) → Option (List ℕ)
value_behind word [] = None
value_behind word (option ∷ []) = None
value_behind word (option ∷ value ∷ more) = if bytes_eq option word then Some value else value_behind word more

-- the value of an option among the words behind the command
abbrev pub value_of : Setting → List (List ℕ) → List ℕ
value_of s words = unwrap_or (value_behind (option_word s) words) []

abbrev pub files_of : List (List ℕ) → CubeFiles
files_of words = record { dims = value_of Dims words; facts = value_of Facts words; policy = value_of Policy words }

-- those of an older cube
abbrev pub older_files_of : List (List ℕ) → CubeFiles
older_files_of words = record { dims = value_of FromDims words; facts = value_of FromFacts words; policy = value_of FromPolicy words }

-- those of a cube whose users are ruled so
abbrev pub ruled_files_of : Rules → List (List ℕ) → RuledFiles
ruled_files_of r words = record { dims = value_of Dims words; facts = value_of Facts words; rules = r }

-- one policy rules all users
abbrev pub one_policy : List (List ℕ) → Rules
one_policy words = rules.One (value_of Policy words)

-- each group has a policy of its own
abbrev pub own_policies : List (List ℕ) → Rules
own_policies words = rules.Groups (value_of Groups words)

-- the number that is stated, or the usual one
abbrev pub stated_by : ℕ → Option (List ℕ) → ℕ
stated_by usual None = usual
stated_by usual (Some text) = digits_value 10 text

-- how many asks are answered at most
abbrev pub stated : ℕ → List (List ℕ) → ℕ
stated usual words = stated_by usual (value_behind (option_word Requests) words)

-- for how many seconds a connection may be still; for ever where they are 0
abbrev pub idle : List (List ℕ) → ℕ
idle words = stated_by USUAL_IDLE (value_behind (option_word Idle) words)

-- the number and the size that a cube is made of
abbrev pub making_of : List (List ℕ) → Making
making_of words = record { number = digits_value 10 (value_of Number words); size = digits_value 10 (value_of Size words) }

-- the draft of a fact file of whose columns nothing is stated
abbrev pub plain_drafting : List (List ℕ) → DraftOrders
plain_drafting words = record { facts = value_of Facts words; policy = false; choices = record { dimensions = []; members = []; skipped = [] } }

-- ---- the orders

-- a server, whose users are ruled so
abbrev pub served : Rules → List (List ℕ) → Orders
served r words = orders.Serve (ruled_files_of r words) (value_of Journal words) (value_of Address words) (stated MAX_REQUESTS words) (idle words)

-- a script that is played to users who are ruled so
abbrev pub replayed : Rules → List (List ℕ) → Orders
replayed r words = orders.Replay (ruled_files_of r words) (value_of Journal words) (value_of Script words) (stated USUAL_REQUESTS words)

-- the orders of a command by the words behind it, of which none is wrong and none is missing
abbrev pub orders_with : Command → List (List ℕ) → Orders
orders_with command.Help words = orders.Help None
orders_with command.Version words = orders.Version
orders_with command.Draft words = orders.Draft (plain_drafting words)
orders_with command.Sum words = orders.Sum (value_of Facts words)
orders_with command.Check words = orders.Check (files_of words)
orders_with command.Ask words = orders.Ask (files_of words) (value_of Journal words) (stated USUAL_REQUESTS words)
orders_with command.Witness words = orders.Witness (files_of words) (value_of Journal words) (value_of Cell words)
orders_with command.Twin words = orders.Twin (files_of words) (value_of Journal words) (value_of Cell words)
orders_with command.Compact words = orders.Compact (files_of words) (value_of Journal words) (value_behind (option_word Out) words)
orders_with command.Carry words = orders.Carry (files_of words) (older_files_of words) (value_of FromJournal words) (value_behind (option_word Out) words)
orders_with command.Why words = orders.Why (files_of words) (value_of Journal words) (value_of Query words) (value_behind (option_word Reason) words)
orders_with command.Audit words = orders.Audit (files_of words) (value_of Transcript words)
orders_with command.Advise words = orders.Advise (files_of words) (value_behind (option_word Journal) words) (value_behind (option_word Workload) words)
orders_with command.Serve words = served (one_policy words) words
orders_with command.ServeGroups words = served (own_policies words) words
orders_with command.Replay words = replayed (one_policy words) words
orders_with command.ReplayGroups words = replayed (own_policies words) words
orders_with command.Demo words = orders.Demo (making_of words)

abbrev pub unless_missing : Command → List (List ℕ) → Option Setting → Result Orders Usage
unless_missing c words None = Ok (orders_with c words)
unless_missing c words (Some s) = Err (Missing s)

abbrev pub unless_wrong : Command → List (List ℕ) → Option ℕ → Result Orders Usage
unless_wrong c words None = unless_missing c words (first_missing c words)
unless_wrong c words (Some n) = Err (Wrong n)

abbrev pub with_rules : List (List ℕ) → Command → Result Orders Usage
with_rules words c = unless_wrong c words (first_wrong c [] words)

abbrev pub is_draft : Command → Bool
is_draft command.Draft = true
is_draft other = false

-- What a command orders with the words behind it. Those of `draft` are read by rules of their own.
abbrev pub behind_command : List (List ℕ) → Command → Result Orders Usage
behind_command words c = if is_draft c then drafted words else with_rules words (ruled_as c (begin_with_groups (options_in words)))

-- the first of the words behind a command asks how it is used
abbrev pub asks_help : List (List ℕ) → Bool
asks_help [] = false
asks_help (word ∷ more) = has_word command.Help word

-- the command that a single word names
abbrev pub named_alone : List (List ℕ) → Option Command
named_alone words = if length words == 1 then command_of (slice_index_or words 0 []) else None

-- the command that stands alone behind a word for the help
abbrev pub named_by : Command → List (List ℕ) → Option Command
named_by c words = if is_help c then named_alone words else None

abbrev pub unless_named : Option Command → Result Orders Usage → Result Orders Usage
unless_named None ordered = ordered
unless_named (Some c) ordered = Ok (orders.Help (Some c))

abbrev pub with_command : List (List ℕ) → Option Command → Result Orders Usage
with_command words None = Err (Wrong 0)
with_command words (Some c) = if asks_help words then Ok (orders.Help (Some c)) else unless_named (named_by c words) (behind_command words c)

-- What the words order, with the values of the options; or what is wrong with them: no word, the first wrong word by its number
-- from 0, or the first option that is missing. Behind a command `--help` asks for that one's part of the help,
-- and so does the command behind `--help`.
abbrev pub orders_of : List (List ℕ) → Result Orders Usage
orders_of [] = Err NoCommand
orders_of (word ∷ words) = with_command words (command_of word)

-- ---- what is known of orders

-- the file that the output is put into, where one is given
abbrev pub out_of : Orders → Option (List ℕ)
out_of (orders.Compact files journal out) = out
out_of (orders.Carry files older journal out) = out
out_of other = None

-- the files of the cube, of a command for one policy
abbrev pub cube_of : Orders → Option CubeFiles
cube_of (orders.Check files) = Some files
cube_of (orders.Ask files journal stated) = Some files
cube_of (orders.Witness files journal cell) = Some files
cube_of (orders.Twin files journal cell) = Some files
cube_of (orders.Compact files journal out) = Some files
cube_of (orders.Carry files older journal out) = Some files
cube_of (orders.Why files journal query reason) = Some files
cube_of (orders.Audit files transcript) = Some files
cube_of (orders.Advise files journal workload) = Some files
cube_of other = None

-- none of the words behind the command is wrong, and none is missing
abbrev pub IsRight : Command → List (List ℕ) → Type 0
IsRight c words = (first_wrong c [] words ≡ None) × (first_missing c words ≡ None)

abbrev pub IsMade : Making → Type 0
IsMade m = (1 ≤ m.size) × (m.size ≤ MAX_SIZE)

-- some ask is stated, and the size of a made cube is within its bounds
abbrev pub Fits : Orders → Type 0
Fits (orders.Ask files journal stated) = 1 ≤ stated
Fits (orders.Serve files journal address stated idle) = 1 ≤ stated
Fits (orders.Replay files journal script stated) = 1 ≤ stated
Fits (orders.Demo making) = IsMade making
Fits other = Unit {0}
