-- The word for each line of a workload.
use Rattle.std.specs.Prelude.{ℕ, nat_lt, List, [], ◌∷◌, length, if◌then◌else◌, codes, Result, Ok, Err, Option, Some, None}
use Rattle.cube_model.specs.declared.entry.Entry.{Entry}
use Rattle.cube_model.specs.declared.request.Request.{Request}
use Rattle.cube_model.specs.declared.verdict.Verdict.{Verdict}
use Rattle.cube_model.specs.declared.verdict.Verdict.TheVariants as verdicts
use Rattle.cube_model.specs.Cubes.{Public}
use Rattle.cube_model.specs.Dims.{Dims}
use Rattle.cube_model.specs.Runs.{entered}
use Rattle.cube_model.specs.Verdicts.{verdict}
use Rattle.cube_query.specs.Faults.{request_of}
use Rattle.cube_query.specs.declared.fault.RequestFault.{RequestFault}
use Rattle.cube_advise.specs.declared.word.Word.{Word}
use Rattle.cube_advise.specs.declared.word.Word.TheVariants.{Answer, Source, Pair, Single, Full, Unread}

-- the most bytes of a line that is read
abbrev pub max_line : ℕ
max_line = 65536

abbrev pub read_from : Result Request RequestFault → Option Request
read_from (Ok r) = Some r
read_from (Err e) = None

-- the request that a line names: none where it has too many bytes or its text is not read
abbrev pub asked_in : Dims → List ℕ → Option Request
asked_in s line = if nat_lt max_line (length line) then None else read_from (request_of s line)

abbrev pub word_of : Verdict → Word
word_of (verdicts.Answer fresh) = Answer
word_of (verdicts.Full held) = Full
word_of (verdicts.SourceWould c t) = Source
word_of (verdicts.Pair k i j t) = Pair
word_of (verdicts.Single k i t) = Single

-- the word for what a line asks behind a history
abbrev pub word_on : Public → List Entry → Option Request → Word
word_on g h None = Unread
word_on g h (Some r) = word_of (verdict g h r)

-- the history behind it: a fresh answer enters, nothing else does
abbrev pub behind : Public → List Entry → Option Request → List Entry
behind g h None = h
behind g h (Some r) = entered h r (verdict g h r)

-- The words for lines that are judged one behind another.
abbrev pub words_of : Dims → Public → List Entry → List (List ℕ) → List Word
words_of s g h [] = []
words_of s g h (line ∷ lines) = word_on g h (asked_in s line) ∷ words_of s g (behind g h (asked_in s line)) lines

abbrev pub word_text : Word → List ℕ
word_text Answer = codes "answer"
word_text Source = codes "source"
word_text Pair = codes "pair"
word_text Single = codes "single"
word_text Full = codes "full"
word_text Unread = codes "unread"
