-- What is said to the lines of `sum`, and how a talk over them ends.
use Rattle.std.specs.Prelude.{◌≡◌, ◌⊎◌, ℕ, ◌+◌, ◌≤◌, ◌<◌, nat_lt, nat_le, Bool, List, [], ◌∷◌, ◌++◌, length, codes, if◌then◌else◌}
use Rattle.std.specs.declared.option.Option.{Option}
use Rattle.std.specs.List.{flat_map}
use Rattle.std.specs.Str.Lines.{lines}
use Rattle.std.specs.Io.KnownBytes.{Appends, Consumes}
use Rattle.cube_text.specs.Units.{units_text}
use Rattle.cube_io.specs.Content.{AppendsPrefix}
use Rattle.cube_io.specs.Seen.{SourceState, SinkState, Seen}
use Rattle.cube_facts.specs.Flat.{Flat, reply_of}
use Rattle.cube_facts.specs.declared.flat.FlatReply.{FlatReply}
use Rattle.cube_facts.specs.declared.flat.FlatReply.TheVariants as reply
use Rattle.cube_talk.specs.Lines.{ended_lines}
use Rattle.cube_talk.specs.Talk.{max_line, max_input, up_to}
use Rattle.cube_talk.specs.declared.sums.Sums.{Sums}
use Rattle.cube_talk.specs.declared.talk.Ending.{Ending}
use Rattle.cube_talk.specs.declared.talk.Ending.TheVariants.{Ended, InputFailed, OutputFailed, NoMemory, Spent}
use Rattle.cube_talk.specs.declared.talk.TalkEnd.{TalkEnd}

-- the most lines that are answered
abbrev pub max_lines : ℕ
max_lines = 16777216

abbrev pub shown : FlatReply → List ℕ
shown (reply.Sum value) = units_text 0 value ++ 10 ∷ []
shown reply.Fields = codes "bad line: fields\n"
shown reply.Quote = codes "bad line: quote\n"

-- the answer to a line
abbrev pub answer : Flat → List ℕ → List ℕ
answer flat line = if nat_lt max_line (length line) then codes "bad line: too long\n" else shown (reply_of flat line)

-- the answers to some lines in turn
abbrev pub answers : Flat → List (List ℕ) → List ℕ
answers flat ls = flat_map (answer flat) ls

-- what is said to an input: the answers to its lines, as far as they are answered
abbrev pub talk : Flat → List ℕ → List ℕ
talk flat text = answers flat (up_to max_lines (lines text))

-- ---- one who answers

-- as many lines were answered as are answered at most
abbrev pub is_done : Sums → Bool
is_done x = nat_le max_lines x.lines

-- these lines were answered by this text
pub record AnswersSums (x y : Sums) (ls : List (List ℕ)) (text : List ℕ) : Type 0 where
  pub flat : y.flat ≡ x.flat
  pub counted : y.lines ≡ x.lines + length ls
  pub few : x.lines ≤ max_lines → y.lines ≤ max_lines
  pub text_is : text ≡ answers x.flat ls

-- ---- the whole

-- so many lines, or so many bytes, that no more are taken
abbrev pub IsSpent : Flat → List ℕ → ℕ → Option (List ℕ) → Option (List ℕ) → Type 0
IsSpent flat text count old new =
    ((count ≡ max_lines) × (max_lines ≤ length (lines text)) × Appends old new (talk flat text))
    ⊎ ((count ≡ length (ended_lines text)) × (count < max_lines) × (length text ≡ max_input) × Appends old new (answers flat (ended_lines text)))

-- What was written of the talk over the bytes of an input, by how it ended and how many lines were counted: all of it
-- where the input came to its end; the answers to the ended lines where a read failed; a beginning of it where a put failed;
-- the answers to the first lines where memory ran out.
abbrev pub SumsSay : Flat → Ending → List ℕ → ℕ → Option (List ℕ) → Option (List ℕ) → Type 0
SumsSay flat Ended text count old new = (count ≡ length (lines text)) × (count < max_lines) × (length text < max_input) × Appends old new (talk flat text)
SumsSay flat InputFailed text count old new = (length (ended_lines text) < max_lines) × (length text < max_input) × Appends old new (answers flat (ended_lines text))
SumsSay flat OutputFailed text count old new = AppendsPrefix old new (talk flat text)
SumsSay flat NoMemory text count old new = (first : List (List ℕ)) × (more : List (List ℕ)) × (up_to max_lines (lines text) ≡ first ++ more) × Appends old new (answers flat first)
SumsSay flat Spent text count old new = IsSpent flat text count old new

-- Of the bytes that were taken of an input, the talk was written, over so many lines.
pub record Talked {I O : Type 0} (flat : Flat) (end : TalkEnd) (count : ℕ) (input : Seen SourceState I) (out : Seen SinkState O) : Type 0 where
  pub text : List ℕ
  pub taken : Consumes input.before.left input.after.left text
  pub counted : end.bytes ≡ length text
  pub said : SumsSay flat end.ending text count out.before.written out.after.written
