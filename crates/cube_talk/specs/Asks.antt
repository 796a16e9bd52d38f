-- What is said to the lines of `ask`, each of which is an ask of a desk.
use Rattle.std.specs.Prelude.{◌≡◌, ◌≢◌, ◌⊎◌, ⊤, ℕ, zero, suc, ◌+◌, ◌≤◌, ◌<◌, nat_lt, nat_eq, Bool, true, false, List, [], ◌∷◌, ◌++◌, length, drop, codes, if◌then◌else◌}
use Rattle.std.specs.declared.option.Option.{Option}
use Rattle.std.specs.declared.option.Option.TheVariants.{None}
use Rattle.std.specs.List.{starts_with}
use Rattle.std.specs.Str.{bytes_eq}
use Rattle.std.specs.Str.Lines.{lines}
use Rattle.std.specs.Io.KnownBytes.{Appends}
use Rattle.cube_model.specs.declared.ask.Ask.{Ask}
use Rattle.cube_model.specs.declared.ask.Question.{Question}
use Rattle.cube_model.specs.declared.ask.Question.TheVariants.{Query, Shape, Witness}
use Rattle.cube_model.specs.declared.outcome.Outcome.{Outcome}
use Rattle.cube_model.specs.declared.outcome.Outcome.TheVariants.{Given, JournalFault}
use Rattle.cube_model.specs.declared.reply.Fixed.TheVariants.{TooLarge}
use Rattle.cube_model.specs.declared.reply.Reply.TheVariants.{Fixed}
use Rattle.cube_model.specs.Rooms.{Room}
use Rattle.cube_io.specs.Causes.{RoseBy}
use Rattle.cube_io.specs.Content.{AppendsPrefix}
use Rattle.cube_io.specs.Desks.{Manner, faults_in}
use Rattle.cube_io.specs.Seen.{SourceState, SinkState, Seen}
use Rattle.cube_talk.specs.Lines.{ended_lines}
use Rattle.cube_talk.specs.Moments.{Moment}
use Rattle.cube_talk.specs.Replies.{reply_text}
use Rattle.cube_talk.specs.Talk.{max_line, max_input, Took}
use Rattle.cube_talk.specs.declared.talk.Ending.{Ending}
use Rattle.cube_talk.specs.declared.talk.Ending.TheVariants.{Ended, InputFailed, OutputFailed, NoMemory, Spent}

-- ---- lines as asks

-- a line of more bytes is no ask
abbrev pub is_too_long : List ℕ → Bool
is_too_long line = nat_lt max_line (length line)

-- what is said to it
abbrev pub too_large : List ℕ
too_large = reply_text (Fixed TooLarge)

-- the question that a line is: the word `shape`, a cell behind the word `witness`, or else a query
abbrev pub question_of : List ℕ → Question
question_of line =
    if bytes_eq line (codes "shape") then Shape
    else if starts_with nat_eq line (codes "witness ") then Witness (drop 8 line)
    else Query line

-- a line asks no group
abbrev pub ask_of : List ℕ → Ask
ask_of line = record { group = None; question = question_of line }

-- how many of the lines are asks
abbrev pub asks_in : List (List ℕ) → ℕ
asks_in [] = 0
asks_in (line ∷ rest) = if is_too_long line then asks_in rest else suc (asks_in rest)

-- the lines up to the last of so many asks; behind it nothing is said
abbrev pub up_to_asks : ℕ → List (List ℕ) → List (List ℕ)
up_to_asks zero ls = []
up_to_asks (suc n) [] = []
up_to_asks (suc n) (line ∷ rest) = line ∷ up_to_asks (if is_too_long line then suc n else n) rest

-- ---- the talk

-- What is said to some lines: a line that is too long takes no outcome, an ask takes the next. Nothing is said where an outcome is
-- needed and none is left.
abbrev pub said : Manner → List Room → List (List ℕ) → List Outcome → List ℕ
said m rooms [] os = []
said m rooms (line ∷ rest) [] = if is_too_long line then too_large ++ said m rooms rest [] else []
said m rooms (line ∷ rest) (o ∷ os) =
    if is_too_long line then too_large ++ said m rooms rest (o ∷ os)
    else reply_text (m.reply rooms (ask_of line) o) ++ said m (m.next rooms (ask_of line) o) rest os

-- the rooms behind them
abbrev pub rooms_behind : Manner → List Room → List (List ℕ) → List Outcome → List Room
rooms_behind m rooms [] os = rooms
rooms_behind m rooms (line ∷ rest) [] = if is_too_long line then rooms_behind m rooms rest [] else rooms
rooms_behind m rooms (line ∷ rest) (o ∷ os) =
    if is_too_long line then rooms_behind m rooms rest (o ∷ os)
    else rooms_behind m (m.next rooms (ask_of line) o) rest os

-- what is said to some lines, up to the last of the stated asks
abbrev pub talk : Manner → List Room → List (List ℕ) → List Outcome → ℕ → List ℕ
talk m rooms ls os stated = said m rooms (up_to_asks stated ls) os

-- ---- one who answers

-- each ask among the lines for which the journal failed would have added to a history of the rooms that it met
abbrev pub FailedFresh : Manner → List Room → List (List ℕ) → List Outcome → Type 0
FailedFresh m rooms [] os = ⊤
FailedFresh m rooms (line ∷ rest) [] = ⊤
FailedFresh m rooms (line ∷ rest) (o ∷ os) =
    (is_too_long line ≡ true → FailedFresh m rooms rest (o ∷ os))
    × (is_too_long line ≡ false → (o ≡ JournalFault → m.next rooms (ask_of line) Given ≢ rooms) × FailedFresh m (m.next rooms (ask_of line) o) rest os)

-- These lines were answered by this text, each ask with one outcome; all of them came while there was space. The count of the store's
-- faults rose by one or more for each ask in which the journal failed, and stayed where it failed in none; it failed only for asks that
-- would have added to a history.
pub record AnswersAsks (before after : Moment) (ls : List (List ℕ)) (text : List ℕ) : Type 0 where
  pub manner : after.manner ≡ before.manner
  pub added : List Outcome
  pub outcomes_are : after.outcomes ≡ before.outcomes ++ added
  pub matched : length added ≡ asks_in ls
  pub rooms_are : after.rooms ≡ rooms_behind before.manner before.rooms ls added
  pub text_is : text ≡ said before.manner before.rooms ls added
  pub capacity_left : after.capacity + asks_in ls ≡ before.capacity
  pub within : up_to_asks before.capacity ls ≡ ls
  pub later : before.store.faults ≤ after.store.faults
  pub steady : faults_in added ≡ 0 → after.store.faults ≡ before.store.faults
  pub risen : RoseBy (faults_in added) before.store.faults after.store.faults
  pub fresh : FailedFresh before.manner before.rooms ls added

-- ---- the whole

-- so many asks, or so many bytes, that no more are taken
abbrev pub IsSpent : Manner → List Room → ℕ → List Outcome → List ℕ → Option (List ℕ) → Option (List ℕ) → Type 0
IsSpent m rooms stated os text old new =
    ((length os ≡ stated) × (stated ≤ asks_in (lines text)) × Appends old new (talk m rooms (lines text) os stated))
    ⊎ ((length os ≡ asks_in (ended_lines text)) × (length os < stated) × (length text ≡ max_input) × Appends old new (talk m rooms (ended_lines text) os stated))

-- What was written of the talk over the bytes of an input, by how it ended, and how many asks there were: all of it where the input
-- came to its end; that over the ended lines where a read failed; a beginning of it where a put failed.
abbrev pub Says : Ending → Manner → List Room → ℕ → List Outcome → List ℕ → Option (List ℕ) → Option (List ℕ) → Type 0
Says Ended m rooms stated os text old new = (length os ≡ asks_in (lines text)) × (length os < stated) × (length text < max_input) × Appends old new (talk m rooms (lines text) os stated)
Says InputFailed m rooms stated os text old new = (length os ≡ asks_in (ended_lines text)) × (length os < stated) × (length text < max_input) × Appends old new (talk m rooms (ended_lines text) os stated)
Says OutputFailed m rooms stated os text old new = AppendsPrefix old new (talk m rooms (lines text) os stated)
Says NoMemory m rooms stated os text old new = ⊥
Says Spent m rooms stated os text old new = IsSpent m rooms stated os text old new

-- What was talked: how many asks were stated, how it ended, what became of the asks, and how many bytes were taken.
pub record Talk : Type 0 where
  pub stated : ℕ
  pub ending : Ending
  pub outcomes : List Outcome
  pub bytes : ℕ

-- Of the bytes that were taken of an input, the talk of a desk with these rooms was written. The first of the lines were answered, and
-- each ask among them has an outcome.
pub record Talked {I O : Type 0} (m : Manner) (rooms : List Room) (t : Talk) (input : Seen SourceState I) (out : Seen SinkState O) : Type 0 where
  pub took : Took t.bytes input
  pub matched : length t.outcomes ≡ asks_in took.first
  pub says : Says t.ending m rooms t.stated t.outcomes took.text out.before.written out.after.written
