-- A talk over the lines of an input: which lines were answered, what was written of the answers, and how it ended.
use Rattle.std.specs.Prelude.{◌≡◌, ◌⊎◌, ⊤, ℕ, ◌^◌, ◌<◌, Bool, true, false, nat_lt, List, [], ◌++◌, length, take, if◌then◌else◌, All}
use Rattle.std.specs.declared.option.Option.{Option}
use Rattle.std.specs.Str.Lines.{lines}
use Rattle.std.specs.Io.KnownBytes.{Appends, Consumes}
use Rattle.cube_io.specs.Causes.{Rose}
use Rattle.cube_io.specs.Content.{AppendsPrefix}
use Rattle.cube_io.specs.Seen.{SourceState, SinkState, Seen}
use Rattle.cube_talk.specs.Lines.{is_feed, ended_lines}
use Rattle.cube_talk.specs.declared.talk.Ending.{Ending}
use Rattle.cube_talk.specs.declared.talk.Ending.TheVariants.{Ended, InputFailed, OutputFailed, NoMemory, Spent}
use Rattle.cube_talk.specs.declared.talk.TalkEnd.{TalkEnd}

-- the most bytes of a line that is looked into
abbrev pub max_line : ℕ
max_line = 65536

-- the most bytes that are taken of an input
abbrev pub max_input : ℕ
max_input = 2 ^ 40

-- at most so many, from the front
unfoldable pub up_to : {X : Type 0} → ℕ → List X → List X
up_to n xs = if nat_lt n (length xs) then take n xs else xs

-- so many bytes of a line decide its answer, with a carriage return at its end
abbrev pub kept_bytes : ℕ
kept_bytes = 65538

-- what is kept of a line that no line feed has ended
pub record IsKept (carry open_part : List ℕ) : Type 0 where
  pub clean : All (λ b. is_feed b ≡ false) open_part
  pub kept : carry ≡ up_to kept_bytes open_part

-- a text was said: it went behind what waits to be written, of which the front was written
pub record Spoke (text waiting waiting' : List ℕ) (written written' : Option (List ℕ)) : Type 0 where
  pub front : List ℕ
  pub whole : waiting ++ text ≡ front ++ waiting'
  pub put : Appends written written' front

-- a text was written, or a beginning of it where a put failed
abbrev pub Puts : Ending → Option (List ℕ) → Option (List ℕ) → List ℕ → Type 0
Puts Ended written written' text = Appends written written' text
Puts InputFailed written written' text = Appends written written' text
Puts OutputFailed written written' text = AppendsPrefix written written' text
Puts NoMemory written written' text = Appends written written' text
Puts Spent written written' text = Appends written written' text

-- a count of faults rose where this happened, and stayed elsewhere
pub record RoseWhere (happened : Type 0) (before now : ℕ) : Type 0 where
  pub rose : happened → Rose before now
  pub steady : ¬ happened → now ≡ before

-- Which lines were answered, by how the talk ended: where the input came to its end, all of them; where a read failed, the ended
-- ones; and no more are where who answers is done, or where so many bytes were taken.
abbrev pub Goes : Ending → List ℕ → List (List ℕ) → List (List ℕ) → Bool → Type 0
Goes Ended text first more done = (more ≡ []) × (done ≡ false) × (length text < max_input)
Goes InputFailed text first more done = (first ≡ ended_lines text) × (done ≡ false) × (length text < max_input)
Goes OutputFailed text first more done = ⊤
Goes NoMemory text first more done = ⊤
Goes Spent text first more done = (done ≡ true) ⊎ ((first ≡ ended_lines text) × (done ≡ false) × (length text ≡ max_input))

-- So many bytes were taken of an input, and these are the first of their lines.
pub record Took {I : Type 0} (bytes : ℕ) (input : Seen SourceState I) : Type 0 where
  pub text : List ℕ
  pub taken : Consumes input.before.left input.after.left text
  pub counted : bytes ≡ length text
  pub first : List (List ℕ)
  pub more : List (List ℕ)
  pub split : lines text ≡ first ++ more

-- Of the bytes that were taken of an input, the first lines were answered. Who answers, and a store, went from one state to another.
pub record Conversed {A B I O : Type 0} (says : A → B → List (List ℕ) → A → B → List ℕ → Type 0) (a a' : A) (b b' : B) (done : Bool) (end : TalkEnd) (input : Seen SourceState I) (out : Seen SinkState O) : Type 0 where
  pub took : Took end.bytes input
  pub said : List ℕ
  pub answered : says a b took.first a' b' said
  pub puts : Puts end.ending out.before.written out.after.written said
  pub goes : Goes end.ending took.text took.first took.more done
