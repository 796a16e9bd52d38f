-- Asks, replies, and whole runs.
use Rattle.std.specs.List.{list_any}
use Rattle.std.specs.Prelude.{ℕ, List, [], ◌∷◌, ◌++◌, if◌then◌else◌, is_none, ℤ, Option, Some, None}
use Rattle.cube_model.specs.declared.answer.AnswerRow.{AnswerRow}
use Rattle.cube_model.specs.declared.cell.Cell.{Cell}
use Rattle.cube_model.specs.declared.entry.Entry.{Entry}
use Rattle.cube_model.specs.declared.entry.Entry.TheVariants.{Asked}
use Rattle.cube_model.specs.declared.outcome.Outcome.{Outcome}
use Rattle.cube_model.specs.declared.outcome.Outcome.TheVariants.{Given, JournalFault, NoMemory}
use Rattle.cube_model.specs.declared.request.Request.{Request}
use Rattle.cube_model.specs.declared.request.What.{What}
use Rattle.cube_model.specs.declared.request.What.TheVariants.{Count, Measure}
use Rattle.cube_model.specs.declared.verdict.Verdict.{Verdict}
use Rattle.cube_model.specs.declared.verdict.Verdict.TheVariants.{Answer, Full, SourceWould, Pair as PairFixes, Single as SingleFixes}
use Rattle.cube_model.specs.Cubes.{Public, World, covered}
use Rattle.cube_model.specs.Requests.{answer, is_valid}
use Rattle.cube_model.specs.Protection.{protected, same_cell, first}
use Rattle.cube_model.specs.Verdicts.{verdict}
use Rattle.cube_model.specs.Twins.{changes}

-- what may be asked
pub data Question : Type 0 where
  Query : Request → Question
  Witness : What → Cell → Question
  Shape : Question

-- what is said to a request that is valid
pub data QueryReply : Type 0 where
  Refused : Verdict → QueryReply
  Answered : List AnswerRow → QueryReply

-- what is said to a question for changes
pub data WitnessReply : Type 0 where
  NotOfMeasure : WitnessReply
  EmptyCell : WitnessReply
  NotProtected : WitnessReply
  Changed : List ℤ → WitnessReply

-- what is said to whatever is asked
pub data Reply : Type 0 where
  Malformed : Reply
  ToQuery : QueryReply → Reply
  ToWitness : WitnessReply → Reply
  Known : Public → Reply
  Failed : Outcome → Reply
  NoPath : Reply
  UnknownGroup : Reply

-- the reply under a verdict
abbrev pub told : World → Request → Verdict → QueryReply
told w r (Answer fresh) = Answered (answer w r)
told w r (Full held) = Refused (Full held)
told w r (SourceWould c t) = Refused (SourceWould c t)
told w r (PairFixes k x y i) = Refused (PairFixes k x y i)
told w r (SingleFixes k x i) = Refused (SingleFixes k x i)

-- only a fresh answer enters the history
abbrev pub entered : List Entry → Request → Verdict → List Entry
entered h r (Answer fresh) = if fresh then h ++ Asked r ∷ [] else h
entered h r (Full held) = h
entered h r (SourceWould c t) = h
entered h r (PairFixes k x y i) = h
entered h r (SingleFixes k x i) = h

-- the changes for a protected cell under a history
abbrev pub witnessed : Public → List Entry → What → Cell → WitnessReply
witnessed g h Count t = NotOfMeasure
witnessed g h (Measure m) t =
    if is_none (first (covered g t)) then EmptyCell
    else if list_any (same_cell t) (protected g m) then Changed (changes g h m t) else NotProtected

-- the reply where all goes well: the sums of an answer alone look at the cube
abbrev pub replied : Question → World → List Entry → Reply
replied (Query r) w h = if is_valid w.shown r then ToQuery (told w r (verdict w.shown h r)) else Malformed
replied (Witness what t) w h = ToWitness (witnessed w.shown h what t)
replied Shape w h = Known w.shown

-- the history behind a question
abbrev pub grown : Question → Public → List Entry → List Entry
grown (Query r) g h = if is_valid g r then entered h r (verdict g h r) else h
grown (Witness what t) g h = h
grown Shape g h = h

-- ---- one stepper, whatever questions and replies are

-- How a cube replies: what is said to a question where all goes well, and the history behind it, which looks at no value; and what is
-- said where a fault keeps the reply back, or no cube has the name of the group that is asked, if one is.
pub record Stepper (Q R : Type 0) : Type 0 where
  pub given : Q → World → List Entry → R
  pub grown : Q → Public → List Entry → List Entry
  pub journal_fault : R
  pub no_memory : R
  pub missed : Option (List ℕ) → R

-- a question, and what became of it
pub record Turn (Q : Type 0) : Type 0 where
  pub question : Q
  pub outcome : Outcome

abbrev pub reply_by : {Q R : Type 0} → Stepper Q R → Outcome → Q → World → List Entry → R
reply_by s Given q w h = s.given q w h
reply_by s JournalFault q w h = s.journal_fault
reply_by s NoMemory q w h = s.no_memory

abbrev pub next_by : {Q R : Type 0} → Stepper Q R → Outcome → Q → Public → List Entry → List Entry
next_by s Given q g h = s.grown q g h
next_by s JournalFault q g h = h
next_by s NoMemory q g h = h

-- the reply at a turn
abbrev pub reply : {Q R : Type 0} → Stepper Q R → World → List Entry → Turn Q → R
reply s w h t = reply_by s t.outcome t.question w h

-- the history behind a turn, which looks at no value
abbrev pub next : {Q R : Type 0} → Stepper Q R → Public → List Entry → Turn Q → List Entry
next s g h t = next_by s t.outcome t.question g h

-- the replies at some turns, one after another
abbrev pub replies : {Q R : Type 0} → Stepper Q R → World → List Entry → List (Turn Q) → List R
replies s w h [] = []
replies s w h (t ∷ rest) = reply s w h t ∷ replies s w (next s w.shown h t) rest

-- the history at the end
abbrev pub end : {Q R : Type 0} → Stepper Q R → Public → List Entry → List (Turn Q) → List Entry
end s g h [] = h
end s g h (t ∷ rest) = end s g (next s g h t) rest

-- ---- the stepper of the rules

abbrev pub Ask : Type 0
Ask = Turn Question

abbrev pub missed_rules : Option (List ℕ) → Reply
missed_rules None = NoPath
missed_rules (Some name) = UnknownGroup

abbrev pub by_rules : Stepper Question Reply
by_rules = record { given = replied; grown = grown; journal_fault = Failed JournalFault; no_memory = Failed NoMemory; missed = missed_rules }
