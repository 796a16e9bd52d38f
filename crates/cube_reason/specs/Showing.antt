-- What is said why a request is refused.
use Rattle.std.specs.Prelude.{◌≡◌, ◌↔◌, ⊤, ℕ, true, List, ◌++◌, codes}
use Rattle.cube_model.specs.declared.entry.Entry.{Entry as EntryOf}
use Rattle.cube_model.specs.declared.policy.Policy.{Policy}
use Rattle.cube_model.specs.declared.request.Request.{Request}
use Rattle.cube_model.specs.declared.verdict.Verdict.{Verdict}
use Rattle.cube_model.specs.declared.verdict.Verdict.TheVariants.{Answer, Full, SourceWould, Pair, Single}
use Rattle.cube_model.specs.Cores.{Core, shown}
use Rattle.cube_model.specs.Cubes.{Public}
use Rattle.cube_model.specs.Dims.{Dims}
use Rattle.cube_model.specs.Reasons.{is_reason}
use Rattle.cube_answers.specs.VerdictText.{verdict_text}
use Rattle.cube_reason.specs.declared.reasons.Reason.{Reason}
use Rattle.cube_reason.specs.Found.{IsAbout}
use Rattle.cube_reason.specs.ReasonText.{reason_words}
use Rattle.cube_reason.specs.Views.{reason_view}

-- The lines are those of a reason for the refusal of a request, about the cell or the place that its verdict names.
pub record HasLines (s : Dims) (g : Public) (h : List EntryOf) (r : Request) (v : Verdict) (lines : List ℕ) : Type 0 where
  pub reason : Reason
  pub is : is_reason g h r (reason_view reason) ≡ true
  pub about : IsAbout v reason
  pub lines_are : lines ≡ reason_words s g reason

-- The text is the line of the refusal, and behind it the lines of such a reason. It has no cube among its arguments.
pub record Shows (s : Dims) (g : Public) (h : List EntryOf) (r : Request) (v : Verdict) (text : List ℕ) : Type 0 where
  pub lines : List ℕ
  pub has : HasLines s g h r v lines
  pub text_is : text ≡ verdict_text s g v ++ lines

-- the source would not cut a cell
abbrev pub IsSource : Verdict → Type 0
IsSource (Answer fresh) = ⊥
IsSource (Full held) = ⊥
IsSource (SourceWould levels cell) = ⊤
IsSource (Pair k i j t) = ⊥
IsSource (Single k i t) = ⊥

-- What is said why: `admitted` of an answer, the line of the refusal where the history is full, and of each other refusal its line with
-- the lines of a reason.
abbrev pub IsWhy : Dims → Public → List EntryOf → Request → Verdict → List ℕ → Type 0
IsWhy s g h r (Answer fresh) text = text ≡ codes "admitted\n"
IsWhy s g h r (Full held) text = text ≡ verdict_text s g (Full held)
IsWhy s g h r (SourceWould levels cell) text = Shows s g h r (SourceWould levels cell) text
IsWhy s g h r (Pair k i j t) text = Shows s g h r (Pair k i j t) text
IsWhy s g h r (Single k i t) text = Shows s g h r (Single k i t) text

-- it is an answer
abbrev pub IsAnswer : Verdict → Type 0
IsAnswer (Answer fresh) = ⊤
IsAnswer (Full held) = ⊥
IsAnswer (SourceWould levels cell) = ⊥
IsAnswer (Pair k i j t) = ⊥
IsAnswer (Single k i t) = ⊥

-- `admitted` is said exactly of an answer
abbrev pub AnswersAloneAreAdmitted : Type 0
AnswersAloneAreAdmitted = (s : Dims) (g : Public) (h : List EntryOf) (r : Request) (v : Verdict) (text : List ℕ) → IsWhy s g h r v text → (text ≡ codes "admitted\n") ↔ IsAnswer v

-- Over another cube with the same shape the same texts are those of a reason.
pub record SaysAlike (c d : Core) (p : Policy) (h : List EntryOf) (r : Request) (v : Verdict) (text : List ℕ) : Type 0 where
  pub shows : Shows c.dims (shown c p) h r v text ↔ Shows d.dims (shown d p) h r v text
  pub why : IsWhy c.dims (shown c p) h r v text ↔ IsWhy d.dims (shown d p) h r v text

abbrev pub ReasonsAreOfTheShape : Type 0
ReasonsAreOfTheShape = (c d : Core) (p : Policy) (h : List EntryOf) (r : Request) (v : Verdict) (text : List ℕ) → c.dims ≡ d.dims → c.shape ≡ d.shape → SaysAlike c d p h r v text
