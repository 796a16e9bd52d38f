-- What a question comes to, before anything is kept.
use Rattle.std.specs.Prelude.{◌≡◌, ◌≢◌, ◌≤◌, ℕ, true, Bool, List, [], ◌∷◌, ◌++◌, None, Some, if◌then◌else◌}
use Rattle.std.specs.declared.option.Option.{Option}
use Rattle.cube_model.specs.declared.ask.Question.{Question}
use Rattle.cube_model.specs.declared.entry.Entry.{Entry}
use Rattle.cube_model.specs.declared.entry.Entry.TheVariants.{Asked}
use Rattle.cube_model.specs.declared.outcome.Outcome.{Outcome}
use Rattle.cube_model.specs.declared.outcome.Outcome.TheVariants.{Given, JournalFault}
use Rattle.cube_model.specs.declared.reply.Reply.{Reply}
use Rattle.cube_model.specs.declared.request.Request.{Request}
use Rattle.cube_model.specs.declared.verdict.Verdict.TheVariants.{Answer}
use Rattle.cube_model.specs.Cubes.{World}
use Rattle.cube_model.specs.Dims.{Dims}
use Rattle.cube_model.specs.Runs.{told, entered, reply_by, next_by}
use Rattle.cube_model.specs.Verdicts.{verdict}
use Rattle.cube_query.specs.Canonical.{is_request}
use Rattle.cube_journal.specs.RequestLines.{request_line}
use Rattle.cube_io.specs.Causes.{Rose}
use Rattle.cube_engine.specs.Steps.{by_words, in_words}
use Rattle.cube_engine.specs.declared.prepared.Prepared.{Prepared}
use Rattle.cube_engine.specs.declared.prepared.Prepared.TheVariants.{Said, Waits}

-- the reply to a request that is answered, with its line where it waits
abbrev pub given_as : Bool → Reply → List ℕ → Prepared
given_as waits reply line = if waits then Waits reply line else Said reply Given

-- What a request comes to: a reply behind which the history stays, or one behind which the request enters, which waits.
abbrev pub Comes : Dims → World → List Entry → Request → Option Request → Prepared → Type 0
Comes s w h r waits (Said reply o) = (o ≡ Given) × (reply ≡ in_words s w.shown r (told w r (verdict w.shown h r))) × (entered h r (verdict w.shown h r) ≡ h) × (waits ≡ None)
Comes s w h r waits (Waits reply line) = (reply ≡ in_words s w.shown r (told w r (verdict w.shown h r))) × (verdict w.shown h r ≡ Answer true) × (line ≡ request_line s r) × (waits ≡ Some r)

-- a request waits to enter, with its line
pub record Holds (s : Dims) (w : World) (h : List Entry) (waits : Option Request) (line : List ℕ) (r : Request) : Type 0 where
  pub is_held : waits ≡ Some r
  pub valid : is_request s r ≡ true
  pub fresh : verdict w.shown h r ≡ Answer true
  pub is_line : line ≡ request_line s r

-- What a question to one room comes to.
abbrev pub QuestionComes : Dims → World → List Entry → Question → Option Request → Prepared → Type 0
QuestionComes s w h a waits (Said reply o) = (o ≢ JournalFault) × (reply ≡ reply_by (by_words s) o a w h) × (next_by (by_words s) o a w.shown h ≡ h) × (waits ≡ None)
QuestionComes s w h a waits (Waits reply line) = (r : Request) × Holds s w h waits line r × (reply ≡ reply_by (by_words s) Given a w h) × (next_by (by_words s) Given a w.shown h ≡ h ++ Asked r ∷ [])

-- The journal failed only where the ask was to be kept, and where the store's count of faults rose.
pub record SettleCause (o : Outcome) (adds : Type 0) (before now : ℕ) : Type 0 where
  pub later : before ≤ now
  pub steady : o ≢ JournalFault → now ≡ before
  pub failed : o ≡ JournalFault → Rose before now × adds
