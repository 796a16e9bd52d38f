-- The history of a cube written down as what it holds, as a journal of the second version, and what that keeps.
use Rattle.std.specs.Prelude.{◌≡◌, ◌≤◌, ◌^◌, ℕ, List, length, Ok}
use Rattle.cube_model.specs.declared.ask.Question.{Question}
use Rattle.cube_model.specs.declared.entry.Entry.{Entry}
use Rattle.cube_model.specs.declared.policy.Policy.{Policy}
use Rattle.cube_model.specs.declared.reply.Kind.TheVariants.{Plain}
use Rattle.cube_model.specs.declared.reply.Reply.{Reply}
use Rattle.cube_model.specs.declared.reply.Reply.TheVariants.{Made}
use Rattle.cube_model.specs.declared.verdict.Verdict.TheVariants.{Full}
use Rattle.cube_model.specs.Compaction.{compacted, StandsFor}
use Rattle.cube_model.specs.Cores.{Core, IsCore, shown, world}
use Rattle.cube_model.specs.Cubes.{Public, Each}
use Rattle.cube_model.specs.Dims.{Dims}
use Rattle.cube_model.specs.Policies.{IsPolicy}
use Rattle.cube_model.specs.Runs.{Turn, replies}
use Rattle.cube_model.specs.Verdicts.{IsAdmissible}
use Rattle.cube_answers.specs.VerdictText.{verdict_text}
use Rattle.cube_journal.specs.SecondText.{journal2_text}
use Rattle.cube_engine.specs.Kept.{digest_for, history_of}
use Rattle.cube_engine.specs.Steps.{by_words}

-- the text of the compacted history as a journal
abbrev pub compacted_text : Core → Policy → List Entry → List ℕ
compacted_text c p h = journal2_text (digest_for c p) (compacted (shown c p) h)

-- ---- what it keeps

-- the reply does not say that the history is full
abbrev pub IsNotFull : Dims → Public → Reply → Type 0
IsNotFull s g x = (held : ℕ) → x ≡ Made 403 Plain (verdict_text s g (Full held)) → ⊥

-- whatever is asked from one history on, in turn, gets the same replies from the other one on, unless one says that the first is full
abbrev pub SameReplies : Core → Policy → List Entry → List Entry → Type 0
SameReplies c p h k = (asks : List (Turn Question)) → Each (IsNotFull c.dims (shown c p)) (replies (by_words c.dims) (world c p) h asks)
    → replies (by_words c.dims) (world c p) k asks ≡ replies (by_words c.dims) (world c p) h asks

-- What the compacted history keeps of a history. It is admissible, holds the same by no request, and gives the same changes for each
-- protected cell; its text as a journal recovers just it, and is no longer than a journal may be; and whatever is asked gets the same
-- replies, unless one says that the history is full.
pub record KeepsAll (c : Core) (p : Policy) (h : List Entry) : Type 0 where
  pub stands : StandsFor (shown c p) h (compacted (shown c p) h)
  pub recovers : history_of c p (compacted_text c p h) ≡ Ok (compacted (shown c p) h)
  pub short : length (compacted_text c p h) ≤ 2 ^ 28
  pub replies : SameReplies c p h (compacted (shown c p) h)

-- so it is of each admissible history of a cube under a policy
abbrev pub CompactionKeepsAll : Type 0
CompactionKeepsAll = (c : Core) (p : Policy) (h : List Entry) → IsCore c → IsPolicy c.dims p → IsAdmissible (shown c p) h → KeepsAll c p h
