-- The verdict on an even box of a full core.
use Rattle.std.specs.Prelude.{◌≡◌, ℕ, ◌<◌, Bool, true, List, length}
use Rattle.cube_model.specs.declared.entry.Entry.{Entry}
use Rattle.cube_model.specs.declared.policy.Method.TheVariants.{Parity}
use Rattle.cube_model.specs.declared.request.Request.{Request}
use Rattle.cube_model.specs.declared.verdict.Verdict.{Verdict}
use Rattle.cube_model.specs.declared.verdict.Verdict.TheVariants.{Answer}
use Rattle.cube_model.specs.Cubes.{Public, Each}
use Rattle.cube_model.specs.Requests.{asks}
use Rattle.cube_model.specs.Protection.{method}
use Rattle.cube_model.specs.Entries.{requests, on}
use Rattle.cube_model.specs.Verdicts.{most_held}
use Rattle.cube_model.specs.EvenBoxes.{IsFull, IsBoxEntry, IsEvenBox}

-- On a full core an even box on a parity measure is answered behind any even boxes on it, unless the history is full.
abbrev pub AnswersEvenBoxes : Public → List Entry → Request → Verdict → Type 0
AnswersEvenBoxes g h r v = (m : ℕ) → asks m r ≡ true → method g m ≡ Parity → IsFull g → Each (IsBoxEntry g) (on m h) → IsEvenBox g r → length (requests h) < most_held → (fresh : Bool) × (v ≡ Answer fresh)
