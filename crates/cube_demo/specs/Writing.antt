-- What the demonstration writes of what the made texts are read as.
use Rattle.std.specs.Prelude.{◌≡◌, ℕ, List, ⊤}
use Rattle.std.specs.declared.option.Option.{Option}
use Rattle.std.specs.Io.KnownBytes.{Appends}
use Rattle.cube_io.specs.Content.{AppendsPrefix}
use Rattle.cube_model.specs.declared.policy.Policy.{Policy}
use Rattle.cube_model.specs.declared.request.Request.{Request}
use Rattle.cube_model.specs.Cores.{Core, shown}
use Rattle.cube_made.specs.Reading.{AreRead}
use Rattle.cube_demo.specs.Summary.{summary_text}
use Rattle.cube_demo.specs.declared.fault.DemoFault.{DemoFault}
use Rattle.cube_demo.specs.declared.fault.DemoFault.TheVariants.{NoMemory, OutputFailed}

-- The text is the summary of what the made texts are read as.
pub record IsSummary (number size : ℕ) (text : List ℕ) : Type 0 where
  pub core : Core
  pub policy : Policy
  pub requests : List Request
  pub are_read : AreRead number size core policy requests
  pub text_is : text ≡ summary_text size (shown core policy) requests

-- a summary was put, whole
pub record Prints (number size : ℕ) (old new : Option (List ℕ)) : Type 0 where
  pub text : List ℕ
  pub is_summary : IsSummary number size text
  pub grows : Appends old new text

-- a summary was put, or the front of one
pub record PrintsPart (number size : ℕ) (old new : Option (List ℕ)) : Type 0 where
  pub text : List ℕ
  pub is_summary : IsSummary number size text
  pub grows : AppendsPrefix old new text

-- why the summary was not put whole
abbrev pub EndsShort : ℕ → ℕ → Option (List ℕ) → Option (List ℕ) → DemoFault → Type 0
EndsShort number size old new NoMemory = ⊤
EndsShort number size old new OutputFailed = PrintsPart number size old new
