-- The verdicts on requests that are asked one behind another, and what is counted of them.
use Rattle.std.specs.Prelude.{Bool, true, false, List, [], ◌∷◌, if◌then◌else◌}
use Rattle.cube_model.specs.declared.entry.Entry.{Entry}
use Rattle.cube_model.specs.declared.request.Request.{Request}
use Rattle.cube_model.specs.declared.verdict.Verdict.{Verdict}
use Rattle.cube_model.specs.declared.verdict.Verdict.TheVariants.{Answer, Full, SourceWould, Pair, Single}
use Rattle.cube_model.specs.Cubes.{Public}
use Rattle.cube_model.specs.Runs.{entered}
use Rattle.cube_model.specs.Verdicts.{verdict}
use Rattle.cube_engine.specs.Books.{is_answer}

-- the verdict on each request, behind the history that the earlier ones leave: a fresh answer enters it, nothing else does
abbrev pub verdicts : Public → List Entry → List Request → List Verdict
verdicts g h [] = []
verdicts g h (r ∷ rs) = verdict g h r ∷ verdicts g (entered h r (verdict g h r)) rs

-- the history that they leave
abbrev pub history_behind : Public → List Entry → List Request → List Entry
history_behind g h [] = h
history_behind g h (r ∷ rs) = history_behind g (entered h r (verdict g h r)) rs

-- ---- kinds of verdicts, beside an answer

-- the source would leave a protected cell uncut
abbrev pub is_source : Verdict → Bool
is_source (Answer fresh) = false
is_source (Full held) = false
is_source (SourceWould c t) = true
is_source (Pair k i j t) = false
is_source (Single k i t) = false

-- a link that is one place alone fixes a protected place
abbrev pub is_single : Verdict → Bool
is_single (Answer fresh) = false
is_single (Full held) = false
is_single (SourceWould c t) = false
is_single (Pair k i j t) = false
is_single (Single k i t) = true

-- a link of two places fixes a protected place
abbrev pub is_pair : Verdict → Bool
is_pair (Answer fresh) = false
is_pair (Full held) = false
is_pair (SourceWould c t) = false
is_pair (Pair k i j t) = true
is_pair (Single k i t) = false

-- the history holds as many requests as it can
abbrev pub is_full : Verdict → Bool
is_full (Answer fresh) = false
is_full (Full held) = true
is_full (SourceWould c t) = false
is_full (Pair k i j t) = false
is_full (Single k i t) = false

-- ---- answered requests

-- those of some requests whose verdicts, in turn, are answers
abbrev pub answered : List Request → List Verdict → List Request
answered [] vs = []
answered (r ∷ rs) [] = []
answered (r ∷ rs) (v ∷ vs) = if is_answer v then r ∷ answered rs vs else answered rs vs
