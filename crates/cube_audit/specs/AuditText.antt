-- The line of an audit.
use Rattle.std.specs.Prelude.{⊤, ℕ, ◌<◌, List, [], ◌∷◌, ◌++◌, length, codes, decimal}
use Rattle.cube_model.specs.Dims.{Dims, measure_at}
use Rattle.cube_text.specs.Quoting.{printed}
use Rattle.cube_answers.specs.VerdictText.{bracketed, cell_text, CellFits}
use Rattle.cube_audit.specs.declared.auditing.Audited.{Audited}
use Rattle.cube_audit.specs.declared.auditing.Audited.TheVariants.{Yes, Inexact, Fixed}

abbrev pub audited_text : Dims → Audited → List ℕ
audited_text s (Yes n) = codes "yes " ++ decimal n ++ 10 ∷ []
audited_text s (Inexact k) = codes "no: item " ++ decimal k ++ 10 ∷ []
audited_text s (Fixed m t) = codes "no: measure " ++ printed (measure_at s m).name ++ codes ", cell " ++ bracketed (cell_text s t) ++ 10 ∷ []

-- what an audit names is there
abbrev pub IsThere : Dims → Audited → Type 0
IsThere s (Yes n) = ⊤
IsThere s (Inexact k) = ⊤
IsThere s (Fixed m t) = (m < length s.measures) × CellFits s t
