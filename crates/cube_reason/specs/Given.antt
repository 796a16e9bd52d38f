-- What a reason is checked over.
use Rattle.std.specs.Prelude.{◌≡◌, ⊤, ℕ, Bool, true, List, Option, Some, None}
use Rattle.cube_model.specs.declared.entry.Entry.{Entry}
use Rattle.cube_model.specs.Cubes.{Dimension, Public, Each, are_levels}
use Rattle.cube_model.specs.declared.request.Request.{Request}
use Rattle.cube_model.specs.declared.verdict.Verdict.TheVariants.{Answer}
use Rattle.cube_model.specs.Entries.{is_allowed}
use Rattle.cube_model.specs.Verdicts.{verdict, IsAdmissible}

-- what each entry names is there
abbrev pub AreAllowed : Public → List Entry → Type 0
AreAllowed g h = Each (λ e. is_allowed g e ≡ true) h

-- the source, where there is one, is a cuboid
abbrev pub HasLevels : List Dimension → Option (List ℕ) → Type 0
HasLevels ds None = ⊤
HasLevels ds (Some s) = are_levels ds s ≡ true

-- where the answer is yes, the request is not answered behind an admissible history
abbrev pub RefusesWhere : Public → List Entry → Request → Bool → Type 0
RefusesWhere g h r taken = taken ≡ true → IsAdmissible g h → (fresh : Bool) → verdict g h r ≡ Answer fresh → ⊥
