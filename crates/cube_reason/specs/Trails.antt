-- The steps that led a search to a visit.
use Rattle.std.specs.List.{list_any}
use Rattle.std.specs.Prelude.{◌≡◌, ℕ, ◌<◌, true, false, not, List, length}
use Rattle.cube_model.specs.declared.link.Link.{Link}
use Rattle.cube_model.specs.Reasons as said
use Rattle.cube_model.specs.Reasons.{joins, are_steps, led_to, is_odd}
use Rattle.cube_reason.specs.declared.reasons.WalkStep.{WalkStep}
use Rattle.cube_reason.specs.declared.searching.Visit.{Visit}
use Rattle.cube_reason.specs.Searched.{visit_at}
use Rattle.cube_reason.specs.Tied.{bringer_view}
use Rattle.cube_reason.specs.Views.{steps_view}

-- a visit but the first has one before it
abbrev pub AreBack : List Visit → Type 0
AreBack visits = (k : ℕ) → 0 < k → k < length visits → (visit_at visits k).back < k

-- a pair that the origin names leads to the visit, at one step more
pub record IsJoined (named : said.Origin → List Link) (visits : List Visit) (k : ℕ) : Type 0 where
  pub pair : list_any (joins (visit_at visits (visit_at visits k).back).place (visit_at visits k).place) (named (bringer_view (visit_at visits k).by)) ≡ true
  pub odd : (visit_at visits k).odd ≡ not (visit_at visits (visit_at visits k).back).odd

pub record AreJoined (named : said.Origin → List Link) (visits : List Visit) : Type 0 where
  pub even : (visit_at visits 0).odd ≡ false
  pub joined : (k : ℕ) → 0 < k → k < length visits → IsJoined named visits k

-- the steps lead from the first visit to this one
pub record LeadsTo (named : said.Origin → List Link) (visits : List Visit) (k : ℕ) (steps : List WalkStep) : Type 0 where
  pub steps_are : are_steps named (visit_at visits 0).place (steps_view steps) ≡ true
  pub leads : led_to (visit_at visits 0).place (steps_view steps) ≡ (visit_at visits k).place
  pub odd : is_odd (steps_view steps) ≡ (visit_at visits k).odd
