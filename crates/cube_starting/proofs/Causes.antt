-- Why a run ended at its journals.
use Rattle.std.proofs.Common.{◌≡◌, ◌≢◌, List, inl, inr, refl}
use Rattle.cube_io.specs.Seen.{StoreState, Seen}
use Rattle.cube_model.specs.Cores.{Core}
use Rattle.cube_opening.specs.Causes.{HasCauses, only_store}
use Rattle.cube_opening.specs.declared.report.Report.{Report}
use Rattle.cube_opening.specs.declared.ruling.RuledGroup.{RuledGroup}
use Rattle.cube_opening.proofs.Causes.{own, no_memory, at_store}
use Rattle.cube_starting.specs.Grouping.{UnstartedGroups}
use Rattle.cube_starting.proofs.Unstarted as groups

-- at their journals
pub at_journals : {S : Type 0} (core : Core) (gs : List RuledGroup) (store : Seen StoreState S) (r : Report) → UnstartedGroups core gs store r → HasCauses (only_store store) r
at_journals core gs store r e = go (groups.status core gs store r e)
  where
    go : groups.IsOfJournals r.status → HasCauses (only_store store) r
    go (inl four) = own (inr (inr (inl four))) (record { files = refl; input = refl; out = refl; wire = refl })
    go (inr (inl seven)) = no_memory seven (record { files = refl; input = refl; out = refl; wire = refl })
    go (inr (inr nine)) = at_store nine (groups.failed core gs store r e nine) (groups.unasked core gs store r e) (record { files = refl; input = refl; out = refl; wire = refl })
