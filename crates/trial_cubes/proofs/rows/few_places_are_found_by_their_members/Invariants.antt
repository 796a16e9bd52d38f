use Rattle.trial_cubes.proofs.rows.few_places_are_found_by_their_members.Given as goal

abbrev pub ghosts-answered_of_days : goal.ghosts-answered_of_days
ghosts-answered_of_days g a = record { name = a.blank.name; parts = a.blank.parts }
