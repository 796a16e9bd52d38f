use Rattle.trial_cubes.proofs.rows.rows_are_groups_of_picked_places.Given as goal

abbrev pub ghosts-answered_of_pay : goal.ghosts-answered_of_pay
ghosts-answered_of_pay g a = record { name = a.blank.name; parts = a.blank.parts }
