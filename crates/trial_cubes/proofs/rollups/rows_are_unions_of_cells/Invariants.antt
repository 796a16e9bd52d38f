use Rattle.trial_cubes.proofs.rollups.rows_are_unions_of_cells.Given as goal

abbrev pub ghosts-answered : goal.ghosts-answered
ghosts-answered g a = record { name = a.blank.name; parts = a.blank.parts }
