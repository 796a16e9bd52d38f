use Rattle.cube_carrying.proofs.points.missing_point.Given as goal

abbrev pub ghosts-first_missing : goal.ghosts-first_missing
ghosts-first_missing a = record { name = a.blank.name; parts = a.blank.parts }
