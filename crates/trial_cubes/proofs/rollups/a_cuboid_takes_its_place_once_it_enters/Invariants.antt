use Rattle.trial_cubes.proofs.rollups.a_cuboid_takes_its_place_once_it_enters.Given as goal

abbrev pub ghosts-told_in_turn : goal.ghosts-told_in_turn
ghosts-told_in_turn g a = record { name = a.blank.name; parts = a.blank.parts }
