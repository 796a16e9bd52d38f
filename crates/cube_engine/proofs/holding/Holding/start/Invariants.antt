use Rattle.cube_engine.proofs.holding.Holding.start.Given as goal

abbrev pub ghosts-roll_all : goal.ghosts-roll_all
ghosts-roll_all a = record { name = a.blank.name; parts = a.blank.parts }
