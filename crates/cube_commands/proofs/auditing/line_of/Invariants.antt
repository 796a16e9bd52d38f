use Rattle.cube_commands.proofs.auditing.line_of.Given as goal

abbrev pub ghosts-line_in : goal.ghosts-line_in
ghosts-line_in a = record { name = a.blank.name; parts = a.blank.parts }
