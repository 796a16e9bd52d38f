use Rattle.cube_witness.proofs.twin.twin_facts.Given as goal

abbrev pub ghosts-write_twin : goal.ghosts-write_twin
ghosts-write_twin a = record { name = a.blank.name; parts = a.blank.parts }
