use Rattle.cube_seal.proofs.values.digest_of_values.Given as goal

abbrev pub ghosts-hash_values : goal.ghosts-hash_values
ghosts-hash_values a = record { name = a.blank.name; parts = a.blank.parts }
