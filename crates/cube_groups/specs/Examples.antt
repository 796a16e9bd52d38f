-- Two groups, and what is said of a file.
use Rattle.std.specs.Prelude.{ℕ, List, [], ◌∷◌, codes, Result, Ok, Err}
use Rattle.cube_groups.specs.GroupsFile.{groups_of}
use Rattle.cube_groups.specs.Words.{fault_words}
use Rattle.cube_groups.specs.declared.fault.GroupsFault.{GroupsFault}
use Rattle.cube_groups.specs.declared.group.GroupFile.{GroupFile}

abbrev pub two_groups : List GroupFile
two_groups =
    record { name = codes "staff"; policy = codes "policy.toml" }
    ∷ record { name = codes "board"; policy = codes "policy.toml" }
    ∷ []

abbrev pub words_of : Result (List GroupFile) GroupsFault → List ℕ
words_of (Ok groups) = codes "accepted"
words_of (Err fault) = fault_words fault

-- the words of the first fault of a file
abbrev pub said : List ℕ → List ℕ
said bytes = words_of (groups_of bytes)
