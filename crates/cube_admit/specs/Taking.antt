-- The history behind an entry of a log.
use Rattle.std.specs.Prelude.{List, [], ◌∷◌, ◌++◌, if◌then◌else◌}
use Rattle.cube_model.specs.declared.entry.Entry.{Entry}
use Rattle.cube_model.specs.declared.entry.Taken.{Taken}
use Rattle.cube_model.specs.Logs.{is_taken}

-- an entry that is taken becomes the last of the history, another does not
abbrev pub behind : List Entry → Entry → Taken → List Entry
behind h e t = if is_taken t then h ++ e ∷ [] else h
