-- What a shelf tells of its files, and what the folder over it tells.
use Rattle.std.specs.Prelude.{ℕ, List, None}
use Rattle.std.specs.declared.option.Option.{Option}
use Rattle.cube_io.specs.Seen.{FolderState}

-- of a shelf: the files by their names, where it tells them, and how often it refused a call
pub record ShelfState : Type 0 where
  pub files : Option (List (List ℕ × List ℕ))
  pub refused : ℕ

-- a shelf that tells no file
abbrev pub silent_shelf : ℕ → ShelfState
silent_shelf refused = record { files = None; refused = refused }

-- what a folder tells over a shelf: its files, and as its faults the calls that the shelf refused
abbrev pub folder_over : ShelfState → FolderState
folder_over shelf = record { files = shelf.files; asked = None; faults = shelf.refused }
