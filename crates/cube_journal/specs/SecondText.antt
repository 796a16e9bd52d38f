-- The text of a history of sources and links, as a journal of the second version.
use Rattle.std.specs.Prelude.{ℕ, List, [], ◌∷◌, ◌++◌, codes}
use Rattle.std.specs.List.{flat_map}
use Rattle.cube_model.specs.declared.entry.Entry.{Entry}
use Rattle.cube_model.specs.declared.entry.Entry.TheVariants.{Asked, Source, Linked}
use Rattle.cube_model.specs.declared.link.Link.{Link}
use Rattle.cube_model.specs.declared.link.Link.TheVariants.{Pair, Single}
use Rattle.cube_journal.specs.PublicText.{number_fields}
use Rattle.cube_journal.specs.Recovery.{head_line}
use Rattle.cube_journal.specs.declared.first.Version.TheVariants.{Two}

-- the places that a link ties together
abbrev pub link_places : Link → List ℕ
link_places (Pair i j) = i ∷ j ∷ []
link_places (Single i) = i ∷ []

-- the line of a source or a link; a request has none in this text
abbrev pub entry_line : Entry → List ℕ
entry_line (Asked r) = []
entry_line (Source m levels) = codes "s" ++ number_fields (m ∷ levels) ++ 10 ∷ []
entry_line (Linked m link) = codes "k" ++ number_fields (m ∷ link_places link) ++ 10 ∷ []

-- a first line, and one for each entry
abbrev pub journal2_text : List ℕ → List Entry → List ℕ
journal2_text digest entries = head_line Two digest ++ flat_map entry_line entries
